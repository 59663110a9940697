-- The walk of a text from two states of which both begin a line or neither: the same segments.
use Rattle.std.proofs.Common.{◌≡◌, ℕ, zero, suc, ◌-◌, ◌<◌, ◌≤◌, nat_eq, Bool, true, false, List, [], ◌∷◌, length, map, refl, sym, ap, ◌∙◌, arith}
use Rattle.std.proofs.lemmas.Bool.{eqb-true, both_ways}
use Rattle.tla_token.specs.declared.place.Place.{Place}
use Rattle.tla_token.specs.Places.{after}
use Rattle.tla_token.specs.Places as places
use Rattle.module_tree.specs.TextFront.{Text}
use Rattle.module_tree.specs.Walk.{Segment, bytes, is_region, State, segment_at, after_segment, Located, walk_from}
use Rattle.module_tree.specs.laws.Walks.{Fit}
use Rattle.module_tree.specs.laws.Swaps.{segments}
use Rattle.module_tree.proofs.WalkResumed.{step}
use Rattle.module_tree.proofs.WalkMoved.{same_segment, fit_first, fit_rest}
use Rattle.module_tree.proofs.WalkPlace.{some_col, line_step}

-- ---- where lines begin

-- after a byte a line begins where it was a newline
pub begins_after : (p : Place) (b : ℕ) → 1 ≤ p.col → nat_eq (places.step p b).col 1 ≡ nat_eq b 10
begins_after p b l = by (nat_eq b 10) refl (nat_eq (places.step p b).col 1) refl
  where
    by : (k : Bool) → nat_eq b 10 ≡ k → (j : Bool) → nat_eq (places.step p b).col 1 ≡ j → j ≡ k
    by true k j jj = sym jj ∙ rw k refl
    by false k true j = absurd (both_ways (nat_eq b 10) k (line_step p b l (eqb-true (places.step p b).col 1 j)))
    by false k false j = refl

same_lines : (p q : Place) (w : Text) → 1 ≤ p.col → 1 ≤ q.col → nat_eq p.col 1 ≡ nat_eq q.col 1 → nat_eq (after p w).col 1 ≡ nat_eq (after q w).col 1
same_lines p q [] l m e = e
same_lines p q (b ∷ w) l m e = same_lines (places.step p b) (places.step q b) w (some_col p b) (some_col q b) (begins_after p b l ∙ sym (begins_after q b m))

pub some_after : (p : Place) (w : Text) → 1 ≤ p.col → 1 ≤ (after p w).col
some_after p [] l = l
some_after p (b ∷ w) l = some_after (places.step p b) w (some_col p b)

-- ---- segments

-- what is here, and whether a line begins
abbrev pub shown : List Located → List (Segment × Bool)
shown ds = map (λ d. (d.is, nat_eq d.place.col 1)) ds

alike_within : (fuel : ℕ) (st nd : State) (t : Text) → length t < fuel → st.headed ≡ true → nd.headed ≡ true → 1 ≤ st.place.col → 1 ≤ nd.place.col → nat_eq st.place.col 1 ≡ nat_eq nd.place.col 1
    → Fit st.marked nd.marked (walk_from st 0 t) → shown (walk_from st 0 t) ≡ shown (walk_from nd 0 t)
alike_within zero st nd t l h k p q c fit = absurd (omega arith)
alike_within (suc fuel) st nd [] l h k p q c fit = refl
alike_within (suc fuel) st nd (b ∷ s) l h k p q c fit =
    let g = segment_at st b s in
    let next = after_segment st g in
    let other = after_segment nd g in
    let f = step st b s in
    let first : Located = record { at = st.at; place = st.place; is = g } in
    let more = walk_from next (length (bytes g) - 1) s in
    let shorter : length f.rest < fuel = (let n = f.shorter in omega (arith, l)) in
    let fit_more = fit_rest st.marked nd.marked (is_region g) first more (walk_from next 0 f.rest) (f.over next) fit in
    let deeper : shown (walk_from next 0 f.rest) ≡ shown (walk_from other 0 f.rest) =
    alike_within fuel next other f.rest shorter (rw h refl) (rw k refl) (some_after st.place (bytes g) p) (some_after nd.place (bytes g) q) (same_lines st.place nd.place (bytes g) p q c) fit_more in
    let same : g ≡ segment_at nd b s = sym (same_segment st nd b s h k c (fit_first st.marked nd.marked first more fit)) in
    ap (λ (ds : List Located). (g, nat_eq st.place.col 1) ∷ shown ds) (f.over next) ∙ (λ i. (g, c i) ∷ deeper i) ∙ ap (λ (ds : List Located). (g, nat_eq nd.place.col 1) ∷ shown ds) (sym (f.over other))
    ∙ ap (λ (e : Segment). (e, nat_eq nd.place.col 1) ∷ shown (walk_from (after_segment nd e) (length (bytes e) - 1) s)) same

pub shown_alike : (st nd : State) (t : Text) → st.headed ≡ true → nd.headed ≡ true → 1 ≤ st.place.col → 1 ≤ nd.place.col → nat_eq st.place.col 1 ≡ nat_eq nd.place.col 1
    → Fit st.marked nd.marked (walk_from st 0 t) → shown (walk_from st 0 t) ≡ shown (walk_from nd 0 t)
shown_alike st nd t h k p q c fit = alike_within (suc (length t)) st nd t (omega arith) h k p q c fit

segments_shown : (ds : List Located) → map (λ p. p.0) (shown ds) ≡ segments ds
segments_shown [] = refl
segments_shown (d ∷ ds) = ap (λ (gs : List Segment). d.is ∷ gs) (segments_shown ds)

pub same_segments : (ds es : List Located) → shown ds ≡ shown es → segments ds ≡ segments es
same_segments ds es e = sym (segments_shown ds) ∙ ap (map (λ p. p.0)) e ∙ segments_shown es

pub alike : (st nd : State) (t : Text) → st.headed ≡ true → nd.headed ≡ true → 1 ≤ st.place.col → 1 ≤ nd.place.col → nat_eq st.place.col 1 ≡ nat_eq nd.place.col 1
    → Fit st.marked nd.marked (walk_from st 0 t) → segments (walk_from st 0 t) ≡ segments (walk_from nd 0 t)
alike st nd t h k p q c fit = same_segments (walk_from st 0 t) (walk_from nd 0 t) (shown_alike st nd t h k p q c fit)
