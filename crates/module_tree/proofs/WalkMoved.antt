-- The walk of a text from two states: the same segments, moved by bytes and lines.
use Rattle.std.proofs.Common.{◌≡◌, ◌⊎◌, inl, inr, ℕ, zero, suc, ◌+◌, ◌-◌, ◌<◌, Bool, true, false, ◌&&◌, ◌||◌, nat_eq, List, [], ◌∷◌, length, Option, Some, None, refl, sym, ap, subst, ◌∙◌, arith}
use Rattle.std.specs.Prelude.{if◌then◌else◌}
use Rattle.std.proofs.lemmas.Bool.{and_parts}
use Rattle.tla_token.specs.declared.place.Place.{Place}
use Rattle.tla_token.specs.Places.{after}
use Rattle.tla_token.specs.Places as places
use Rattle.module_tree.specs.TextFront.{Text}
use Rattle.module_tree.specs.HeaderAndRegion.{is_begin}
use Rattle.module_tree.specs.Walk.{Segment, bytes, is_region, State, at_end_line, opened, in_module, segment_at, after_segment, Located, walk_from}
use Rattle.module_tree.specs.laws.Walks.{Near, Moved, is_common, are_common, Fit}
use Rattle.module_tree.proofs.WalkResumed.{step}

-- ---- places

abbrev pub Below : ℕ → ℕ → Place → Place → Type 0
Below m n p q = (p.line + n ≡ q.line + m) × (p.col ≡ q.col)

step_below : (m n : ℕ) (p q : Place) (b : ℕ) → Below m n p q → Below m n (places.step p b) (places.step q b)
step_below m n p q b (l, c) = by (nat_eq b 10) refl (nat_eq b 9) refl
  where
    by : (i : Bool) → nat_eq b 10 ≡ i → (j : Bool) → nat_eq b 9 ≡ j → Below m n (places.step p b) (places.step q b)
    by true i j jj = rw i (omega (arith, l), refl)
    by false i true j = rw (i, j) (l, rw c refl)
    by false i false j = rw (i, j) (l, rw c refl)

pub after_below : (m n : ℕ) (p q : Place) (w : Text) → Below m n p q → Below m n (after p w) (after q w)
after_below m n p q [] h = h
after_below m n p q (b ∷ w) h = after_below m n (places.step p b) (places.step q b) w (step_below m n p q b h)

-- ---- segments

module_same : (k l first : Bool) (b : ℕ) (s : Text) → (k ≡ l) ⊎ (is_common (in_module k first b s) ≡ true) → in_module l first b s ≡ in_module k first b s
module_same k l first b s (inl e) = ap (λ (k : Bool). in_module k first b s) (sym e)
module_same k l first b s (inr c) = by (first && is_begin (b ∷ s)) refl
  where
    wild : (o : Option (Text × Text)) → is_common (opened o (b ∷ s)) ≡ false
    wild None = refl
    wild (Some (v, w)) = refl

    by : (i : Bool) → (first && is_begin (b ∷ s)) ≡ i → in_module l first b s ≡ in_module k first b s
    by true i =
        let is : in_module k first b s ≡ opened (if k then None else at_end_line false (b ∷ s)) (b ∷ s) = rw i refl in
        let x : true ≡ false = sym c ∙ ap is_common is ∙ wild (if k then None else at_end_line false (b ∷ s)) in absurd cc
    by false i = rw i refl

pub same_segment : (st nd : State) (b : ℕ) (s : Text) → st.headed ≡ true → nd.headed ≡ true → nat_eq st.place.col 1 ≡ nat_eq nd.place.col 1 → (st.marked ≡ nd.marked) ⊎ (is_common (segment_at st b s) ≡ true)
    → segment_at nd b s ≡ segment_at st b s
same_segment st nd b s h k c fit = sym there ∙ module_same st.marked nd.marked (nat_eq nd.place.col 1) b s (over fit) ∙ sym here
  where
    here : segment_at st b s ≡ in_module st.marked (nat_eq nd.place.col 1) b s
    here = rw (h, c) refl

    there : in_module nd.marked (nat_eq nd.place.col 1) b s ≡ segment_at nd b s
    there = rw k refl

    over : (st.marked ≡ nd.marked) ⊎ (is_common (segment_at st b s) ≡ true) → (st.marked ≡ nd.marked) ⊎ (is_common (in_module st.marked (nat_eq nd.place.col 1) b s) ≡ true)
    over (inl e) = inl e
    over (inr d) = inr (sym (ap is_common here) ∙ d)

pub fit_first : (k l : Bool) (d : Located) (ds : List Located) → Fit k l (d ∷ ds) → (k ≡ l) ⊎ (is_common d.is ≡ true)
fit_first k l d ds (inl e) = inl e
fit_first k l d ds (inr c) = inr (and_parts (is_common d.is) (are_common ds) c).0

pub fit_rest : (k l m : Bool) (d : Located) (ds es : List Located) → ds ≡ es → Fit k l (d ∷ ds) → Fit (k || m) (l || m) es
fit_rest k l m d ds es e (inl f) = inl (ap (λ (k : Bool). k || m) f)
fit_rest k l m d ds es e (inr c) = inr (ap are_common (sym e) ∙ (and_parts (is_common d.is) (are_common ds) c).1)

moved_within : (fuel i j m n : ℕ) (st nd : State) (t : Text) → length t < fuel → st.headed ≡ true → nd.headed ≡ true → Near i j m n st.at st.place nd.at nd.place
    → Fit st.marked nd.marked (walk_from st 0 t) → Moved i j m n (walk_from st 0 t) (walk_from nd 0 t)
moved_within zero i j m n st nd t l h k near fit = absurd (omega arith)
moved_within (suc fuel) i j m n st nd [] l h k near fit = tt
moved_within (suc fuel) i j m n st nd (b ∷ s) l h k near fit =
    let g = segment_at st b s in
    let next = after_segment st g in
    let other = after_segment nd g in
    let f = step st b s in
    let first : Located = record { at = st.at; place = st.place; is = g } in
    let more = walk_from next (length (bytes g) - 1) s in
    let here : Segment → List Located = λ e. record { at = nd.at; place = nd.place; is = e } ∷ walk_from (after_segment nd e) (length (bytes e) - 1) s in
    let Goal : List Located → Type 0 = λ es. Moved i j m n (walk_from st 0 (b ∷ s)) es in
    let Rest : List Located → Type 0 = λ ds. Moved i j m n ds (walk_from other (length (bytes g) - 1) s) in
    let More : List Located → Type 0 = λ es. Moved i j m n (walk_from next 0 f.rest) es in
    let shorter : length f.rest < fuel = (let n = f.shorter in omega (arith, l)) in
    let below = after_below m n st.place nd.place (bytes g) (near.1, near.2) in
    let count : next.at + j ≡ other.at + i = (let e = near.0 in omega (arith, e)) in
    let fit_more = fit_rest st.marked nd.marked (is_region g) first more (walk_from next 0 f.rest) (f.over next) fit in
    let deeper : Moved i j m n (walk_from next 0 f.rest) (walk_from other 0 f.rest) =
    moved_within fuel i j m n next other f.rest shorter (rw h refl) (rw k refl) (count, below.0, below.1) fit_more in
    subst Goal (sym (ap here (same_segment st nd b s h k (ap (λ (c : ℕ). nat_eq c 1) near.2) (fit_first st.marked nd.marked first more fit))))
    (refl, near, subst Rest (sym (f.over next)) (subst More (sym (f.over other)) deeper))

-- from two states in a module at one column
pub moved : (i j m n : ℕ) (st nd : State) (t : Text) → st.headed ≡ true → nd.headed ≡ true → Near i j m n st.at st.place nd.at nd.place
    → Fit st.marked nd.marked (walk_from st 0 t) → Moved i j m n (walk_from st 0 t) (walk_from nd 0 t)
moved i j m n st nd t h k near fit = moved_within (suc (length t)) i j m n st nd t (omega arith) h k near fit
