-- In a written file the translation is found again, and another one takes its place.
use Rattle.std.proofs.Common.{◌≡◌, ℕ, ◌+◌, Bool, true, false, not, ◌||◌, List, [], ◌∷◌, ◌++◌, length, take, drop, Option, Some, refl, sym, ap, ◌∙◌, arith, find, codes, append_assoc, length-append}
use Rattle.std.specs.Prelude.{if◌then◌else◌, is_some}
use Rattle.std.specs.List.{list_all}
use Rattle.std.proofs.lemmas.Bool.{and_parts, and_from, not-true}
use Rattle.std.proofs.Math.Seq.{take-append_seam, drop-append_seam}
use Rattle.module_tree.specs.TextFront.{Text}
use Rattle.module_tree.specs.Walk.{bytes, is_region, State, after_segment, Located, walk, at_start}
use Rattle.module_tree.specs.FileParts.{Span, span_of, region_of, spot}
use Rattle.module_tree.specs.WithTranslation.{begin_line, end_line, WithTranslation}
use Rattle.module_tree.specs.laws.Walks.{text_of, after_all, made, located}

or_false : (a b : Bool) → (a || b) ≡ false → (a ≡ false) × (b ≡ false)
or_false true b e = absurd cc
or_false false b e = (refl, e)

was_unmarked : (st : State) (ds : List Located) → (after_all st ds).marked ≡ false → st.marked ≡ false
was_unmarked st [] e = e
was_unmarked st (d ∷ ds) e = (or_false st.marked (is_region d.is) (was_unmarked (after_segment st d.is) ds e)).0

abbrev no_regions : List Located → Bool
no_regions ds = list_all (λ d. not (is_region d.is)) ds

none_marked : (st : State) (ds : List Located) → (after_all st ds).marked ≡ false → no_regions ds ≡ true
none_marked st [] e = refl
none_marked st (d ∷ ds) e =
    let here = (or_false st.marked (is_region d.is) (was_unmarked (after_segment st d.is) ds e)).1 in
    and_from (not (is_region d.is)) (no_regions ds) (ap not here) (none_marked (after_segment st d.is) ds e)

pub found_after : (ds es : List Located) (d : Located) → no_regions ds ≡ true → is_region d.is ≡ true → find (λ d. is_region d.is) (ds ++ d ∷ es) ≡ Some d
found_after [] es d n h = rw h refl
found_after (c ∷ ds) es d n h =
    let p = and_parts (not (is_region c.is)) (no_regions ds) n in
    rw (not-true (is_region c.is) p.0, found_after ds es d p.1 h) refl

pub at_after : (st : State) (ds : List Located) → (after_all st ds).at ≡ st.at + length (text_of ds)
at_after st [] = omega arith
at_after st (d ∷ ds) = (let e = at_after (after_segment st d.is) ds in omega (arith, e, length-append (bytes d.is) (text_of ds)))

at_start_is : (ds : List Located) → (after_all at_start ds).at ≡ length (text_of ds)
at_start_is ds = at_after at_start ds ∙ none (length (text_of ds))
  where
    none : (n : ℕ) → 0 + n ≡ n
    none n = omega arith

-- the region is found
region_there : (w t : Text) (ds more : List Located) → walk w ≡ ds ++ located (after_all at_start ds) (made t) ∷ more → (after_all at_start ds).marked ≡ false
    → region_of (walk w) ≡ Some (located (after_all at_start ds) (made t))
region_there w t ds more walks unmarked =
    ap region_of walks ∙ found_after ds more (located (after_all at_start ds) (made t)) (none_marked at_start ds unmarked) refl

spot_there : (ds : List Located) (d : Located) → region_of ds ≡ Some d → spot ds ≡ Some (span_of d)
spot_there ds d e = rw e refl

after_it : (a v t w c g : Text) → g ≡ (v ++ t) ++ w → drop (length a + length g) (a ++ (v ++ (t ++ (w ++ c)))) ≡ c
after_it a v t w c g e =
    let joined : a ++ (v ++ (t ++ (w ++ c))) ≡ (a ++ g) ++ c =
    ap (λ (x : Text). a ++ x) (sym (append_assoc v t (w ++ c)) ∙ sym (append_assoc (v ++ t) w c) ∙ ap (λ (x : Text). x ++ c) (sym e)) ∙ sym (append_assoc a g c) in
    ap (λ (n : ℕ). drop n (a ++ (v ++ (t ++ (w ++ c))))) (sym (length-append a g)) ∙ ap (λ (x : Text). drop (length (a ++ g)) x) joined ∙ drop-append_seam (a ++ g) c

abbrev around_by : Text → Text → Span → Option Located → Text
around_by w v r o = take r.from w ++ (begin_line ++ (v ++ (end_line ++ ((if is_some o then [] else codes "\n") ++ drop r.to w))))

put_by : (w v u a c : Text) (d : Located) → WithTranslation w v u → region_of (walk w) ≡ Some d → take (span_of d).from w ≡ a → drop (span_of d).to w ≡ c
    → u ≡ a ++ (begin_line ++ (v ++ (end_line ++ c)))
put_by w v u a c d around e front back =
    around.is
    ∙ ap (λ (o : Option Located). around_by w v around.at o) e
    ∙ ap (λ (q : Span). around_by w v q (Some d)) (one_span around.at (span_of d) (sym around.is_spot ∙ spot_there (walk w) d e))
    ∙ ap (λ (x : Text). x ++ (begin_line ++ (v ++ (end_line ++ drop (span_of d).to w)))) front
    ∙ ap (λ (x : Text). a ++ (begin_line ++ (v ++ (end_line ++ x)))) back
  where
    one_span : (p q : Span) → Some p ≡ Some q → p ≡ q
    one_span p q e = cc

-- another translation takes the place of the one
pub again : (a t c v u : Text) (ds more : List Located) → walk (a ++ (begin_line ++ (t ++ (end_line ++ c)))) ≡ ds ++ located (after_all at_start ds) (made t) ∷ more → text_of ds ≡ a → (after_all at_start ds).marked ≡ false
    → WithTranslation (a ++ (begin_line ++ (t ++ (end_line ++ c)))) v u → u ≡ a ++ (begin_line ++ (v ++ (end_line ++ c)))
again a t c v u ds more walks bytes_are unmarked around =
    let w = a ++ (begin_line ++ (t ++ (end_line ++ c))) in
    let d = located (after_all at_start ds) (made t) in
    let size : d.at ≡ length a = at_start_is ds ∙ ap (λ (x : Text). length x) bytes_are in
    let front : take d.at w ≡ a = ap (λ (n : ℕ). take n w) size ∙ take-append_seam a (begin_line ++ (t ++ (end_line ++ c))) in
    let back : drop (d.at + length (bytes (made t))) w ≡ c = ap (λ (n : ℕ). drop (n + length (bytes (made t))) w) size ∙ after_it a begin_line t end_line c (bytes (made t)) refl in
    put_by w v u a c d around (region_there w t ds more walks unmarked) front back
