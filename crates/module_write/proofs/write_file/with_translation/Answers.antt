-- Proves what is asked of `with_translation`.
use Rattle.std.proofs.Common.{◌≡◌, ℕ, ◌-◌, Bool, true, false, not, cond, [], ◌++◌, length, refl, sym, ap, ◌∙◌, arith, take, drop, append_assoc}
use Rattle.std.specs.Prelude.{is_some, codes, if◌then◌else◌}
use Rattle.std.proofs.lemmas.List.{length-take-le, take_rest}
use Rattle.module_tree.specs.TextFront.{Text}
use Rattle.module_tree.specs.Walk.{walk}
use Rattle.module_tree.specs.FileParts.{region_of}
use Rattle.module_tree.specs.WithTranslation.{begin_line, end_line, line_end_if_new}
use Rattle.module_write.proofs.SpotWithin.{spot_within}
use Rattle.module_write.proofs.write_file.with_translation.Goals as goal

line_end_is : (r is_new : Bool) → r ≡ not is_new → cond is_new (codes "\n") [] ≡ (if r then [] else codes "\n")
line_end_is true true e = cc
line_end_is true false e = refl
line_end_is false true e = refl
line_end_is false false e = cc

filled : (x t : Text) (from to : ℕ) (is_new : Bool) (o p q r s u w b e : Text) → is_some (region_of (walk x)) ≡ not is_new → o ≡ [] → p ≡ o ++ take from x → q ≡ p ++ b → b ≡ begin_line → r ≡ q ++ t → s ≡ r ++ e → e ≡ end_line
    → u ≡ s ++ cond is_new (codes "\n") [] → w ≡ u ++ take (length x - to) (drop to x) → w ≡ take from x ++ (begin_line ++ (t ++ (end_line ++ (line_end_if_new x ++ drop to x))))
filled x t from to is_new o p q r s u w b e n ho hp hq hb hr hs he hu hw =
    let last : take (length x - to) (drop to x) ≡ drop to x = take_rest x to in
    hw ∙ ap (λ (v : Text). u ++ v) last
    ∙ ap (λ (v : Text). v ++ drop to x) (hu ∙ ap (λ (v : Text). s ++ v) (line_end_is (is_some (region_of (walk x))) is_new n))
    ∙ ap (λ (v : Text). (v ++ line_end_if_new x) ++ drop to x) (hs ∙ (λ i. (hr ∙ ap (λ (v : Text). v ++ t) (hq ∙ (λ j. (hp ∙ ap (λ (v : Text). v ++ take from x) ho) j ++ hb j))) i ++ he i))
    ∙ joined (take from x) begin_line t end_line (line_end_if_new x) (drop to x)
  where
    joined : (a b c d e f : Text) → ((((a ++ b) ++ c) ++ d) ++ e) ++ f ≡ a ++ (b ++ (c ++ (d ++ (e ++ f))))
    joined a b c d e f = simp append_assoc

pub slice_bounds-extend_from_slice-end : goal.slice_bounds-extend_from_slice-end
slice_bounds-extend_from_slice-end c =
    let x = c.args.parts.now.text.now in
    let s = spot_within x _ c.requires.spot in
    sym (length-take-le c.args.parts.now.spot.from x (omega (arith, s.ordered, s.inside)))

pub slice_bounds-extend_from_slice-count : goal.slice_bounds-extend_from_slice-count
slice_bounds-extend_from_slice-count c = (let s = spot_within c.args.parts.now.text.now _ c.requires.spot in s.inside)

pub slice_bounds-extend_from_slice-start : goal.slice_bounds-extend_from_slice-start
slice_bounds-extend_from_slice-start c = (let s = spot_within c.args.parts.now.text.now _ c.requires.spot in s.inside)

pub returns : goal.returns
returns c =
    let parts = c.args.parts.now in
    record {
      at = record { from = parts.spot.from; to = parts.spot.to };
      is_spot = c.requires.spot;
      is =
          filled parts.text.now c.args.translation.now parts.spot.from parts.spot.to parts.is_new c.new-out.result.items c.extend_from_slice.new.self.items c.extend_from_slice-2.new.self.items c.extend_from_slice-3.new.self.items
          c.extend_from_slice-4.new.self.items c.end_line_if.new.out.items c.extend_from_slice-5.new.self.items c.as_bytes.result.now c.as_bytes-2.result.now c.requires.is_new c.new-out.ensures.items c.in_ok-extend_from_slice.ensures.items
          c.in_ok-extend_from_slice-2.ensures.items (c.as_bytes.ensures.value ∙ c.begin_text.ensures) c.in_ok-extend_from_slice-3.ensures.items c.in_ok-extend_from_slice-4.ensures.items
          (c.as_bytes-2.ensures.value ∙ c.end_text.ensures) c.in_ok-end_line_if.ensures c.in_ok-extend_from_slice-5.ensures.items;
    }
