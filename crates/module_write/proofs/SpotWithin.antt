-- The place of a translation is within the file.
use Rattle.std.proofs.Common.{◌≡◌, ◌+◌, ◌≤◌, List, ◌∷◌, ◌++◌, length, Option, Some, None, refl, sym, ap, ◌∙◌, arith, length-append, append_assoc, find}
use Rattle.std.proofs.lemmas.Option.{same_Some, none-some}
use Rattle.tla_token.proofs.Longest.{find_passes}
use Rattle.module_tree.specs.TextFront.{Text}
use Rattle.module_tree.specs.Walk.{is_region, bytes, Located, walk}
use Rattle.module_tree.specs.FileParts.{Span, span_of, region_of, after_comment, holds_algorithm, is_newline, insertion, spot, before_first, after_first, up_to_first}
use Rattle.module_tree.specs.laws.Walks.{text_of}
use Rattle.module_tree.proofs.WalkPlace.{up_to_whole, before_whole, text_append}
use Rattle.module_tree.proofs.WalkKept.{at_is, newline_is}
use Rattle.module_tree.proofs.WalkWhole.{whole}

segment_within : (x : Text) (ds es : List Located) (d : Located) → walk x ≡ ds ++ d ∷ es → d.at + length (bytes d.is) ≤ length x
segment_within x ds es d w =
    let t : text_of (ds ++ d ∷ es) ≡ x = ap text_of (sym w) ∙ whole x in
    omega (arith, at_is ds es d x w, ap length t, ap length (text_append ds (d ∷ es)), length-append (text_of ds) (text_of (d ∷ es)), length-append (bytes d.is) (text_of es))

pub record Within (x : Text) (s : Span) : Type 0 where
  pub ordered : s.from ≤ s.to
  pub inside : s.to ≤ length x

pub spot_within : (x : Text) (s : Span) → spot (walk x) ≡ Some s → Within x s
spot_within x s e = by (region_of (walk x)) refl
  where
    new : insertion (walk x) ≡ Some s → Within x s
    new i = on (find is_newline (after_comment (walk x))) refl
      where
        on : (o : Option Located) → find is_newline (after_comment (walk x)) ≡ o → Within x s
        on None f = (let n : None ≡ Some s = rw f at i in absurd (none-some s n))
        on (Some d) f =
            let place : Span = record { from = d.at + 1; to = d.at + 1 } in
            let is : place ≡ s = same_Some place s (rw f at i) in
            let front = up_to_first holds_algorithm (walk x) ++ before_first is_newline (after_comment (walk x)) in
            let all : walk x ≡ front ++ d ∷ after_first is_newline (after_comment (walk x)) =
            sym (up_to_whole holds_algorithm (walk x)) ∙ ap (λ (ds : List Located). up_to_first holds_algorithm (walk x) ++ ds) (before_whole is_newline (after_comment (walk x)) d f)
            ∙ sym (append_assoc (up_to_first holds_algorithm (walk x)) (before_first is_newline (after_comment (walk x))) (d ∷ after_first is_newline (after_comment (walk x)))) in
            let one : length (bytes d.is) ≡ 1 = ap (λ g. length (bytes g)) (newline_is d (find_passes is_newline (after_comment (walk x)) d f)) in
            let less = segment_within x front (after_first is_newline (after_comment (walk x))) d all in
            record {
              ordered = omega (arith, ap (λ (s : Span). s.from) is, ap (λ (s : Span). s.to) is);
              inside = omega (arith, less, one, ap (λ (s : Span). s.to) is);
            }

    by : (o : Option Located) → region_of (walk x) ≡ o → Within x s
    by None r = (let i : insertion (walk x) ≡ Some s = rw r at e in new i)
    by (Some d) r =
        let is : span_of d ≡ s = same_Some (span_of d) s (rw r at e) in
        let less = segment_within x (before_first (λ d. is_region d.is) (walk x)) (after_first (λ d. is_region d.is) (walk x)) d (before_whole (λ d. is_region d.is) (walk x) d r) in
        record {
          ordered = omega (arith, ap (λ (s : Span). s.from) is, ap (λ (s : Span). s.to) is);
          inside = omega (arith, less, ap (λ (s : Span). s.to) is);
        }
