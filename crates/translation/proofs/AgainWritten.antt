-- Translating again changes nothing: what is written for the algorithm that is in a file with a translation, beside what that file has outside, is the translation that is there, and puts the same file back.
use Rattle.std.proofs.Common.{◌≡◌, ◌<◌, length, [], ◌++◌, take, drop, Bool, sym, ap, ◌∙◌, subst}
use Rattle.std.proofs.lemmas.Option.{same_Some}
use Rattle.tla_token.specs.Limits.{past_text}
use Rattle.tla_value.specs.Definitions.{no_state}
use Rattle.tla_value.specs.Outside.{Outside}
use Rattle.tla_value.specs.Stops.{plain}
use Rattle.module_tree.specs.FileParts.{Span}
use Rattle.module_tree.specs.Layout.{layout}
use Rattle.module_tree.specs.Module.{outside_of}
use Rattle.module_tree.specs.TextFront.{Text}
use Rattle.module_tree.specs.Walk.{walk}
use Rattle.module_tree.specs.WithTranslation.{begin_line, end_line, line_end_if_new, WithTranslation}
use Rattle.module_tree.specs.laws.Kept.{IsFine}
use Rattle.module_tree.specs.laws.Walks.{IsInside}
use Rattle.module_tree.specs.laws.Outsides.{HasOutside, SameOutside}
use Rattle.module_tree.proofs.FineKept.{fine_kept}
use Rattle.module_tree.proofs.ModuleKept.{outside_kept}
use Rattle.module_tree.proofs.OutsideAlike.{alike_after, same_outside}
use Rattle.module_tree.proofs.PutThere.{put_there}
use Rattle.module_tree.proofs.SomeOutside.{one_outside_of}
use Rattle.module_tree.proofs.WalkKept.{has_spot}
use Rattle.module_tree.proofs.WalkSame.{keeps_file, put_again}
use Rattle.module_tree.proofs.WrittenRegion.{layout_inside}
use Rattle.pcal_tree.specs.Algorithm.{Algorithm}
use Rattle.pcal_tree.specs.Placeless.{placeless}
use Rattle.pcal_tree.specs.Programs.{program_in}
use Rattle.promise.specs.Headline.{Stands}
use Rattle.file_answer.proofs.SpelledInFile.{stands_kept}
use Rattle.translation.specs.Region.{region_of, written_region}
use Rattle.translation.specs.laws.AcceptedAlgorithm.{IsAccepted}
use Rattle.translation.proofs.AcceptedAlgorithms.{text_writable}
use Rattle.translation.proofs.SameProgram.{same_program}
use Rattle.translation.proofs.WritableRegions.{written_is_region}

-- ---- the region

-- neither places nor other lines outside change it
pub same_region : (b : Bool) (o q : Outside) (g h : Algorithm) → SameOutside o q → placeless h ≡ placeless g → written_region b q h ≡ written_region b o g
same_region b o q g h k e =
    ap (λ a. region_of b (program_in plain q a no_state)) e
    ∙ sym (ap (region_of b) (same_program o (placeless g) (record { title = []; outside = q; region = written_region b o g }) k no_state))

-- ---- the file

one_text : (x t w v : Text) → WithTranslation x t w → WithTranslation x t v → w ≡ v
one_text x t w v a c =
    let same = same_Some a.at c.at (sym a.is_spot ∙ c.is_spot) in
    a.is ∙ ap (λ (s : Span). take s.from x ++ (begin_line ++ (t ++ (end_line ++ (line_end_if_new x ++ drop s.to x))))) same ∙ sym c.is

-- what a file with a translation has outside is the same, in other lines
pub outside_same : (x t w : Text) (o q : Outside) → IsFine x → IsInside t → WithTranslation x t w → HasOutside (walk x) o → HasOutside (walk w) q → SameOutside o q
outside_same x t w o q fine inside put h k =
    let (p, there, same, alike) = outside_kept x t w o (keeps_file x t w fine inside put) h in
    subst (SameOutside o) (one_outside_of (walk w) p q there k)
    (subst (λ z. SameOutside z p) (sym h.is)
    (subst (SameOutside (outside_of (h.before ++ h.after))) (ap (λ us. outside_of (us ++ there.after)) (sym same) ∙ sym there.is) (same_outside (h.before ++ h.after) (h.before ++ there.after) (alike_after h.before h.after there.after alike))))

module _ (b : Bool) (x w : Text) (o : Outside) (g : Algorithm) (accepted : IsAccepted o g) (short : length x < past_text) (fine : IsFine x) (outside : HasOutside (walk x) o)
    (put : WithTranslation x (layout (written_region b o g)) w) where
  abbrev t : Text
  t = layout (written_region b o g)

  pub inside : IsInside t
  inside = layout_inside (written_region b o g) (written_is_region b o g (text_writable x o g accepted short outside))

  -- the algorithm is in it, places aside
  pub algorithm_again : (a : Algorithm) → Stands x a → (c : Algorithm) × Stands w c × (placeless c ≡ placeless a)
  algorithm_again a there = stands_kept x t w a fine inside put there

  -- and what is written for it is what is there
  pub region_again : (q : Outside) → HasOutside (walk w) q → (c : Algorithm) → placeless c ≡ placeless g → written_region b q c ≡ written_region b o g
  region_again q there c e = same_region b o q g c (outside_same x t w o q fine inside put outside there) e

  pub text_again : (q : Outside) → HasOutside (walk w) q → (c : Algorithm) → placeless c ≡ placeless g → (u : Text) → WithTranslation w (layout (written_region b q c)) u → u ≡ w
  text_again q there c e u again =
      one_text x t u w (put_again x t w t u fine inside inside put (subst (λ r. WithTranslation w (layout r) u) (region_again q there c e) again)) put

  -- there is such a text
  pub put_again_there : (q : Outside) → HasOutside (walk w) q → (c : Algorithm) → placeless c ≡ placeless g → WithTranslation w (layout (written_region b q c)) w
  put_again_there q there c e =
      let s = has_spot w (fine_kept x t w fine inside put) in
      let next = put_there w (layout (written_region b q c)) s.0 s.1 in
      subst (WithTranslation w (layout (written_region b q c))) (text_again q there c e _ next) next
