-- Each step of a body with its macro calls written out begins with what the step from its label begins with, written out.
use Rattle.std.proofs.Common.{◌≡◌, map, reverse, Option, Some, None, refl, sym, ◌∙◌, subst}
use Rattle.std.specs.List.{AllByRecursion}
use Rattle.pcal_tree.specs.Algorithm.{Routine, Algorithm}
use Rattle.pcal_tree.specs.Expand.{expanded, written_out, expand_begin}
use Rattle.pcal_tree.specs.OffencesLabels.{label_words}
use Rattle.pcal_tree.specs.Run.{unlabelled}
use Rattle.pcal_tree.specs.StepStart.{Begin, at_label}
use Rattle.action_builder.specs.laws.Jumps.{AllUnlike}
use Rattle.step_forms.specs.Opened.{opened_routine, IsOpenable}
use Rattle.step_forms.specs.Steps.{Step, steps}
use Rattle.step_forms.proofs.OpenedBodies.{words_opened, begin_opened}
use Rattle.step_forms.proofs.StepsLaws.{step_labels, steps_begin}
use Rattle.step_forms.proofs.Words.{every_to}

-- b is where the step from the label begins, before macro calls are written out
pub record IsBegunBy (a : Algorithm) (u : Routine) (s : Step) : Type 0 where
  pub begins : Begin
  pub at : at_label u s.label ≡ Some begins
  pub is : s.begins ≡ record { items = expanded (reverse a.macros) begins.items; exit = begins.exit }

module _ (a : Algorithm) (h : IsOpenable a) (u : Routine) where
  pub opened_labels : map (λ (s : Step). s.label) (steps unlabelled (opened_routine a u).body u.exit) ≡ label_words u.body
  opened_labels = step_labels unlabelled (opened_routine a u).body u.exit ∙ words_opened a h u.body

  begun_by : (s : Step) → at_label (opened_routine a u) s.label ≡ Some s.begins → IsBegunBy a u s
  begun_by s e = by (at_label u s.label) refl (sym (begin_opened a h s.label unlabelled u.body u.exit) ∙ e)
    where
      by : (o : Option Begin) → at_label u s.label ≡ o → expand_begin (written_out (reverse a.macros)) o ≡ Some s.begins → IsBegunBy a u s
      by None q r = cc
      by (Some b) q r = record { begins = b; at = q; is = sym (let k : Some (record { items = expanded (reverse a.macros) b.items; exit = b.exit }) ≡ Some s.begins = r in cc) }

  pub steps_begun : AllUnlike (label_words u.body) → AllByRecursion (IsBegunBy a u) (steps unlabelled (opened_routine a u).body u.exit)
  steps_begun apart =
      every_to (λ (s : Step). at_label (opened_routine a u) s.label ≡ Some s.begins) (IsBegunBy a u) begun_by (steps unlabelled (opened_routine a u).body u.exit)
      (steps_begin (opened_routine a u) (subst AllUnlike (sym (words_opened a h u.body)) apart))
