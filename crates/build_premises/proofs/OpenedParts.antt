-- Steps of an algorithm with its macro calls written out, whose macros stay in it, have all that is wanted of them.
use Rattle.std.proofs.Common.{◌≡◌, sym, subst}
use Rattle.tla_value.specs.Outside.{Outside}
use Rattle.module_tree.specs.Formulas.{self}
use Rattle.pcal_tree.specs.Algorithm.{Routine, routines, Algorithm}
use Rattle.pcal_tree.specs.Expand.{graft_all}
use Rattle.pcal_tree.specs.Processes.{OneOf}
use Rattle.pcal_tree.specs.Program.{Program}
use Rattle.pcal_tree.specs.Run.{unlabelled}
use Rattle.action_builder.specs.LabelActions.{no_jump_places}
use Rattle.action_builder.specs.Prepared.{prepared}
use Rattle.action_builder.specs.WrittenNames.{with_names, renames}
use Rattle.step_forms.specs.Opened.{opened, opened_program, opened_routine, IsOpenable}
use Rattle.step_forms.specs.PartsAssigned.{AllInParts}
use Rattle.step_forms.specs.Steps.{Step, steps}
use Rattle.step_forms.proofs.OpenedActions.{jumps_opened}
use Rattle.step_forms.proofs.OpenedRoutines.{is_own_opened}
use Rattle.translation.specs.laws.AcceptedAlgorithm.{IsAcceptedInFile}
use Rattle.translation.specs.laws.WritableAlgorithm.{IsWritableAlgorithm}
use Rattle.translation.proofs.NamesApart.{writable}
use Rattle.build_premises.specs.Buildable.{InPartsFor, StepFits}
use Rattle.build_premises.proofs.BuiltSteps.{buildable_no_old}
use Rattle.region_forms.proofs.OpenedRegions.{accepted_openable}
use Rattle.build_premises.proofs.OpenedSteps.{routine_opened, opened_built, opened_settled}
use Rattle.build_premises.proofs.StepsInParts.{step_parts}

module _ (o : Outside) (g : Algorithm) where
  abbrev P : Program
  P = with_names o g

  abbrev Q : Program
  Q = opened_program (with_names o g)

  abbrev InParts : Step → Routine → Type 0
  InParts s w = InPartsFor Q w s.label s.begins.exit (graft_all (renames Q w) s.begins.items)

  -- a routine as it is, and with its macro calls written out
  same_parts : IsOpenable g → (w : Routine) (s : Step) → InPartsFor P w s.label s.begins.exit (graft_all (renames P w) s.begins.items) ≡ InParts s (opened_routine g w)
  same_parts k w s = λ i.
      AllInParts (prepared (sym (jumps_opened P k w no_jump_places) i) self (sym (is_own_opened P) i) s.label s.begins.exit (graft_all (renames P w) s.begins.items))

  pub opened_parts : IsWritableAlgorithm o g → IsOpenable g → (u : Routine) → OneOf u (routines (opened g)) → (s : Step) → OneOf s (steps unlabelled u.body u.exit) → InParts s u
  opened_parts h k u there s listed =
      let r = routine_opened g u there in
      let p = step_parts o g h r.0 r.1 s (subst (λ (w : Routine). OneOf s (steps unlabelled w.body w.exit)) r.2 listed) in
      subst (InParts s) (sym r.2) (subst (λ A. A) (same_parts k r.0 s) p)

  pub step_fits : IsAcceptedInFile o g → (u : Routine) → OneOf u (routines (opened g)) → (s : Step) → OneOf s (steps unlabelled u.body u.exit) → StepFits Q u s
  step_fits h u there s listed =
      let w = writable o g h in
      record {
        settled = opened_settled o g w h.accepted.labels u there s listed;
        parts = opened_parts w (accepted_openable o g h) u there s listed;
        fresh = buildable_no_old Q (graft_all (renames Q u) s.begins.items) (opened_built o g w h.accepted.labels u there s listed);
      }
