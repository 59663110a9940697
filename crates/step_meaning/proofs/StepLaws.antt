-- What is replied of a step of a process, and what is told before the state after it.
use Rattle.std.proofs.Common.{◌≡◌, ℕ, List, [], Some, None, Ok, ap, ◌∙◌}
use Rattle.tla_value.specs.Value.{Value}
use Rattle.pcal_tree.specs.Calls.{label_name}
use Rattle.pcal_tree.specs.FirstTrouble.{stand_named}
use Rattle.pcal_tree.specs.Program.{Program, Actor}
use Rattle.pcal_tree.specs.Scope.{State}
use Rattle.pcal_tree.specs.Step.{Stand, pc_of, routines_of}
use Rattle.pcal_tree.specs.StepAnswers.{no_label, replied, label_place}
use Rattle.step_runner.specs.Shown.{step_before, from_pc, from_stand, stepped}
use Rattle.step_walks.specs.WrittenFlows.{written_flow_by}
use Rattle.written_runs.specs.Ways.{by_written_names, step_of_by, step_at_by, step_from_by}

module _ (P : Program) (s : State) (v : Actor) (w : Value) (choices : List ℕ) (read : pc_of v s ≡ Ok w) where
  pub step_is : (d : Stand) → stand_named P w (routines_of P v) ≡ Some d
      → step_of_by by_written_names P s choices (Some v) ≡ replied (λ t. (t, label_name P d.routine d.label)) (label_place d.routine d.label) (written_flow_by P [] v d s choices)
  step_is d e = ap (step_at_by by_written_names P v s choices) read ∙ ap (step_from_by by_written_names P v s choices) e

  pub step_none : stand_named P w (routines_of P v) ≡ None → step_of_by by_written_names P s choices (Some v) ≡ no_label
  step_none e = ap (step_at_by by_written_names P v s choices) read ∙ ap (step_from_by by_written_names P v s choices) e

  pub before_is : (d : Stand) → stand_named P w (routines_of P v) ≡ Some d → step_before P s (Some v) ≡ stepped (label_name P d.routine d.label) v.self (label_place d.routine d.label)
  before_is d e = ap (from_pc P v) read ∙ ap (from_stand P v) e
