-- What is kept: all actions are of the pool, and what is there, with those of the procedures that are left, is the whole.
use Rattle.std.proofs.Common.{◌≡◌, ◌+◌, ◌++◌, drop, map}
use Rattle.std.specs.List.{flat_map}
use Rattle.pcal_tree.specs.Algorithm.{Routine, numbered, procedure_routine, routines}
use Rattle.pcal_tree.specs.InMemory.{procedure_at}
use Rattle.pcal_tree.specs.Processes.{OneOf}
use Rattle.pcal_tree.specs.Program.{Program}
use Rattle.module_write.specs.InMemory.{actions_at}
use Rattle.step_forms.specs.Steps.{routine_steps}
use Rattle.module_formulas.specs.TakersIn.{taker_at, taken_procedure}
use Rattle.label_actions.specs.Fitting.{IsActable}
use Rattle.label_actions.specs.Units.{IsBasis}
use Rattle.label_actions.proofs.UnitLaws.{Grows}
use Rattle.label_actions.proofs.program.add_procedures.Given as goal

abbrev pub invariant-loop-one : goal.invariant-loop-one
invariant-loop-one l =
    Grows l.fn.pool l.pool l.out.items × (l.number ≡ l.fn.first + l.one-index)
    × ((P : Program) → IsActable P → IsBasis l.fn.pool l.basis P → ((u : Routine) → OneOf u (numbered procedure_routine l.fn.first (map (procedure_at l.fn.pool) l.list)) → OneOf u (routines P.algorithm))
    → actions_at l.pool l.out.items ++ flat_map (routine_steps P) (numbered (taken_procedure (taker_at l.fn.pool l.taker)) l.number (map (procedure_at l.fn.pool) (drop l.one-index l.list)))
    ≡ actions_at l.fn.pool l.fn.out.items ++ flat_map (routine_steps P) (numbered (taken_procedure (taker_at l.fn.pool l.taker)) l.fn.first (map (procedure_at l.fn.pool) l.list)))
