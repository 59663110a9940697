-- What is kept: all numbers are of the pool, and what is there, with the conjuncts of those that are left, is the whole.
use Rattle.std.proofs.Common.{◌≡◌, ◌++◌, drop, map}
use Rattle.std.specs.List.{flat_map}
use Rattle.tla_tree.specs.Pool.{at}
use Rattle.pcal_tree.specs.Algorithm.{numbered}
use Rattle.pcal_tree.specs.InMemory.{procedure_at}
use Rattle.pcal_tree.specs.Program.{Program}
use Rattle.action_builder.specs.InitialFormulas.{locals_start}
use Rattle.draft.specs.Drafts.{IsDraft}
use Rattle.module_formulas.specs.TakersIn.{taker_at, taken_procedure}
use Rattle.module_formulas.proofs.Grown.{Grows}
use Rattle.module_formulas.proofs.starts.add_procedures.Given as goal

abbrev pub invariant-loop-one : goal.invariant-loop-one
invariant-loop-one l =
    Grows l.fn.pool l.pool l.out.items
    × ((P : Program) → IsDraft l.fn.pool l.draft P
    → map (at l.pool) l.out.items ++ flat_map (locals_start P) (numbered (taken_procedure (taker_at l.fn.pool l.taker)) l.number (map (procedure_at l.fn.pool) (drop l.one-index l.list)))
    ≡ map (at l.fn.pool) l.fn.out.items ++ flat_map (locals_start P) (numbered (taken_procedure (taker_at l.fn.pool l.taker)) l.fn.first (map (procedure_at l.fn.pool) l.list)))
