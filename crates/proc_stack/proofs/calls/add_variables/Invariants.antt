-- What is kept: those that were passed are set.
use Rattle.std.proofs.Common.{map, take}
use Rattle.tla_tree.specs.Pool.{Keeps}
use Rattle.pcal_tree.specs.InMemory.{declaration_at}
use Rattle.written_names.specs.Units.{naming_of}
use Rattle.proc_stack.specs.Made.{AddsMoves}
use Rattle.proc_stack.specs.Pieces.{variable_move}
use Rattle.proc_stack.proofs.calls.add_variables.Given as goal

abbrev pub invariant-loop-one : goal.invariant-loop-one
invariant-loop-one l =
    Keeps l.fn.pool l.pool × AddsMoves l.pool l.fn.out.items l.out.items (map (λ d. variable_move ((naming_of l.local.naming.now).local l.local.unit) l.local.locals.now (declaration_at l.fn.pool d)) (take l.one-index l.variables))
