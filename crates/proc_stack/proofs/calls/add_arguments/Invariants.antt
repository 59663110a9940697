-- What is kept: the parameters that were passed have their arguments.
use Rattle.std.proofs.Common.{map, take}
use Rattle.tla_tree.specs.Pool.{at, Keeps}
use Rattle.written_names.specs.Units.{naming_of}
use Rattle.draft.specs.RoutineNames.{words_of}
use Rattle.proc_stack.specs.Made.{AddsSides}
use Rattle.proc_stack.specs.Pieces.{arguments_sides}
use Rattle.proc_stack.proofs.calls.add_arguments.Given as goal

abbrev pub invariant-loop-i : goal.invariant-loop-i
invariant-loop-i l =
    Keeps l.fn.pool l.pool × AddsSides l.pool l.fn.out.items l.out.items (arguments_sides ((naming_of l.locals.naming.now).local l.locals.unit) (words_of (take l.i l.params)) (map (at l.fn.pool) (take l.i l.arguments)))
