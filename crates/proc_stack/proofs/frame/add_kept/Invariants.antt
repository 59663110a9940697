-- What is kept: the values of those that were passed are added.
use Rattle.std.proofs.Common.{map, take, option_map}
use Rattle.tla_tree.specs.Pool.{at, Keeps}
use Rattle.written_names.specs.Units.{naming_of}
use Rattle.proc_stack.specs.Made.{AddsTrees}
use Rattle.proc_stack.specs.Pieces.{value_kept}
use Rattle.proc_stack.proofs.frame.add_kept.Given as goal

abbrev pub invariant-loop-name : goal.invariant-loop-name
invariant-loop-name l =
    Keeps l.fn.pool l.pool × AddsTrees l.pool l.fn.out.items l.out.items (map (λ x. value_kept (option_map (at l.fn.pool) l.from) ((naming_of l.locals.naming.now).local l.locals.unit x)) (take l.name-index l.names))
