-- What is kept: those that were passed are restored.
use Rattle.std.proofs.Common.{map, take}
use Rattle.tla_tree.specs.Pool.{at, Keeps}
use Rattle.written_names.specs.Units.{naming_of}
use Rattle.proc_stack.specs.Made.{AddsSides}
use Rattle.proc_stack.specs.Pieces.{field_sides}
use Rattle.proc_stack.proofs.moves.add_fields.Given as goal

abbrev pub invariant-loop-name : goal.invariant-loop-name
invariant-loop-name l =
    Keeps l.fn.pool l.pool × AddsSides l.pool l.fn.out.items l.out.items (map (field_sides ((naming_of l.locals.naming.now).local l.locals.unit) (at l.fn.pool l.frame)) (take l.name-index l.names))
