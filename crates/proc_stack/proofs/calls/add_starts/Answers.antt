-- Proves that the variables have their initial values, whichever order their names are in.
use Rattle.std.proofs.lemmas.Result.{on_ok_weaker}
use Rattle.pcal_tree.specs.InMemory.{declaration_at}
use Rattle.written_names.specs.Units.{naming_of}
use Rattle.proc_stack.specs.Moves.{move_at, past_move}
use Rattle.proc_stack.proofs.MadeLaws.{adds_same}
use Rattle.proc_stack.proofs.PieceLaws.{starts_among}
use Rattle.proc_stack.proofs.calls.add_starts.Goals as goal

pub returns-clause-made : goal.returns-clause-made
returns-clause-made c =
    let local = (naming_of c.args.locals.now.naming.now).local c.args.locals.now.unit in
    on_ok_weaker c.add_variables.result
    (adds_same past_move move_at c.add_variables.new.pool c.args.out.now.items c.add_variables.new.out.items _ _
    (starts_among local c.in_ok-order.order c.args.locals.now.names.now c.in_ok-order.ensures.among (declaration_at c.args.pool.now) c.args.variables.now))
    c.add_variables.ensures.made
