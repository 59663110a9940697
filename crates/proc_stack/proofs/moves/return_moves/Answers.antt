-- Proves that these are the assignments of a return.
use Rattle.std.proofs.Common.{List, ap, ◌∙◌}
use Rattle.pcal_tree.specs.Algorithm.{no_assignments}
use Rattle.pcal_tree.specs.InMemory.{past_assignment}
use Rattle.written_names.specs.Units.{naming_of}
use Rattle.proc_stack.specs.Made.{Sides, sides_at}
use Rattle.proc_stack.specs.Pieces.{joined, restored}
use Rattle.proc_stack.proofs.MadeLaws.{made_within, made_stand, sides_joined}
use Rattle.proc_stack.proofs.PieceLaws.{return_is}
use Rattle.proc_stack.proofs.moves.return_moves.Goals as goal

pub returns-clause-tree : goal.returns-clause-tree
returns-clause-tree c = λ P u d number names.
    let named = naming_of c.args.draft.now.naming.now in
    let end = c.add_return.new.pool in
    let moves = c.add_return.new.out.items in
    sides_joined end moves
    ∙ ap (λ (fs : List Sides). joined fs no_assignments)
    (made_stand past_assignment sides_at end c.new-moves.result.items moves (restored (named.local c.args.unit) c.args.locals.now) c.new-moves.ensures.items c.in_ok-add_return.ensures.made)
    ∙ return_is P u named c.args.unit c.args.locals.now d.naming number names

pub returns-clause-within : goal.returns-clause-within
returns-clause-within c =
    made_within past_assignment sides_at c.add_return.new.pool c.new-moves.result.items c.add_return.new.out.items (restored ((naming_of c.args.draft.now.naming.now).local c.args.unit) c.args.locals.now) c.new-moves.ensures.items
    c.in_ok-add_return.ensures.made
