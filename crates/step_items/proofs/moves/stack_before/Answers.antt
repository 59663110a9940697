-- Proves that the stack is made as it is read in the step.
use Rattle.std.proofs.Common.{ap, ◌∙◌}
use Rattle.tla_token.specs.Signs.{is_among}
use Rattle.tla_token.specs.Places.{nowhere}
use Rattle.tla_tree.specs.Tree.{Word, name, node, no_trees, graft}
use Rattle.name_bits.specs.NamesIn.{names_in}
use Rattle.action_builder.specs.Written.{primed}
use Rattle.step_items.specs.Writing.{own_of}
use Rattle.step_items.proofs.DeskLaws.{desk_grown}
use Rattle.step_items.proofs.WritesLaws.{if_ok}
use Rattle.step_items.proofs.moves.stack_before.Goals as goal

pub returns-clause-tree : goal.returns-clause-tree
returns-clause-tree c = λ P u x h.
    let desk = desk_grown c.args.pool.now c.named.new.pool c.in_ok-stack.ensures.kept c.args.desk.now P u x h in
    let word = c.new-name.ensures ∙ c.in_ok-from_slice.ensures.items in
    let own = c.in_ok-own.ensures.tree P u _ desk ∙ ap (graft (own_of P)) (c.in_ok-stack.ensures.tree ∙ ap (λ (w : Word). node (name w) nowhere no_trees) word) in
    if_ok c.written.result _ _ c.written.ensures.tree (λ r e. e ∙ (λ j. primed (is_among (names_in (h.draft.order j) c.args.before.now)) (own j)))
