-- Proves what left sides stand for.
use Rattle.std.proofs.Common.{length, ◌≤◌, ◌∙◌, sym, ap, subst, arith}
use Rattle.std.specs.Prelude.{◌-◌}
use Rattle.tla_tree.proofs.PoolNumbers.{AllBelow-more}
use Rattle.tla_tree.specs.Pool.{AllBelow, tree_in, trees_at, at, Entry}
use Rattle.tla_value.specs.Value.{Outcome}
use Rattle.tla_pool.specs.FormOf.{form_of}
use Rattle.pcal_tree.specs.Scope as pure
use Rattle.value_forms.specs.Gives.{Gives}
use Rattle.step_moves.specs.Programs.{program_at}
use Rattle.step_moves.specs.StatesOf.{state_of}
use Rattle.step_moves.specs.PartsOf.{part_of}
use Rattle.step_moves.proofs.LeftLaws.{rest_below, whole_reached}
use Rattle.step_moves.proofs.assign.+left.Goals as goal

pub left-returns-in-Whole-clause-part : goal.left-returns-in-Whole-clause-part
left-returns-in-Whole-clause-part t c =
    let P = program_at c.args.program.now in
    let tr = c.node-node.ensures.tree ∙ ap (tree_in c.args.program.now.pool.now) (sym c.node.view_is) in
    subst (λ (o : Outcome pure.Part). Gives part_of c.whole.result o)
    (sym (whole_reached P (at c.args.program.now.pool.now c.args.e) (form_of c.node.inside.form) c.node.inside.place (trees_at c.args.program.now.pool.now c.node.inside.parts.items) c.in-Whole.x.now c.args.bound.now.names.items c.args.bound.now.values.items (state_of c.args.state.now) tr c.in-Whole.ensures))
    (c.whole.ensures.part P c.requires.scene.names)

pub subscripted-all_values-requires-clause-below : goal.subscripted-all_values-requires-clause-below
subscripted-all_values-requires-clause-below t c =
    let le : c.args.e ≤ length c.args.program.now.pool.now = omega (arith, c.requires.below) in
    rest_below (length c.args.program.now.pool.now) (length c.deref.result.now - 1) c.deref.result.now
    (AllBelow-more c.args.e (length c.args.program.now.pool.now) c.deref.result.now le (subst (AllBelow c.args.e) (sym c.deref.ensures.value) (subst (λ (n : Entry). AllBelow c.args.e n.parts) (sym c.node.view_is) c.node-node.ensures.older)))
