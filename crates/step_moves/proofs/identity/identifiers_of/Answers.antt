-- Proves that the identifiers are those of the definition.
use Rattle.std.proofs.Common.{Vec, Global, ap, sym, ◌∙◌, arith}
use Rattle.tla_tree.specs.Tree.{root_place}
use Rattle.tla_tree.specs.Pool.{tree_in}
use Rattle.tla_value.specs.Value.{Value, values_in}
use Rattle.value_forms.proofs.StopLaws.{err_is}
use Rattle.step_moves.proofs.IdentityLaws.{identity_stops, identity_gives}
use Rattle.step_moves.proofs.identity.identifiers_of.Goals as goal

pub eval-requires-clause-below : goal.eval-requires-clause-below
eval-requires-clause-below c = omega (arith, c.requires.within)

pub eval-requires-clause-defined : goal.eval-requires-clause-defined
eval-requires-clause-defined c = c.requires.whole.bodies

pub returns-in_err-v : goal.returns-in_err-v
returns-in_err-v c =
    let s = c.in_err-v.field-0.0 in
    err_is (λ (z : Vec Value Global). values_in z.items) c.from_residual.result s _ c.from_residual.ensures
    (identity_stops c.args.program.now c.requires.whole c.args.process.now s c.in_err-v.ensures)

pub returns : goal.returns
returns c =
    let ts = c.args.program.now.pool.now in
    let place = ap root_place (c.node-node.ensures.tree ∙ ap (tree_in ts) (sym c.node.view_is)) in
    identity_gives c.args.program.now c.requires.whole c.args.process.now c.one_value.result c.in_ok-v.v _ c.in_ok-v.ensures place c.one_value.ensures
