-- Proves that the test Assert(e, ..) is written.
use Rattle.std.proofs.Common.{length, refl, ap, ◌∙◌, arith}
use Rattle.tla_token.specs.Signs.{is_among}
use Rattle.tla_tree.specs.Tree.{Tree, graft}
use Rattle.tla_tree.specs.Pool.{at}
use Rattle.tla_tree.proofs.PoolNumbers.{Keeps-then}
use Rattle.module_tree.specs.Module.{no_items, item}
use Rattle.module_tree.specs.Module as tree
use Rattle.module_tree.specs.Formulas.{self}
use Rattle.module_write.specs.declared.«module».Item.TheVariants.{Test}
use Rattle.module_write.proofs.ItemEquations.{test_at, past_test}
use Rattle.pcal_tree.specs.Variables.{vars}
use Rattle.name_bits.specs.NamesIn.{names_in}
use Rattle.action_builder.specs.Written.{primed, assert_of}
use Rattle.action_builder.specs.WrittenNames.{renames}
use Rattle.step_items.specs.Writing.{own_of}
use Rattle.step_items.proofs.WritesLaws.{item_pushed, past_pushed}
use Rattle.step_items.proofs.SimpleLaws.{assert_put, writes_test}
use Rattle.step_items.proofs.simple.assert.Goals as goal

pub returns-clause-made : goal.returns-clause-made
returns-clause-made c = λ P u x h s first.
    let ts = c.args.pool.now in
    let us = c.assertion.new.pool in
    let kept = Keeps-then ts c.expression.new.pool us c.in_ok-made.ensures.kept c.in_ok-asserted.ensures.kept in
    let e : Tree = primed (is_among (names_in (vars P) c.args.before.now)) (graft (own_of P) (graft (renames P u) (at ts c.args.e))) in
    writes_test P self x ts us c.args.out.now.items c.push.new.self.items c.args.before.now c.empty.result s _ (assert_of c.args.place e) _ (ap (λ p. item (tree.test (assert_of p e)) no_items) first) refl (c.empty.ensures.names (vars P))
    (assert_put self x c.args.place e)
    (item_pushed ts us kept c.args.out.now.items c.push.new.self.items (Test c.in_ok-asserted.asserted) _ c.requires.items c.in_ok-push.ensures.items
    (test_at us c.in_ok-asserted.asserted ∙ ap tree.test (c.in_ok-asserted.ensures.tree ∙ ap (assert_of c.args.place) (c.in_ok-made.ensures.tree P u x h))))

pub returns-clause-within : goal.returns-clause-within
returns-clause-within c =
    past_pushed (length c.args.pool.now) (length c.assertion.new.pool) c.args.out.now.items c.push.new.self.items (Test c.in_ok-asserted.asserted) c.requires.items (omega (arith, c.in_ok-made.ensures.kept.longer, c.in_ok-asserted.ensures.kept.longer))
    (omega (arith, past_test c.in_ok-asserted.asserted, c.in_ok-asserted.ensures.within)) c.in_ok-push.ensures.items
