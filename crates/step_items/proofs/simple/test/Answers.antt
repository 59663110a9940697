-- Proves that the test is written for the expression.
use Rattle.std.proofs.Common.{length, refl, ap, ◌∙◌, arith}
use Rattle.module_tree.specs.Module as tree
use Rattle.module_tree.specs.Formulas.{self}
use Rattle.module_write.specs.declared.«module».Item.TheVariants.{Test}
use Rattle.module_write.proofs.ItemEquations.{test_at, past_test}
use Rattle.pcal_tree.specs.Variables.{vars}
use Rattle.step_items.proofs.WritesLaws.{test_put, item_pushed, past_pushed}
use Rattle.step_items.proofs.SimpleLaws.{writes_test}
use Rattle.step_items.proofs.simple.test.Goals as goal

pub returns-clause-made : goal.returns-clause-made
returns-clause-made c = λ P u x h s.
    let ts = c.args.pool.now in
    let us = c.expression.new.pool in
    let said = c.in_ok-made.ensures in
    writes_test P self x ts us c.args.out.now.items c.push.new.self.items c.args.before.now c.empty.result s _ _ _ refl refl (c.empty.ensures.names (vars P)) (test_put self x _)
    (item_pushed ts us said.kept c.args.out.now.items c.push.new.self.items (Test c.in_ok-made.made) _ c.requires.items c.in_ok-push.ensures.items (test_at us c.in_ok-made.made ∙ ap tree.test (said.tree P u x h)))

pub returns-clause-within : goal.returns-clause-within
returns-clause-within c =
    past_pushed (length c.args.pool.now) (length c.expression.new.pool) c.args.out.now.items c.push.new.self.items (Test c.in_ok-made.made) c.requires.items c.in_ok-made.ensures.kept.longer
    (omega (arith, past_test c.in_ok-made.made, c.in_ok-made.ensures.within)) c.in_ok-push.ensures.items
