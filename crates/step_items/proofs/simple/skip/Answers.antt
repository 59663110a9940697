-- Proves that the test (TRUE) is written.
use Rattle.std.proofs.Common.{true, length, refl, ap, ◌∙◌, arith}
use Rattle.tla_tree.specs.Tree.{truth, node}
use Rattle.tla_tree.specs.Pool.{trees_at}
use Rattle.module_tree.specs.Module.{no_items, item}
use Rattle.module_tree.specs.Module as tree
use Rattle.module_tree.specs.Formulas.{self}
use Rattle.module_write.specs.declared.«module».Item.TheVariants.{Test}
use Rattle.module_write.proofs.ItemEquations.{test_at, past_test}
use Rattle.pcal_tree.specs.Variables.{vars}
use Rattle.action_builder.specs.Written.{true_at}
use Rattle.step_items.proofs.WritesLaws.{item_pushed, past_pushed}
use Rattle.step_items.proofs.SimpleLaws.{true_put, writes_test}
use Rattle.step_items.proofs.simple.skip.Goals as goal

pub returns-clause-made : goal.returns-clause-made
returns-clause-made c = λ P u x before s first.
    let ts = c.args.pool.now in
    let us = c.put.new.self in
    writes_test P self x ts us c.args.out.now.items c.push.new.self.items before c.empty.result s _ (true_at c.args.place) _ (ap (λ p. item (tree.test (true_at p)) no_items) first) refl (c.empty.ensures.names (vars P)) (true_put self x c.args.place)
    (item_pushed ts us c.in_ok-made.ensures.kept c.args.out.now.items c.push.new.self.items (Test c.in_ok-made.made) _ c.requires c.in_ok-push.ensures.items
    (test_at us c.in_ok-made.made ∙ ap tree.test (c.in_ok-made.ensures.tree ∙ ap (λ es. node (truth true) c.args.place (trees_at ts es)) c.new.ensures.items)))

pub returns-clause-within : goal.returns-clause-within
returns-clause-within c =
    past_pushed (length c.args.pool.now) (length c.put.new.self) c.args.out.now.items c.push.new.self.items (Test c.in_ok-made.made) c.requires c.in_ok-made.ensures.kept.longer
    (omega (arith, past_test c.in_ok-made.made, c.in_ok-made.ensures.within)) c.in_ok-push.ensures.items
