-- Proves that an expression is looked at when it is opened.
use Rattle.std.proofs.Common.{[], false, arith, ap, ◌∙◌}
use Rattle.tla_tree.specs.Pool.{Entry, trees_at}
use Rattle.tla_value.specs.StandardModules.{is_member}
use Rattle.declared_rules.specs.Finding.{node_offences, trees_offences}
use Rattle.declared_rules.proofs.JoinLaws.{joins_as}
use Rattle.declared_rules.proofs.SweepLaws.{node_adds}
use Rattle.declared_rules.proofs.found.Found.open.Goals as goal

pub parts-requires-clause-marked : goal.parts-requires-clause-marked
parts-requires-clause-marked c = let many = (c.in_ok-form.ensures []).many in omega (arith, many, c.requires)

pub returns : goal.returns
returns c =
    node_adds c.args.pool.now c.args.self.now c.form.new.self c.parts.new.self c.args.e c.in-Some.node.now.form c.in-Some.node.now.place c.in-Some.node.now.parts c.in-Some.ensures.some
    (joins_as c.args.pool.now c.args.self.now c.form.new.self _ _ (ap (λ (n : Entry). node_offences c.args.self.now.modules false n.form n.place) c.node.view_is) (c.in_ok-form.ensures c.args.pool.now))
    (joins_as c.args.pool.now c.form.new.self c.parts.new.self _ _
    (λ i. trees_offences c.form.new.self.modules ((c.is_member.ensures ∙ ap (λ (n : Entry). is_member n.form) c.node.view_is) i) (trees_at c.args.pool.now ((c.deref.ensures.value ∙ ap (λ (n : Entry). n.parts) c.node.view_is) i)))
    c.parts.ensures)
