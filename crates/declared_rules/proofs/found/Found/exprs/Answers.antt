-- Proves that expressions are looked at.
use Rattle.std.proofs.Common.{arith}
use Rattle.pcal_tree.specs.InMemory.{past_number}
use Rattle.declared_rules.specs.Parts.{expr_parts}
use Rattle.declared_rules.proofs.ListLaws.{past_item}
use Rattle.declared_rules.proofs.JoinLaws.{adds_item, adds_all}
use Rattle.declared_rules.proofs.found.Found.exprs.Goals as goal

pub loop-e-preserved : goal.loop-e-preserved
loop-e-preserved c = λ ts.
    let less = past_item past_number c.args.es.now c.loop-e.e-index 0 c.loop-e-test.true in
    adds_item ts (expr_parts ts) c.args.es.now c.args.self.now c.loop-e.self c.expr.new.self c.loop-e.e-index 0 c.loop-e-test.true (c.loop-e.invariant ts)
    (c.expr.ensures.adds (omega (arith, less, c.requires, (c.loop-e.invariant ts).joins.many)) ts)

pub returns : goal.returns
returns c = λ ts. adds_all ts (expr_parts ts) c.args.es.now c.args.self.now c.loop-e.self c.loop-e.e-index c.loop-e-test.false (c.loop-e.invariant ts)
