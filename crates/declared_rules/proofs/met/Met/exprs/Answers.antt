-- Proves that the names of expressions are added.
use Rattle.std.proofs.Common.{arith}
use Rattle.pcal_tree.specs.InMemory.{past_number}
use Rattle.declared_rules.specs.Met.{expr_words}
use Rattle.declared_rules.proofs.ListLaws.{past_item}
use Rattle.declared_rules.proofs.MetWalks.{adds_item, adds_all}
use Rattle.declared_rules.proofs.met.Met.exprs.Goals as goal

pub loop-e-preserved : goal.loop-e-preserved
loop-e-preserved c = λ ts.
    let less = past_item past_number c.args.es.now c.loop-e.e-index 0 c.loop-e-test.true in
    adds_item ts (expr_words ts) c.args.es.now c.args.self.now c.loop-e.self c.mark.new.self c.loop-e.e-index 0 c.loop-e-test.true (c.loop-e.invariant ts)
    (c.mark.ensures.adds (omega (arith, less, c.requires, (c.loop-e.invariant ts).many)) ts)

pub returns : goal.returns
returns c = λ ts. adds_all ts (expr_words ts) c.args.es.now c.args.self.now c.loop-e.self c.loop-e.e-index c.loop-e-test.false (c.loop-e.invariant ts)
