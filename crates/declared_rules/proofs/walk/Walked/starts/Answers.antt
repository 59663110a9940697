-- Proves that the names of first values are looked at.
use Rattle.declared_rules.specs.Parts.{declaration_parts}
use Rattle.declared_rules.proofs.WalkLaws.{adds_more, adds_all}
use Rattle.declared_rules.proofs.walk.Walked.starts.Goals as goal

pub loop-declaration-preserved : goal.loop-declaration-preserved
loop-declaration-preserved c = λ ts.
    adds_more ts (declaration_parts ts) c.args.list.now c.args.self.now c.loop-declaration.self c.start.new.self c.loop-declaration.declaration-index c.declaration-item.result c.declaration-item.is c.loop-declaration-test.true (c.loop-declaration.invariant ts)
    (c.start.ensures ts)

pub returns : goal.returns
returns c = λ ts. adds_all ts (declaration_parts ts) c.args.list.now c.args.self.now c.loop-declaration.self c.loop-declaration.declaration-index c.loop-declaration-test.false (c.loop-declaration.invariant ts)
