-- Proves that globals and the names of their first values are looked at.
use Rattle.declared_rules.specs.Parts.{global_parts}
use Rattle.declared_rules.proofs.WalkLaws.{adds_then, adds_more, adds_all}
use Rattle.declared_rules.proofs.walk.Walked.globals.Goals as goal

pub loop-declaration-preserved : goal.loop-declaration-preserved
loop-declaration-preserved c = λ ts.
    adds_more ts (global_parts ts) c.args.list.now c.args.self.now c.loop-declaration.self c.start.new.self c.loop-declaration.declaration-index c.declaration-item.result c.declaration-item.is c.loop-declaration-test.true (c.loop-declaration.invariant ts)
    (adds_then ts c.loop-declaration.self c.keeps.new.self c.start.new.self _ _ (c.in_ok-keeps.ensures ts) (c.start.ensures ts))

pub returns : goal.returns
returns c = λ ts. adds_all ts (global_parts ts) c.args.list.now c.args.self.now c.loop-declaration.self c.loop-declaration.declaration-index c.loop-declaration-test.false (c.loop-declaration.invariant ts)
