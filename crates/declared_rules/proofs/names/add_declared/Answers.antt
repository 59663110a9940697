-- Proves that the names of declarations are bound.
use Rattle.std.proofs.Common.{◌∷◌, [], subst}
use Rattle.pcal_tree.specs.declared.algorithm.Declaration.{Declaration}
use Rattle.algorithm_limits.specs.DepthsIn.{Hides}
use Rattle.declared_rules.proofs.NameWords.{declared_more, declared_all}
use Rattle.declared_rules.proofs.names.add_declared.Goals as goal

pub loop-i-preserved : goal.loop-i-preserved
loop-i-preserved c =
    declared_more c.args.bound.now c.loop-i.bound c.add.new.self c.args.list.now c.loop-i.i c.index-list-i.result c.index-list-i.is c.loop-i-test.true c.loop-i.invariant
    (subst (λ (d : Declaration). Hides c.loop-i.bound c.add.new.self (d.name.word ∷ [])) c.declaration.view_is c.in_ok-add.ensures)

pub returns : goal.returns
returns c = declared_all c.args.bound.now c.loop-i.bound c.args.list.now c.loop-i.i c.loop-i-test.false c.loop-i.invariant
