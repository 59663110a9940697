-- Proves that the names of variables that are declared are there.
use Rattle.std.proofs.Common.{[], ◌∷◌, subst}
use Rattle.pcal_tree.specs.declared.algorithm.Declaration.{Declaration}
use Rattle.read_rules.specs.Joins.{Joins}
use Rattle.read_rules.proofs.ReadLaws.{declared_more, declared_all}
use Rattle.read_rules.proofs.definitions.global_names.Goals as goal

pub loop-i-preserved : goal.loop-i-preserved
loop-i-preserved c =
    declared_more c.loop-i.names c.add.new.self c.args.list.now c.loop-i.i c.index-list-i.result c.index-list-i.is c.loop-i-test.true c.loop-i.invariant
    (subst (λ (d : Declaration). Joins c.loop-i.names c.add.new.self (d.name.word ∷ [])) c.declaration.view_is c.in_ok-add.ensures)

pub returns : goal.returns
returns c = declared_all c.loop-i.names c.args.list.now c.loop-i.i c.loop-i-test.false c.loop-i.invariant
