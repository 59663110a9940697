-- Proves that names are assigned.
use Rattle.std.proofs.Common.{refl, ap, ◌∙◌}
use Rattle.tla_tree.specs.Tree.{Word}
use Rattle.indexmap.specs.IndexSet.{insert_key}
use Rattle.algorithm_limits.proofs.Tables.{equal}
use Rattle.label_steps.proofs.AddsLaws.{adds_none, adds_name, names_more, names_all}
use Rattle.label_steps.proofs.gathered.Gathered.add.Goals as goal

pub loop-name-init : goal.loop-name-init
loop-name-init c = adds_none c.args.known.now c.args.self.now

pub loop-name-preserved : goal.loop-name-preserved
loop-name-preserved c =
    names_more c.args.known.now c.args.self.now c.loop-name.self _ c.args.names.now c.loop-name.name-index c.name-item.result c.name-item.is c.loop-name-test.true c.loop-name.invariant
    (adds_name c.args.known.now c.loop-name.self _ c.name-item.result refl (c.in_ok-insert.ensures.keys ∙ ap (λ (x : Word). insert_key equal c.loop-name.self.names.keys x) c.in_ok-copied.ensures))

pub returns : goal.returns
returns c = names_all c.args.known.now c.args.self.now c.loop-name.self c.args.names.now c.loop-name.name-index c.loop-name-test.false c.loop-name.invariant
