-- Proves that their names are looked at.
use Rattle.std.proofs.Common.{[], ◌∷◌}
use Rattle.pcal_tree.specs.declared.algorithm.Process.{Process}
use Rattle.declared_rules.proofs.NameLaws.{names_as, names_more, names_all, one_each}
use Rattle.declared_rules.proofs.found.Found.process_titles.Goals as goal

pub loop-process-preserved : goal.loop-process-preserved
loop-process-preserved c =
    names_more (λ (d : Process). d.name ∷ []) c.args.list.now c.args.self.now c.loop-process.self c.once.new.self c.loop-process.process-index c.process-item.result c.process-item.is c.loop-process-test.true
    c.loop-process.invariant c.in_ok-once.ensures

pub returns : goal.returns
returns c =
    names_as c.args.self.now c.loop-process.self _ _ (one_each (λ (d : Process). d.name) c.args.list.now)
    (names_all (λ (d : Process). d.name ∷ []) c.args.list.now c.args.self.now c.loop-process.self c.loop-process.process-index c.loop-process-test.false c.loop-process.invariant)
