-- Proves that their names are looked at.
use Rattle.std.proofs.Common.{[], ◌∷◌}
use Rattle.pcal_tree.specs.declared.algorithm.Procedure.{Procedure}
use Rattle.declared_rules.proofs.NameLaws.{names_as, names_more, names_all, one_each}
use Rattle.declared_rules.proofs.found.Found.procedure_titles.Goals as goal

pub loop-procedure-preserved : goal.loop-procedure-preserved
loop-procedure-preserved c =
    names_more (λ (d : Procedure). d.name ∷ []) c.args.list.now c.args.self.now c.loop-procedure.self c.once.new.self c.loop-procedure.procedure-index c.procedure-item.result c.procedure-item.is c.loop-procedure-test.true
    c.loop-procedure.invariant c.in_ok-once.ensures

pub returns : goal.returns
returns c =
    names_as c.args.self.now c.loop-procedure.self _ _ (one_each (λ (d : Procedure). d.name) c.args.list.now)
    (names_all (λ (d : Procedure). d.name ∷ []) c.args.list.now c.args.self.now c.loop-procedure.self c.loop-procedure.procedure-index c.loop-procedure-test.false c.loop-procedure.invariant)
