-- Proves that the table has all procedures.
use Rattle.std.proofs.Common.{◌≡◌, ◌-◌, List, length, drop, get_or, refl, sym, ap, ◌∙◌, subst}
use Rattle.pcal_tree.specs.declared.algorithm.Declaration.{Declaration}
use Rattle.pcal_tree.specs.declared.algorithm.Procedure.{Procedure}
use Rattle.algorithm_limits.specs.Numbers.{Numbers}
use Rattle.name_rules.specs.Keeping.{AreProcedures, procedures_at}
use Rattle.name_rules.proofs.KeepLaws.{procedures_none, procedures_more, procedures_all}
use Rattle.name_rules.proofs.macros.add_arities.Goals as goal

pub loop-i-init : goal.loop-i-init
loop-i-init c = λ e ts. subst (λ (z : Numbers). AreProcedures z (procedures_at ts (drop (length c.args.procedures.now - 0) c.args.procedures.now))) (sym e) (procedures_none ts c.args.procedures.now)

pub loop-i-preserved : goal.loop-i-preserved
loop-i-preserved c = λ e ts.
    let j = length c.args.procedures.now - 1 - c.loop-i.i in
    let at = subst (λ (d : Procedure). d ≡ get_or c.args.procedures.now j d) (sym c.one.view_is) c.index-procedures-procedures.is in
    let many = c.how_many.ensures.result_len ∙ ap (λ (ds : List Declaration). length ds) c.deref.ensures.value in
    procedures_more ts c.args.procedures.now c.loop-i.i j _ c.loop-i.arities c.set.new.self c.in_ok-copied.field-0 c.how_many.result refl at c.loop-i-test.true
    c.in_ok-copied.ensures many c.in_ok-set.ensures (c.loop-i.invariant e ts)

pub returns : goal.returns
returns c = λ e ts. procedures_all ts c.args.procedures.now c.loop-i.i c.loop-i.arities c.loop-i-test.false (c.loop-i.invariant e ts)
