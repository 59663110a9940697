-- Proves that calls offend what is kept of macros.
use Rattle.std.proofs.Common.{refl, take}
use Rattle.name_rules.specs.declared.macros.Callees.{Callees}
use Rattle.name_rules.specs.Keeping.{procedures_at, calls_at}
use Rattle.name_rules.proofs.KeepLaws.{macros_none, macros_more, macros_all}
use Rattle.name_rules.proofs.macros.Callees.fill.Goals as goal

pub loop-one-init : goal.loop-one-init
loop-one-init c = λ e q.
    let ts = c.args.pool.now in
    let k : Callees = record { macros = c.args.self.now.macros; procedures = c.add_arities.new.arities } in
    macros_none k ts (procedures_at ts c.args.procedures.now) c.args.macros.now e (c.in_ok-add_arities.ensures q ts)

pub loop-one-preserved : goal.loop-one-preserved
loop-one-preserved c = λ e q.
    let ts = c.args.pool.now in
    let ps = procedures_at ts c.args.procedures.now in
    let n = c.in_ok-add_macro.ensures in
    let m = c.loop-one.invariant e q in
    macros_more c.loop-one.self c.add_macro.new.self ts ps c.args.macros.now c.loop-one.one-index c.one-item.result n.uses c.one-item.result.name.word c.one-item.is c.loop-one-test.true m
    (n.keeps (calls_at ts (take c.loop-one.one-index c.args.macros.now) ps) ps m) n.puts n.procedures refl

pub returns : goal.returns
returns c = λ e q.
    macros_all c.loop-one.self c.args.pool.now (procedures_at c.args.pool.now c.args.procedures.now) c.args.macros.now c.loop-one.one-index c.loop-one-test.false (c.loop-one.invariant e q)
