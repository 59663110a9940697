-- Proves what calls of procedures use.
use Rattle.std.proofs.Common.{◌+◌, List, sym, subst}
use Rattle.read_rules.specs.declared.steps.Jump.{Jump}
use Rattle.read_rules.proofs.JumpLaws.{MadeJumps, jumps_more, jumps_done}
use Rattle.read_rules.proofs.jumps.jumps.Goals as goal

pub returns : goal.returns
returns c = jumps_done c.args.pool.now c.args.procedures.now c.loop-one.list.items c.loop-one.one-index c.loop-one-test.false c.loop-one.invariant

pub loop-one-init : goal.loop-one-init
loop-one-init c = subst (λ (js : List Jump). MadeJumps c.args.pool.now c.args.procedures.now js 0) (sym c.new-list.ensures.items) (λ more a. a)

pub loop-one-preserved : goal.loop-one-preserved
loop-one-preserved c =
    subst (λ (js : List Jump). MadeJumps c.args.pool.now c.args.procedures.now js (c.loop-one.one-index + 1)) (sym c.in_ok-push.ensures.items)
    (jumps_more c.args.pool.now c.args.procedures.now c.loop-one.list.items c.loop-one.one-index c.one-item.result c.in_ok-jump.field-0 c.one-item.is c.loop-one-test.true c.in_ok-jump.ensures.name c.in_ok-jump.ensures.uses
    c.loop-one.invariant)
