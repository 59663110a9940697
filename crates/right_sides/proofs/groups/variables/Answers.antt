-- Proves that the variables of all groups are in.
use Rattle.std.proofs.Common.{◌<◌, ◌≤◌, length, arith}
use Rattle.right_sides.proofs.StatementLaws.{none_in, more_in, all_in_set}
use Rattle.right_sides.proofs.groups.variables.Goals as goal

pub loop-number-init : goal.loop-number-init
loop-number-init c = none_in c.args.order.now _ c.args.groups.now.entries (c.empty-names.ensures.names c.args.order.now)

pub loop-number-preserved : goal.loop-number-preserved
loop-number-preserved c =
    let less : c.loop-number.number < length c.args.groups.now.entries = omega (arith, c.loop-number-test.true, c.len-number-end.ensures.len) in
    more_in c.args.order.now c.loop-number.names c.with_name-names.result c.args.groups.now.entries c.loop-number.number c.name_at.result.now c.loop-number.invariant less c.name_at.ensures c.with_name-names.ensures

pub returns : goal.returns
returns c =
    let all : length c.args.groups.now.entries ≤ c.loop-number.number = omega (arith, c.loop-number-test.false, c.len-number-end.ensures.len) in
    all_in_set c.args.order.now c.loop-number.names c.args.groups.now.entries c.loop-number.number c.loop-number.invariant all
