-- Proves that the settings of all groups are written.
use Rattle.std.proofs.Common.{◌<◌, ◌≤◌, length, ap, arith}
use Rattle.tla_token.specs.Signs.{is_among}
use Rattle.tla_tree.proofs.PoolNumbers.{Keeps-then}
use Rattle.name_bits.specs.NamesIn.{names_in}
use Rattle.pcal_tree.specs.InMemory.{assignments_at}
use Rattle.action_builder.specs.Written.{side_of}
use Rattle.right_sides.specs.Groups.{past_all}
use Rattle.right_sides.proofs.AfterLaws.{AfterIn-more}
use Rattle.right_sides.proofs.StatementLaws.{at_number, setting_added, past_added, set_none, set_more, set_all}
use Rattle.right_sides.proofs.statement.group_settings.Goals as goal

pub loop-number-init : goal.loop-number-init
loop-number-init c = set_none c.args.pool.now c.args.out.now.items (is_among (names_in c.args.order.now c.args.assigned.now)) c.args.after.now c.args.groups.now.entries c.requires.before

pub side-requires : goal.side-requires
side-requires c =
    let less : c.loop-number.number < length c.args.groups.now.entries = omega (arith, c.loop-number-test.true, c.len-number-end.ensures.len) in
    let w = at_number c.args.groups.now.entries c.loop-number.number less in
    let kept = c.loop-number.invariant.kept in
    let list = ap past_all (c.group_at.ensures w.0 w.1) in
    omega (arith, w.3, list, c.requires.there, kept.longer)

pub written-requires-clause-put : goal.written-requires-clause-put
written-requires-clause-put c =
    let kept = c.loop-number.invariant.kept in
    let more = c.in_ok-right.ensures.kept in
    AfterIn-more (length c.args.pool.now) _ c.args.after.now (omega (arith, kept.longer, more.longer)) c.requires.put

pub loop-number-preserved : goal.loop-number-preserved
loop-number-preserved c =
    let less : c.loop-number.number < length c.args.groups.now.entries = omega (arith, c.loop-number-test.true, c.len-number-end.ensures.len) in
    let A = is_among (names_in c.args.order.now c.args.assigned.now) in
    let here = c.loop-number.invariant in
    let kept = here.kept in
    let first = c.in_ok-right.ensures.kept in
    let second = c.in_ok-made.ensures.kept in
    let put = AfterIn-more (length c.args.pool.now) (length c.loop-number.pool) c.args.after.now (omega (arith, kept.longer)) c.requires.put in
    let name = c.name_at-name.result.now in
    let group = c.group_at.result.now in
    set_more c.args.pool.now c.loop-number.pool c.written.new.pool c.args.out.now.items c.loop-number.out.items c.push.new.self.items A c.args.after.now c.args.groups.now.entries c.loop-number.number name group here less c.requires.there
    c.requires.put c.name_at-name.ensures c.group_at.ensures (Keeps-then _ _ _ first second)
    (λ plain. setting_added c.loop-number.pool c.side.new.pool c.written.new.pool first second c.args.after.now put A name c.in_ok-copied.field-0 c.in_ok-right.right c.in_ok-made.made
    (side_of name (assignments_at c.loop-number.pool group)) c.loop-number.out.items c.push.new.self.items here.within c.in_ok-copied.ensures (c.in_ok-right.ensures.tree plain) c.in_ok-made.ensures.tree c.in_ok-push.ensures.items)
    (past_added (length c.written.new.pool) c.in_ok-copied.field-0 c.in_ok-made.made c.loop-number.out.items c.push.new.self.items (omega (arith, here.within, first.longer, second.longer)) c.in_ok-made.ensures.within c.in_ok-push.ensures.items)

pub returns-clause-items : goal.returns-clause-items
returns-clause-items c =
    let all : length c.args.groups.now.entries ≤ c.loop-number.number = omega (arith, c.loop-number-test.false, c.len-number-end.ensures.len) in
    (set_all c.args.pool.now c.loop-number.pool c.args.out.now.items c.loop-number.out.items (is_among (names_in c.args.order.now c.args.assigned.now)) c.args.after.now c.args.groups.now.entries c.loop-number.number c.loop-number.invariant all).items
