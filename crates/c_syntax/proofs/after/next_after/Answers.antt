-- Proves what is asked of `next_after`.
use Rattle.std.proofs.Common.{None, sym, ◌∙◌}
use Rattle.c_reading.specs.ReadStatements.{ask_other, closed}
use Rattle.c_syntax.specs.Takes.{BeginStands}
use Rattle.c_syntax.specs.AfterRead.{next_taken}
use Rattle.c_syntax.proofs.OrAfter.{none_from}
use Rattle.c_syntax.proofs.AfterStatement.{none_takes, ends_there, another_begins, none_begins}
use Rattle.c_syntax.proofs.after.next_after.Goals as goal

pub returns-in_default : goal.returns-in_default
returns-in_default c ts a s st e h =
    let end = c.args.end in
    none_takes (BeginStands ts None) (next_taken s) ts end.last end.block (closed ask_other a st) c.in_ok-state.field-0 (none_from c.in_ok-state.field-0 c.in_default.not-Some) (c.in_ok-state.ensures ts end.block a st (ends_there ts c.args.state end a s st e h)) tt

pub returns-then-may_follow : goal.returns-then-may_follow
returns-then-may_follow c ts a s st e h =
    let end = c.args.end in
    let said = c.at_point.ensures in
    another_begins ts c.in_ok-state.field-0 c.in-Some.state c.at_point.result end s a st c.in-Some.is (c.in_ok-state.ensures ts end.block a st (ends_there ts c.args.state end a s st e h)) e (sym c.may_follow.ensures ∙ c.if-may_follow.true) said.list said.point said.stack said.depth

pub returns-else-may_follow : goal.returns-else-may_follow
returns-else-may_follow c ts a s st e h =
    let end = c.args.end in
    none_begins ts c.in_ok-state.field-0 c.in-Some.state end s a st c.in-Some.is (c.in_ok-state.ensures ts end.block a st (ends_there ts c.args.state end a s st e h)) e (sym c.may_follow.ensures ∙ c.if-may_follow.false)
