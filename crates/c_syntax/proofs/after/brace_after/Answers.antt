-- Proves what is asked of `brace_after`.
use Rattle.std.proofs.Common.{None}
use Rattle.c_reading.specs.ReadStatements.{ask_other, closed}
use Rattle.c_syntax.specs.Takes.{brace_taken, MayTurn}
use Rattle.c_syntax.proofs.OrAfter.{none_from}
use Rattle.c_syntax.proofs.AfterStatement.{none_takes, one_takes}
use Rattle.c_syntax.proofs.after.brace_after.Goals as goal

pub returns-in_default : goal.returns-in_default
returns-in_default c ts b a st s h =
    none_takes (MayTurn ts None) (brace_taken s c.args.place) ts c.args.last b (closed ask_other a st) c.in_ok-state.field-0 (none_from c.in_ok-state.field-0 c.in_default.not-Some) (c.in_ok-state.ensures ts b a st h) tt

pub returns : goal.returns
returns c ts b a st s h =
    one_takes (MayTurn ts c.brace_closed.result) (brace_taken s c.args.place) ts c.args.last b (closed ask_other a st) c.in_ok-state.field-0 c.in-Some.state c.in-Some.is (c.in_ok-state.ensures ts b a st h) (λ d u k. c.brace_closed.ensures ts s d u k.all)
