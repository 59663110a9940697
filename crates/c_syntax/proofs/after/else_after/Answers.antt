-- Proves what is asked of `else_after`.
use Rattle.std.proofs.Common.{None}
use Rattle.std.proofs.lemmas.Result.{IfOk-weaker}
use Rattle.c_reading.specs.ReadStatements.{ask_else, closed}
use Rattle.c_syntax.specs.Takes.{else_taken, BeginStands}
use Rattle.c_syntax.proofs.OrAfter.{none_from}
use Rattle.c_syntax.proofs.AfterStatement.{none_takes, one_takes}
use Rattle.c_syntax.proofs.after.else_after.Goals as goal

pub returns-in_default : goal.returns-in_default
returns-in_default c ts b a st s p h =
    none_takes (BeginStands ts None) (else_taken s p) ts c.args.last b (closed ask_else a st) c.in_ok-state.field-0 (none_from c.in_ok-state.field-0 c.in_default.not-Some) (c.in_ok-state.ensures ts b a st h) tt

pub returns : goal.returns
returns c = IfOk-weaker c.else_opened.result _ _
    (λ o e ts b a st s p h. one_takes (BeginStands ts o) (else_taken s p) ts c.args.last b (closed ask_else a st) c.in_ok-state.field-0 c.in-Some.state c.in-Some.is (c.in_ok-state.ensures ts b a st h) (λ d u k. e ts s p d u k.all))
    c.else_opened.ensures
