-- Proves what is asked of `past_word`.
use Rattle.std.proofs.Common.{Option, subst}
use Rattle.c_syntax.specs.Takes.{BeginStands}
use Rattle.c_syntax.specs.declared.open.State.{State}
use Rattle.c_syntax.proofs.AfterStatement.{word_passed}
use Rattle.c_syntax.proofs.after.past_word.Goals as goal

pub returns-in-Some-clause-read : goal.returns-in-Some-clause-read
returns-in-Some-clause-read c ts o h = word_passed ts c.args.tokens.now c.args.at _ o (subst (λ (s : Option State). BeginStands ts s o) c.in-Some.is h)
