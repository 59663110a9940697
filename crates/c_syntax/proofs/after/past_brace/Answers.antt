-- Proves what is asked of `past_brace`.
use Rattle.std.proofs.Common.{Option, Some, subst, ap, ◌∙◌}
use Rattle.c_syntax.specs.Takes.{MayTurn}
use Rattle.c_syntax.specs.declared.open.Turn.{Turn}
use Rattle.c_syntax.proofs.AfterStatement.{brace_passed}
use Rattle.c_syntax.proofs.after.past_brace.Goals as goal

pub returns-in-On-clause-read : goal.returns-in-On-clause-read
returns-in-On-clause-read c ts o h = brace_passed ts c.args.tokens.now c.args.at _ o (subst (λ (s : Option Turn). MayTurn ts s o) (c.in-Some.is ∙ ap Some c.in-On.is) h)
