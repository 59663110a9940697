-- Proves the law `files_are_refused_or_give_a_trace`.
use Rattle.trace_answer.proofs.Explanations.{refused_or_given, not_both, trace_refused}
use Rattle.trace_answer.proofs.laws.files_are_refused_or_give_a_trace.Goals as goal

pub returns-clause-some : goal.returns-clause-some
returns-clause-some c = refused_or_given

pub returns-clause-not_both : goal.returns-clause-not_both
returns-clause-not_both c = not_both

pub returns-clause-once : goal.returns-clause-once
returns-clause-once c = trace_refused
