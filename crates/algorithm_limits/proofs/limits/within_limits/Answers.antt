-- Proves that the least of the rules that tokens and what was read offend is answered.
use Rattle.std.proofs.Common.{Result, Some, Err, sym, ap, ◌∙◌}
use Rattle.tla_token.specs.declared.rule.Stop.{Stop}
use Rattle.tla_token.specs.TokensSeen.{tokens_seen}
use Rattle.pcal_tree.specs.declared.algorithm.Algorithm.{Algorithm}
use Rattle.pcal_tree.specs.Offences.{first}
use Rattle.algorithm_limits.specs.ReadOffences.{reading_offences}
use Rattle.algorithm_limits.proofs.WithinLimits.{first_is, same_refusal}
use Rattle.algorithm_limits.proofs.limits.within_limits.Goals as goal

pub returns-in-None-clause-fine : goal.returns-in-None-clause-fine
returns-in-None-clause-fine c =
    first_is c.args.pool.now (tokens_seen c.args.tokens.now) c.args.read c.tokens_refusal-first.result c.in_ok-second-in-Ok.second c.least.result c.tokens_refusal-first.ensures
    (c.in_ok-second-in-Ok.ensures ∙ ap (λ (x : Result Algorithm Stop). first (reading_offences c.args.pool.now x)) (sym c.in-Ok.is)) c.least.ensures
    ∙ c.in-None.is

pub returns-in-Some-clause-refused : goal.returns-in-Some-clause-refused
returns-in-Some-clause-refused c = λ r e.
    first_is c.args.pool.now (tokens_seen c.args.tokens.now) c.args.read c.tokens_refusal-first.result c.in_ok-second-in-Ok.second c.least.result c.tokens_refusal-first.ensures
    (c.in_ok-second-in-Ok.ensures ∙ ap (λ (x : Result Algorithm Stop). first (reading_offences c.args.pool.now x)) (sym c.in-Ok.is)) c.least.ensures
    ∙ c.in-Some.is
    ∙ same_refusal _ _ e

pub returns-in-Refused-clause-refused : goal.returns-in-Refused-clause-refused
returns-in-Refused-clause-refused c = λ r e.
    first_is c.args.pool.now (tokens_seen c.args.tokens.now) c.args.read c.tokens_refusal-first.result (Some c.in-Refused.refusal) (Some c.lesser.result) c.tokens_refusal-first.ensures
    (ap (λ (s : Stop). first (reading_offences c.args.pool.now (Err s))) (sym c.in-Refused.is) ∙ ap (λ (x : Result Algorithm Stop). first (reading_offences c.args.pool.now x)) (sym c.in-Err.is))
    c.lesser.ensures
    ∙ same_refusal _ _ e
