-- Proves that nothing is kept at the start.
use Rattle.std.proofs.Common.{◌∙◌}
use Rattle.std.proofs.lemmas.Result.{IfOk-weaker}
use Rattle.declared_rules.proofs.rebinds.with_sights.Goals as goal

pub returns : goal.returns
returns c =
    IfOk-weaker c.with_calls-found.result _ _ (λ f h m e z.
    h m e z (record { process = c.new-calls.ensures.process ∙ c.new.ensures ∙ c.in_ok-process.ensures.items; macros = c.new-calls.ensures.macros; procedures = c.new-calls.ensures.procedures })) c.with_calls-found.ensures
