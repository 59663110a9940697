-- Proves that nothing was found at the start.
use Rattle.std.proofs.lemmas.Result.{IfOk-weaker}
use Rattle.declared_rules.proofs.rebinds.with_calls.Goals as goal

pub returns : goal.returns
returns c = IfOk-weaker c.first_offence-found.result _ _ (λ f h m e z n. h m e z n c.new-walk.ensures) c.first_offence-found.ensures
