-- Proves that no macro is marked at the start.
use Rattle.std.proofs.lemmas.Result.{IfOk-weaker}
use Rattle.read_rules.proofs.selves.with_alone.Goals as goal

pub returns : goal.returns
returns c = IfOk-weaker c.with_calls-found.result _ _ (λ r h. h c.new-called.ensures) c.with_calls-found.ensures
