-- Proves that what is known of macros and procedures is found first.
use Rattle.std.proofs.lemmas.Result.{IfOk-weaker}
use Rattle.read_rules.proofs.stale.refusal_with.Goals as goal

pub returns : goal.returns
returns c = IfOk-weaker c.refusal_by-found.result _ _ (λ r h read names. h read names c.in_ok-known.ensures) c.refusal_by-found.ensures
