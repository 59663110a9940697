-- Proves that the first variable that is assigned twice in a body is found.
use Rattle.std.proofs.Common.{[], Some}
use Rattle.std.proofs.lemmas.Result.{IfOk-weaker}
use Rattle.label_steps.proofs.WalksLaws.{begun}
use Rattle.label_steps.proofs.twice.with_body.Goals as goal

pub returns : goal.returns
returns c = IfOk-weaker c.body.result _ _ (λ r h ms k. h ms k (Some []) (begun c.new-path.result c.new-path.ensures.names c.new-path.ensures.reached)) c.body.ensures.first
