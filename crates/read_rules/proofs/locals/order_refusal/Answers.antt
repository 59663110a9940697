-- Proves that nothing is declared yet where the order is looked at.
use Rattle.std.proofs.lemmas.Result.{IfOk-weaker}
use Rattle.read_rules.proofs.locals.order_refusal.Goals as goal

pub returns : goal.returns
returns c = IfOk-weaker c.order_in-found.result _ _ (λ r h ls l. h ls (c.in_ok-all.ensures c.args.pool.now) l c.new.ensures) c.order_in-found.ensures
