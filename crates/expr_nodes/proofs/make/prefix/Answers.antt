-- Proves what is asked of `prefix`.
use Rattle.std.proofs.Common.{ℕ, List, length, ap}
use Rattle.tla_pool.specs.FormOf.{form_of}
use Rattle.expr_nodes.proofs.MakeLemmas.{prefix_shaped}
use Rattle.expr_nodes.proofs.make.prefix.Goals as goal

pub put-requires-clause-shaped : goal.put-requires-clause-shaped
put-requires-clause-shaped c = prefix_shaped (form_of c.operation.result) c.args.op (length c.in_ok-parts.parts.items) c.operation.ensures c.requires.before (ap (λ (is : List ℕ). length is) c.in_ok-parts.ensures.items)
