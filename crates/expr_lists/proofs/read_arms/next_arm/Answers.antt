-- Proves what is asked of `next_arm`.
use Rattle.std.proofs.Common.{arith, refl}
use Rattle.expr_nodes.proofs.MakeLemmas.{kept_in}
use Rattle.expr_rows.proofs.ReadLemmas.{told_then}
use Rattle.expr_lists.proofs.read_arms.next_arm.Goals as goal

pub returns-clause-read : goal.returns-clause-read
returns-clause-read g c =
    let one = c.requires.given.reads _ _ _ _ _ (omega arith) c.requires.given.there c.in_ok-test.ensures in
    told_then _ _ one.read (λ i is. told_then _ _ c.in_ok-value.ensures.read (λ y ys. record { what = (i, y.0, y.1); is = refl; told = (kept_in c.in_ok-value.ensures.kept is, ys) }))
