-- Proves what is asked of `next_item`.
use Rattle.std.proofs.Common.{arith, refl}
use Rattle.expr_rows.proofs.ReadLemmas.{told_then, told_on}
use Rattle.expr_lists.proofs.read_bullets.next_item.Goals as goal

pub returns-clause-read : goal.returns-clause-read
returns-clause-read g c =
    let one = c.requires.given.reads _ _ _ _ _ (omega arith) c.in_ok-place.ensures.inside c.in_ok-read.ensures in
    told_on _ _ _ c.in_ok-place.ensures.value (told_then _ _ one.read (λ i is. record { what = (c.in_ok-place.place, i); is = refl; told = (refl, is) }))
