-- Proves what is asked of `next`.
use Rattle.std.proofs.Common.{refl}
use Rattle.expr_rows.proofs.ReadLemmas.{told_on, told_then}
use Rattle.module_tree.specs.Units.{next_form}
use Rattle.region_units.proofs.UnitsStand.{next_stands}
use Rattle.region_units.proofs.own.next.Goals as goal

pub returns-clause-read : goal.returns-clause-read
returns-clause-read c = λ p.
    let q = c.in_ok-at.field-0-0 in
    let list = c.in_ok-list in
    told_on _ _ _ c.in_ok-at.ensures.value (told_then _ _ list.ensures.read (λ fs h. record { what = next_form p q fs; is = refl; told = next_stands list.list p q fs h }))
