-- Proves what is asked of `spec`.
use Rattle.std.proofs.Common.{◌≡◌, List}
use Rattle.std.specs.Prelude.{Vec}
use Rattle.std.specs.declared.alloc.Global.{Global}
use Rattle.module_write.specs.declared.«module».Fairness.{Fairness}
use Rattle.region_calls.specs.Order.{in_order}
use Rattle.region_calls.proofs.SpecUnits.{if_some, if_none, spec_told, spec_fails}
use Rattle.region_calls.proofs.order.spec.Goals as goal

pub returns-in_default-clause-read : goal.returns-in_default-clause-read
returns-in_default-clause-read c = λ p q.
    let lines = c.in_ok-lines.lines.items in
    rw c.refused.ensures (spec_fails _ _ p q c.in_ok-lines.ensures.read (if_none ((fs : List Fairness) → lines ≡ in_order fs → ⊥) c.in_ok-list.field-0 c.in_default.is c.in_ok-list.ensures.none))

pub returns-clause-read : goal.returns-clause-read
returns-clause-read c = λ p q.
    let lines = c.in_ok-lines.lines.items in
    spec_told _ _ p q c.in_ok-lines.ensures.read (if_some (λ (v : Vec Fairness Global). lines ≡ in_order v.items) c.in_ok-list.field-0 c.in-Some.list c.in-Some.is c.in_ok-list.ensures.some)
