-- Proves what is asked of `set_of`.
use Rattle.std.proofs.Common.{ap, subst, arith}
use Rattle.tla_value.specs.Value.{set, values_in}
use Rattle.tla_value.specs.Order.{set_from}
use Rattle.tla_value.specs.Limits.{depths}
use Rattle.tla_value.specs.ValueOf.{AreStored}
use Rattle.tla_value.proofs.ValueLists.{count-values_in}
use Rattle.tla_value.proofs.Fits.{set_many, set_deep, set_fits, bounded_past, bounded_kept}
use Rattle.tla_value.proofs.SetOf.{sorted_once, sorted_ascending}
use Rattle.tla_value.proofs.build.set_of.Goals as goal

pub returns-then-len-gt-MOST_MEMBERS : goal.returns-then-len-gt-MOST_MEMBERS
returns-then-len-gt-MOST_MEMBERS c =
    let items = c.dedup.new.self.items in
    bounded_past c.args.at (set (values_in items)) (set (set_from c.args.values.items)) (ap set (sorted_once _ _ _ c.in_ok-sort.ensures.permutation c.in_ok-sort.ensures.sorted c.dedup.ensures.filtered))
    (set_many (values_in items) (omega (arith, count-values_in items, c.len.ensures, c.if-len-gt-MOST_MEMBERS.true)))

pub returns-then-depth_in-ge-DEEPEST : goal.returns-then-depth_in-ge-DEEPEST
returns-then-depth_in-ge-DEEPEST c =
    let items = c.dedup.new.self.items in
    bounded_past c.args.at (set (values_in items)) (set (set_from c.args.values.items)) (ap set (sorted_once _ _ _ c.in_ok-sort.ensures.permutation c.in_ok-sort.ensures.sorted c.dedup.ensures.filtered))
    (set_deep (values_in items) (omega (arith, c.depth_in.ensures.depth, ap (λ l. depths (values_in l)) c.deref.ensures.value, c.if-depth_in-ge-DEEPEST.true)))

pub invariant_of-result : goal.invariant_of-result
invariant_of-result c =
    let items = c.dedup.new.self.items in
    let stored = subst (λ l. AreStored (values_in l)) c.deref.ensures.value c.depth_in.ensures.stored in (
      (sorted_ascending _ _ _ c.in_ok-sort.ensures.permutation c.in_ok-sort.ensures.sorted c.dedup.ensures.filtered, stored.0),
      set_fits (values_in items) (omega (arith, count-values_in items, c.len.ensures, c.if-len-gt-MOST_MEMBERS.false)) (omega (arith, c.depth_in.ensures.depth, ap (λ l. depths (values_in l)) c.deref.ensures.value, c.if-depth_in-ge-DEEPEST.false)) stored.1,
    )

pub returns : goal.returns
returns c =
    let items = c.dedup.new.self.items in
    let stored = subst (λ l. AreStored (values_in l)) c.deref.ensures.value c.depth_in.ensures.stored in
    bounded_kept c.args.at (set (values_in items)) (set (set_from c.args.values.items)) (ap set (sorted_once _ _ _ c.in_ok-sort.ensures.permutation c.in_ok-sort.ensures.sorted c.dedup.ensures.filtered))
    (set_fits (values_in items) (omega (arith, count-values_in items, c.len.ensures, c.if-len-gt-MOST_MEMBERS.false)) (omega (arith, c.depth_in.ensures.depth, ap (λ l. depths (values_in l)) c.deref.ensures.value, c.if-depth_in-ge-DEEPEST.false)) stored.1)
