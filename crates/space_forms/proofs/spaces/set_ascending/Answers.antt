-- Proves what is asked of `set_ascending`.
use Rattle.std.proofs.Common.{ap, subst, arith, refl}
use Rattle.tla_value.specs.Value.{set, values_in}
use Rattle.tla_value.specs.Limits.{depths}
use Rattle.tla_value.specs.ValueOf.{AreStored}
use Rattle.tla_value.proofs.ValueLists.{count-values_in}
use Rattle.tla_value.proofs.Fits.{set_fits, bounded_kept}
use Rattle.value_forms.proofs.PartLaws.{set_over}
use Rattle.space_forms.proofs.spaces.set_ascending.Goals as goal

pub returns-then-len-gt-MOST_MEMBERS : goal.returns-then-len-gt-MOST_MEMBERS
returns-then-len-gt-MOST_MEMBERS c =
    let items = c.args.members.items in
    set_over c.args.at (values_in items) (omega (arith, count-values_in items, c.len.ensures, c.if-len-gt-MOST_MEMBERS.true))

pub invariant_of-result : goal.invariant_of-result
invariant_of-result c =
    let items = c.args.members.items in
    let stored = subst (λ l. AreStored (values_in l)) c.deref.ensures.value c.depth_in.ensures.stored in
    ((c.requires, stored.0), set_fits (values_in items) (omega (arith, count-values_in items, c.len.ensures, c.if-len-gt-MOST_MEMBERS.false)) (omega (arith, c.depth_in.ensures.depth, ap (λ l. depths (values_in l)) c.deref.ensures.value, c.if-depth_in-ge-DEEPEST.false)) stored.1)

pub returns : goal.returns
returns c =
    let items = c.args.members.items in
    let stored = subst (λ l. AreStored (values_in l)) c.deref.ensures.value c.depth_in.ensures.stored in
    bounded_kept c.args.at (set (values_in items)) (set (values_in items)) refl
    (set_fits (values_in items) (omega (arith, count-values_in items, c.len.ensures, c.if-len-gt-MOST_MEMBERS.false)) (omega (arith, c.depth_in.ensures.depth, ap (λ l. depths (values_in l)) c.deref.ensures.value, c.if-depth_in-ge-DEEPEST.false)) stored.1)
