-- Proves what is asked of `function`.
use Rattle.std.proofs.Common.{arith, ap, subst, refl}
use Rattle.tla_value.specs.Value.{values_in, fun}
use Rattle.tla_value.specs.Limits.{depths}
use Rattle.tla_value.specs.ValueOf.{AreStored}
use Rattle.tla_value.proofs.ValueLists.{count-values_in}
use Rattle.tla_value.proofs.Fits.{fun_fits, fun_many, bounded_past, bounded_kept}
use Rattle.value_forms.proofs.made.function.Goals as goal

pub returns-then-len-gt-MOST_MEMBERS : goal.returns-then-len-gt-MOST_MEMBERS
returns-then-len-gt-MOST_MEMBERS c =
    let ds = values_in c.args.domain.items in
    let vs = values_in c.args.values.items in
    bounded_past c.args.at (fun ds vs) (fun ds vs) refl (fun_many ds vs (omega (arith, count-values_in c.args.domain.items, c.len.ensures, c.if-len-gt-MOST_MEMBERS.true)))

pub invariant_of-result : goal.invariant_of-result
invariant_of-result c =
    let ds = values_in c.args.domain.items in
    let vs = values_in c.args.values.items in
    let left = subst (λ l. AreStored (values_in l)) c.deref.ensures.value c.depth_in.ensures.stored in
    let right = subst (λ l. AreStored (values_in l)) c.deref-2.ensures.value c.depth_in-2.ensures.stored in (
      (c.requires.ascending, left.0, right.0, c.requires.each),
      fun_fits ds vs (omega (arith, count-values_in c.args.domain.items, c.len.ensures, c.if-len-gt-MOST_MEMBERS.false)) (omega (arith, c.depth_in.ensures.depth, ap (λ l. depths (values_in l)) c.deref.ensures.value, c.if-depth_in-ge-DEEPEST.false)) (omega (arith, c.depth_in-2.ensures.depth, ap (λ l. depths (values_in l)) c.deref-2.ensures.value, c.if-depth_in-ge-DEEPEST-2.false)) left.1 right.1,
    )

pub returns : goal.returns
returns c =
    let ds = values_in c.args.domain.items in
    let vs = values_in c.args.values.items in
    let left = subst (λ l. AreStored (values_in l)) c.deref.ensures.value c.depth_in.ensures.stored in
    let right = subst (λ l. AreStored (values_in l)) c.deref-2.ensures.value c.depth_in-2.ensures.stored in
    bounded_kept c.args.at (fun ds vs) (fun ds vs) refl
    (fun_fits ds vs (omega (arith, count-values_in c.args.domain.items, c.len.ensures, c.if-len-gt-MOST_MEMBERS.false)) (omega (arith, c.depth_in.ensures.depth, ap (λ l. depths (values_in l)) c.deref.ensures.value, c.if-depth_in-ge-DEEPEST.false)) (omega (arith, c.depth_in-2.ensures.depth, ap (λ l. depths (values_in l)) c.deref-2.ensures.value, c.if-depth_in-ge-DEEPEST-2.false)) left.1 right.1)
