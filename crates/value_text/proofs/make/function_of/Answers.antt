-- Proves what is asked of `function_of`.
use Rattle.std.proofs.Common.{◌≡◌, ◌≤◌, List, reverse, sym, ap, subst, ◌∙◌, arith}
use Rattle.tla_token.specs.Limits.{most_members}
use Rattle.tla_value.specs.Value.{Value, fun, values_in}
use Rattle.tla_value.specs.Order.{count, fun_from, IsAscending}
use Rattle.tla_value.specs.Limits.{fits, depths}
use Rattle.tla_value.specs.ValueOf.{AreStored}
use Rattle.tla_value.proofs.Fits.{fun_many, fun_deep, fun_fits}
use Rattle.value_text.specs.Items.{paired}
use Rattle.value_text.specs.EntryOrder.{entry_keys, entry_values}
use Rattle.value_text.proofs.EntryLemmas.{whole, nothing, keys_many, many_alike, deep_domain, taken, taken_value, all_taken, all_values}
use Rattle.value_text.proofs.make.function_of.Goals as goal

pub returns-then-len-gt-MOST_MEMBERS : goal.returns-then-len-gt-MOST_MEMBERS
returns-then-len-gt-MOST_MEMBERS c =
    let es = c.in_ok-entries.entries.items in
    let is = whole es c.in_ok-entries_of.field-0.items c.args.keys.items c.args.values.items c.in_ok-entries_of.ensures c.in_ok-entries.ensures.pairs c.in_ok-entries.ensures.ascending in
    ap fits is ∙ fun_many (values_in (entry_keys es)) (values_in (entry_values es)) (omega (arith, keys_many es, c.len.ensures, c.if-len-gt-MOST_MEMBERS.true))

pub loop-entry-preserved : goal.loop-entry-preserved
loop-entry-preserved c = (
  taken c.loop-entry.entries.items c.pop.new.self.items c.in-Some.entry c.loop-entry.domain.items c.push.new.self.items _ c.in-Some.ensures.items c.in_ok-push.ensures.items c.loop-entry.invariant.0,
  taken_value c.loop-entry.entries.items c.pop.new.self.items c.in-Some.entry c.loop-entry.values.items c.push-in-Some.new.self.items _ c.in-Some.ensures.items c.in_ok-push-2.ensures.items c.loop-entry.invariant.1,
)

pub returns-then-depth_in-ge-DEEPEST : goal.returns-then-depth_in-ge-DEEPEST
returns-then-depth_in-ge-DEEPEST c =
    let es = c.in_ok-entries.entries.items in
    let is = whole es c.in_ok-entries_of.field-0.items c.args.keys.items c.args.values.items c.in_ok-entries_of.ensures c.in_ok-entries.ensures.pairs c.in_ok-entries.ensures.ascending in
    let keys = c.reverse.ensures.items ∙ all_taken c.loop-entry.entries.items (reverse c.loop-entry.domain.items) (entry_keys es) (nothing c.loop-entry.entries.items (omega (arith, c.in_default.ensures.cases.0))) c.loop-entry.invariant.0 in
    let values = c.reverse-2.ensures.items ∙ all_values c.loop-entry.entries.items (reverse c.loop-entry.values.items) (entry_values es) (nothing c.loop-entry.entries.items (omega (arith, c.in_default.ensures.cases.0))) c.loop-entry.invariant.1 in
    let ds = c.reverse.new.self.items in
    let vs = c.reverse-2.new.self.items in
    let made : fun_from (paired c.args.keys.items c.args.values.items) ≡ fun (values_in ds) (values_in vs) = is ∙ (λ i. fun (values_in (sym keys i)) (values_in (sym values i))) in
    ap fits made ∙ deep_domain (values_in ds) (values_in vs) (omega (arith, c.depth_in.ensures.depth, ap (λ (l : List Value). depths (values_in l)) c.deref.ensures.value, c.if-depth_in-ge-DEEPEST.true))

pub returns-then-depth_in-ge-DEEPEST-2 : goal.returns-then-depth_in-ge-DEEPEST-2
returns-then-depth_in-ge-DEEPEST-2 c =
    let es = c.in_ok-entries.entries.items in
    let is = whole es c.in_ok-entries_of.field-0.items c.args.keys.items c.args.values.items c.in_ok-entries_of.ensures c.in_ok-entries.ensures.pairs c.in_ok-entries.ensures.ascending in
    let keys = c.reverse.ensures.items ∙ all_taken c.loop-entry.entries.items (reverse c.loop-entry.domain.items) (entry_keys es) (nothing c.loop-entry.entries.items (omega (arith, c.in_default.ensures.cases.0))) c.loop-entry.invariant.0 in
    let values = c.reverse-2.ensures.items ∙ all_values c.loop-entry.entries.items (reverse c.loop-entry.values.items) (entry_values es) (nothing c.loop-entry.entries.items (omega (arith, c.in_default.ensures.cases.0))) c.loop-entry.invariant.1 in
    let ds = c.reverse.new.self.items in
    let vs = c.reverse-2.new.self.items in
    let made : fun_from (paired c.args.keys.items c.args.values.items) ≡ fun (values_in ds) (values_in vs) = is ∙ (λ i. fun (values_in (sym keys i)) (values_in (sym values i))) in
    ap fits made ∙ fun_deep (values_in ds) (values_in vs) (omega (arith, c.depth_in-2.ensures.depth, ap (λ (l : List Value). depths (values_in l)) c.deref-2.ensures.value, c.if-depth_in-ge-DEEPEST-2.true))

pub invariant_of-result : goal.invariant_of-result
invariant_of-result c =
    let es = c.in_ok-entries.entries.items in
    let is = whole es c.in_ok-entries_of.field-0.items c.args.keys.items c.args.values.items c.in_ok-entries_of.ensures c.in_ok-entries.ensures.pairs c.in_ok-entries.ensures.ascending in
    let keys = c.reverse.ensures.items ∙ all_taken c.loop-entry.entries.items (reverse c.loop-entry.domain.items) (entry_keys es) (nothing c.loop-entry.entries.items (omega (arith, c.in_default.ensures.cases.0))) c.loop-entry.invariant.0 in
    let values = c.reverse-2.ensures.items ∙ all_values c.loop-entry.entries.items (reverse c.loop-entry.values.items) (entry_values es) (nothing c.loop-entry.entries.items (omega (arith, c.in_default.ensures.cases.0))) c.loop-entry.invariant.1 in
    let ds = c.reverse.new.self.items in
    let vs = c.reverse-2.new.self.items in
    let made : fun_from (paired c.args.keys.items c.args.values.items) ≡ fun (values_in ds) (values_in vs) = is ∙ (λ i. fun (values_in (sym keys i)) (values_in (sym values i))) in
    let left = subst (λ (l : List Value). AreStored (values_in l)) c.deref.ensures.value c.depth_in.ensures.stored in
    let right = subst (λ (l : List Value). AreStored (values_in l)) c.deref-2.ensures.value c.depth_in-2.ensures.stored in
    let few : count (values_in ds) ≤ most_members = omega (arith, keys_many es, ap (λ (l : List Value). count (values_in l)) keys, c.len.ensures, c.if-len-gt-MOST_MEMBERS.false) in
    let fine = fun_fits (values_in ds) (values_in vs) few (omega (arith, c.depth_in.ensures.depth, ap (λ (l : List Value). depths (values_in l)) c.deref.ensures.value, c.if-depth_in-ge-DEEPEST.false)) (omega (arith, c.depth_in-2.ensures.depth, ap (λ (l : List Value). depths (values_in l)) c.deref-2.ensures.value, c.if-depth_in-ge-DEEPEST-2.false)) left.1 right.1 in
    ((subst (λ (l : List Value). IsAscending (values_in l)) (sym keys) c.in_ok-entries.ensures.ascending, left.0, right.0, many_alike es ds vs keys values), fine)

pub returns : goal.returns
returns c =
    let es = c.in_ok-entries.entries.items in
    let is = whole es c.in_ok-entries_of.field-0.items c.args.keys.items c.args.values.items c.in_ok-entries_of.ensures c.in_ok-entries.ensures.pairs c.in_ok-entries.ensures.ascending in
    let keys = c.reverse.ensures.items ∙ all_taken c.loop-entry.entries.items (reverse c.loop-entry.domain.items) (entry_keys es) (nothing c.loop-entry.entries.items (omega (arith, c.in_default.ensures.cases.0))) c.loop-entry.invariant.0 in
    let values = c.reverse-2.ensures.items ∙ all_values c.loop-entry.entries.items (reverse c.loop-entry.values.items) (entry_values es) (nothing c.loop-entry.entries.items (omega (arith, c.in_default.ensures.cases.0))) c.loop-entry.invariant.1 in
    let ds = c.reverse.new.self.items in
    let vs = c.reverse-2.new.self.items in
    let made : fun_from (paired c.args.keys.items c.args.values.items) ≡ fun (values_in ds) (values_in vs) = is ∙ (λ i. fun (values_in (sym keys i)) (values_in (sym values i))) in
    let left = subst (λ (l : List Value). AreStored (values_in l)) c.deref.ensures.value c.depth_in.ensures.stored in
    let right = subst (λ (l : List Value). AreStored (values_in l)) c.deref-2.ensures.value c.depth_in-2.ensures.stored in
    let few : count (values_in ds) ≤ most_members = omega (arith, keys_many es, ap (λ (l : List Value). count (values_in l)) keys, c.len.ensures, c.if-len-gt-MOST_MEMBERS.false) in
    let fine = fun_fits (values_in ds) (values_in vs) few (omega (arith, c.depth_in.ensures.depth, ap (λ (l : List Value). depths (values_in l)) c.deref.ensures.value, c.if-depth_in-ge-DEEPEST.false)) (omega (arith, c.depth_in-2.ensures.depth, ap (λ (l : List Value). depths (values_in l)) c.deref-2.ensures.value, c.if-depth_in-ge-DEEPEST-2.false)) left.1 right.1 in
    (sym made, ap fits made ∙ fine)
