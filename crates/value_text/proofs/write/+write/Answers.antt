-- Proves what is asked of the calls that write a value.
use Rattle.std.proofs.Common.{◌≡◌, ◌++◌, List, ℕ, true, false, ◌∙◌, sym, ap, subst, arith, codes}
use Rattle.std.specs.Prelude.{OnOk, is_some}
use Rattle.std.specs.Ordering.{is_eq}
use Rattle.tla_value.specs.Value.{Value, fun, values_in}
use Rattle.tla_value.specs.Order.{orders, numbers_from}
use Rattle.tla_value.specs.Code.{height}
use Rattle.tla_value.specs.declared.value.Kind.{Kind}
use Rattle.tla_value.specs.ValueOf.{kind_value}
use Rattle.tla_value.specs.ValueText.{items_text, all_shown, field_names, value_text}
use Rattle.value_text.specs.Entries.{entries_text}
use Rattle.value_text.proofs.Written.{part_low, tuple_text, record_text, pairs_written, wrapped, as_many}
use Rattle.value_text.proofs.write.+write.Goals as goal

pub write_function-returns-in_ok-write_items : goal.write_function-returns-in_ok-write_items
write_function-returns-in_ok-write_items t c =
    let ds = c.args.domain.now in
    let vs = c.args.values.now in
    let numbered = sym (ap (λ (l : List Value). is_eq (orders (values_in l) (numbers_from 1 l))) (c.deref.ensures.value ∙ c.domain.view_is)) ∙ sym c.is_numbered.ensures ∙ c.if-is_numbered.true in
    let inner = items_text (all_shown (values_in vs)) in
    let put = c.in_ok-write_items.ensures ∙ ap (λ (l : List Value). c.extend.new.self ++ items_text (all_shown (values_in l))) (c.deref-then-is_numbered.ensures.value ∙ c.values.view_is) in
    let whole = wrapped c.args.into.now (codes "<<") inner (codes ">>") c.extend.new.self c.write_items.new.into (value_text (fun (values_in ds) (values_in vs))) c.in_ok-extend.ensures.ok put (tuple_text ds vs c.requires numbered) in
    subst (λ (w : List ℕ). OnOk c.extend-then-is_numbered.result (c.extend-then-is_numbered.new.self ≡ w)) whole c.extend-then-is_numbered.ensures.ok

pub write_function-returns-in_ok-write_entries : goal.write_function-returns-in_ok-write_entries
write_function-returns-in_ok-write_entries t c =
    let ds = c.args.domain.now in
    let vs = c.args.values.now in
    let numbered = sym (ap (λ (l : List Value). is_eq (orders (values_in l) (numbers_from 1 l))) (c.deref.ensures.value ∙ c.domain.view_is)) ∙ sym c.is_numbered.ensures ∙ c.if-is_numbered.false in
    let fields = sym (ap (λ (l : List Value). is_some (field_names (values_in l))) (c.deref-else-is_numbered.ensures.value ∙ c.domain.view_is)) ∙ sym c.are_fields.ensures ∙ c.if-are_fields.true in
    let whole = wrapped c.args.into.now (codes "[") (entries_text true ds vs) (codes "]") c.push.new.self c.write_entries.new.into (value_text (fun (values_in ds) (values_in vs))) c.in_ok-push.ensures.ok c.in_ok-write_entries.ensures (record_text ds vs c.requires numbered fields) in
    subst (λ (w : List ℕ). OnOk c.push-then-are_fields.result (c.push-then-are_fields.new.self ≡ w)) whole c.push-then-are_fields.ensures.ok

pub write_function-returns-in_ok-write_entries-2 : goal.write_function-returns-in_ok-write_entries-2
write_function-returns-in_ok-write_entries-2 t c =
    let ds = c.args.domain.now in
    let vs = c.args.values.now in
    let numbered = sym (ap (λ (l : List Value). is_eq (orders (values_in l) (numbers_from 1 l))) (c.deref.ensures.value ∙ c.domain.view_is)) ∙ sym c.is_numbered.ensures ∙ c.if-is_numbered.false in
    let fields = sym (ap (λ (l : List Value). is_some (field_names (values_in l))) (c.deref-else-is_numbered.ensures.value ∙ c.domain.view_is)) ∙ sym c.are_fields.ensures ∙ c.if-are_fields.false in
    let whole = wrapped c.args.into.now (codes "(") (entries_text false ds vs) (codes ")") c.push-else-are_fields.new.self c.write_entries-else-are_fields.new.into (value_text (fun (values_in ds) (values_in vs))) c.in_ok-push-2.ensures.ok c.in_ok-write_entries-2.ensures (pairs_written ds vs c.requires numbered fields) in
    subst (λ (w : List ℕ). OnOk c.push-else-are_fields-2.result (c.push-else-are_fields-2.new.self ≡ w)) whole c.push-else-are_fields-2.ensures.ok

pub write_items-write_one-requires : goal.write_items-write_one-requires
write_items-write_one-requires t c = (omega (arith, part_low c.args.values.now c.loop-i.i c.index-values-i.result c.loop-i-test.true, ap height c.index-values-i.is), tt)

pub write_one-write_function-requires : goal.write_one-write_function-requires
write_one-write_function-requires t c = (
  omega (arith, ap height c.v.view_is, ap (λ (k : Kind). height (kind_value k)) c.in-Fun.is),
  as_many (kind_value c.v.inside.kind) c.in-Fun.ds c.in-Fun.vs (ap kind_value c.in-Fun.is) c.v.invariant.0,
)
