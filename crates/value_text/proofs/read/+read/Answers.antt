-- Proves what is asked of the calls that read a value.
use Rattle.std.proofs.Common.{arith, ◌-◌, ◌∙◌, sym, ap, [], Ok, Some, ◌∷◌}
use Rattle.tla_token.specs.declared.part.Class.TheVariants as class
use Rattle.tla_token.specs.Tokens.{stretch}
use Rattle.value_text.specs.declared.token.Punct.{Punct}
use Rattle.value_text.specs.declared.make.Form.TheVariants as form
use Rattle.value_text.specs.Items.{punct_mark}
use Rattle.value_text.specs.InSight.{ahead}
use Rattle.value_text.proofs.Tokens.{moves_then, moves_same, moves_none}
use Rattle.value_text.proofs.ReadLemmas.{way_first, init_by, word_answer, number_answer, string_answer, no_sign_answer, other_answer, nothing_there, argument_read, argument_open, item_no_value, item_read, begun_filled, begun_open, body_halted, body_closed, body_more, body_open, none_deep, brackets_halted, brackets_paired, brackets_made, body_from, as_class, minus_sign, same_first, same_form_key}
use Rattle.value_text.proofs.read.+read.Goals as goal
use Rattle.value_text.proofs.read.+read.Goals.{items-then-may_be_empty+else-passes, items-else-may_be_empty}

pub argument-returns-in_ok-push-in-Ok-clause-read : goal.argument-returns-in_ok-push-in-Ok-clause-read
argument-returns-in_ok-push-in-Ok-clause-read t c =
    argument_read c.args.deep (ahead c.args.text.now c.args.at.now) (ahead c.args.text.now c.value.new.at) (ahead c.args.text.now c.passes.new.at) c.args.keys.now.items c.push.new.self.items c.in-Ok.k c.in-Ok.ensures.read c.if-passes.ensures.0 c.in_ok-push-in-Ok.ensures.items

pub argument-returns-else-passes-clause-read : goal.argument-returns-else-passes-clause-read
argument-returns-else-passes-clause-read t c =
    argument_open c.args.deep (ahead c.args.text.now c.args.at.now) (ahead c.args.text.now c.value.new.at) [] c.args.keys.now.items c.args.keys.now.items c.in-Ok.k c.in-Ok.ensures.read c.if-passes.ensures.1

pub behind-returns-in_ok-word-in-Name-clause-read : goal.behind-returns-in_ok-word-in-Name-clause-read
behind-returns-in_ok-word-in-Name-clause-read t c = λ m k.
    word_answer (stretch c.args.text.now c.args.token.from c.args.token.to) m (ahead c.args.text.now c.args.at.now) c.args.deep c.in_ok-word-in-Name.field-0 (as_class c.args.token.class class.Name _ m c.in-Name.is k) c.in_ok-word-in-Name.ensures

pub behind-returns-in-Number-clause-read : goal.behind-returns-in-Number-clause-read
behind-returns-in-Number-clause-read t c = λ m k.
    number_answer (stretch c.args.text.now c.args.token.from c.args.token.to) m (ahead c.args.text.now c.args.at.now) c.args.deep c.integer.result (as_class c.args.token.class class.Number _ m c.in-Number.is k) c.integer.ensures

pub behind-returns-in_ok-string-in-Text-clause-read : goal.behind-returns-in_ok-string-in-Text-clause-read
behind-returns-in_ok-string-in-Text-clause-read t c = λ m k.
    string_answer (stretch c.args.text.now c.args.token.from c.args.token.to) m (ahead c.args.text.now c.args.at.now) c.args.deep c.in_ok-string-in-Text.field-0 (as_class c.args.token.class class.Text _ m c.in-Text.is k) c.in_ok-string-in-Text.ensures

pub behind-returns-in_default : goal.behind-returns-in_default
behind-returns-in_default t c = record {
  read = λ m k. other_answer c.args.token.class (stretch c.args.text.now c.args.token.from c.args.token.to) m (ahead c.args.text.now c.args.at.now) c.in_default.not-Name c.in_default.not-Number c.in_default.not-Text c.in_default.not-Sign k c.args.deep;
  moved = tt;
  way = tt;
}

pub brackets-returns-then-deep-eq0-clause-read : goal.brackets-returns-then-deep-eq0-clause-read
brackets-returns-then-deep-eq0-clause-read t c = none_deep c.args.form c.args.deep (ahead c.args.text.now c.args.at.now) c.if-deep-eq0.true

pub brackets-made_of-requires : goal.brackets-made_of-requires
brackets-made_of-requires t c =
    brackets_paired c.args.form (c.args.deep - 1) (ahead c.args.text.now c.args.at.now) (ahead c.args.text.now c.items.new.at) c.items.new.keys.items c.items.new.values.items c.in-Ok.field-0 (body_from _ _ _ _ _ _ _ _ (Ok c.in-Ok.field-0) c.new-keys.ensures.items c.new-values.ensures.items c.in-Ok.ensures.read)

pub brackets-returns-in-Ok-clause-read : goal.brackets-returns-in-Ok-clause-read
brackets-returns-in-Ok-clause-read t c =
    brackets_made c.args.form (c.args.deep - 1) c.args.deep (ahead c.args.text.now c.args.at.now) (ahead c.args.text.now c.items.new.at) c.items.new.keys.items c.items.new.values.items c.in-Ok.field-0 c.made_of.result (omega (arith, c.if-deep-eq0.false)) (body_from _ _ _ _ _ _ _ _ (Ok c.in-Ok.field-0) c.new-keys.ensures.items c.new-values.ensures.items c.in-Ok.ensures.read) c.made_of.ensures

pub brackets-returns-in-Err-clause-read : goal.brackets-returns-in-Err-clause-read
brackets-returns-in-Err-clause-read t c =
    brackets_halted c.args.form (c.args.deep - 1) c.args.deep (ahead c.args.text.now c.args.at.now) (ahead c.args.text.now c.items.new.at) (ahead c.args.text.now c.items.new.at) c.new-keys.result.items c.items.new.keys.items c.new-values.result.items c.items.new.values.items c.in-Err.halt (omega (arith, c.if-deep-eq0.false)) c.in-Err.ensures.read

pub item-returns-in_ok-push-in-Ok-value-clause-read : goal.item-returns-in_ok-push-in-Ok-value-clause-read
item-returns-in_ok-push-in-Ok-value-clause-read t c =
    item_read c.args.form c.args.deep (ahead c.args.text.now c.args.at.now) (ahead c.args.text.now c.key.new.at) (ahead c.args.text.now c.value.new.at) c.args.keys.now.items c.key.new.keys.items c.args.values.now.items c.push.new.self.items c.in-Ok.field-0 c.in-Ok-value.v c.in-Ok.ensures.read c.in-Ok-value.ensures.read c.in_ok-push-in-Ok-value.ensures.items

pub item-returns-in-Err-value-clause-read : goal.item-returns-in-Err-value-clause-read
item-returns-in-Err-value-clause-read t c =
    item_no_value c.args.form c.args.deep (ahead c.args.text.now c.args.at.now) (ahead c.args.text.now c.key.new.at) (ahead c.args.text.now c.value.new.at) (ahead c.args.text.now c.value.new.at) c.args.keys.now.items c.key.new.keys.items c.args.values.now.items c.args.values.now.items c.in-Ok.field-0 c.in-Err-value.halt c.in-Ok.ensures.read c.in-Err-value.ensures.read

pub signed-returns-in-None-clause-read : goal.signed-returns-in-None-clause-read
signed-returns-in-None-clause-read t c = no_sign_answer c.args.sign (ahead c.args.text.now c.args.at.now) (sym c.opening_of.ensures ∙ c.in-None.is) c.args.deep

pub value-returns-in-None-clause-read : goal.value-returns-in-None-clause-read
value-returns-in-None-clause-read t c = nothing_there (ahead c.args.text.now c.args.at.now) c.in-None.ensures c.args.deep

pub signed-returns-in-Some-Minus-clause-read : goal.signed-returns-in-Some-Minus-clause-read
signed-returns-in-Some-Minus-clause-read t c =
    same_first _ _ (ahead c.args.text.now c.args.at.now) (ahead c.args.text.now c.negative.new.at) c.args.deep c.negative.result (minus_sign c.args.sign c.opening_of.result c.opening_of.ensures (c.in-Some-Minus.is ∙ ap Some c.in-Some-Minus.field-0-is)) (c.negative.ensures.read c.args.deep)

pub key-returns-in-Record-clause-read : goal.key-returns-in-Record-clause-read
key-returns-in-Record-clause-read t c =
    same_form_key c.args.form form.Record c.args.deep (ahead c.args.text.now c.args.at.now) (ahead c.args.text.now c.field.new.at) c.args.keys.now.items c.field.new.keys.items c.field.result c.in-Record.is (c.field.ensures.read c.args.deep)

pub items-returns-in-Err-clause-read : goal.items-returns-in-Err-clause-read
items-returns-in-Err-clause-read t c =
    body_halted c.args.form c.args.deep (ahead c.args.text.now c.args.at.now) (ahead c.args.text.now c.loop-halt.at) (ahead c.args.text.now c.item.new.at) (ahead c.args.text.now c.item.new.at) c.args.keys.now.items c.loop-halt.keys.items c.item.new.keys.items c.args.values.now.items c.loop-halt.values.items c.item.new.values.items c.in-Err.halt c.loop-halt.invariant.0 c.in-Err.ensures.read

pub items-returns-then-passes-2-clause-read : goal.items-returns-then-passes-2-clause-read
items-returns-then-passes-2-clause-read t c =
    body_closed c.args.form c.args.deep (ahead c.args.text.now c.args.at.now) (ahead c.args.text.now c.loop-halt.at) (ahead c.args.text.now c.item.new.at) (ahead c.args.text.now c.passes-in-loop-halt.new.at) c.args.keys.now.items c.loop-halt.keys.items c.item.new.keys.items c.args.values.now.items c.loop-halt.values.items c.item.new.values.items c.in-Ok.field-0 c.loop-halt.invariant.0 c.in-Ok.ensures.read (c.if-passes-2.ensures.0 ∙ ap (λ (p : Punct). punct_mark p ∷ ahead c.args.text.now c.passes-in-loop-halt.new.at) c.close_of-in-loop-halt.ensures)

pub items-returns-then-not-passes-clause-read : goal.items-returns-then-not-passes-clause-read
items-returns-then-not-passes-clause-read t c =
    body_open c.args.form c.args.deep (ahead c.args.text.now c.args.at.now) (ahead c.args.text.now c.loop-halt.at) (ahead c.args.text.now c.item.new.at) [] c.args.keys.now.items c.loop-halt.keys.items c.item.new.keys.items c.args.values.now.items c.loop-halt.values.items c.item.new.values.items c.in-Ok.field-0 c.loop-halt.invariant.0 c.in-Ok.ensures.read
    (λ q e. c.if-passes-2.ensures.1 q (e ∙ ap (λ (p : Punct). punct_mark p ∷ q) (sym c.close_of-in-loop-halt.ensures)))
    (λ q e. c.if-not-passes.ensures.1 q (ap (ahead c.args.text.now) c.if-passes-2.ensures.0 ∙ e ∙ ap (λ (p : Punct). punct_mark p ∷ q) (sym c.between_of.ensures)))

pub items-loop-halt-preserved : goal.items-loop-halt-preserved
items-loop-halt-preserved t c = (
  body_more c.args.form c.args.deep (ahead c.args.text.now c.args.at.now) (ahead c.args.text.now c.loop-halt.at) (ahead c.args.text.now c.item.new.at) (ahead c.args.text.now c.passes-in-loop-halt-2.new.at) c.args.keys.now.items c.loop-halt.keys.items c.item.new.keys.items c.args.values.now.items c.loop-halt.values.items c.item.new.values.items c.in-Ok.field-0 c.loop-halt.invariant.0 c.in-Ok.ensures.read
      (sym (ap (ahead c.args.text.now) c.if-passes-2.ensures.0) ∙ c.if-not-passes.ensures.0 ∙ ap (λ (p : Punct). punct_mark p ∷ ahead c.args.text.now c.passes-in-loop-halt-2.new.at) c.between_of.ensures),
  omega (arith, c.loop-halt.invariant.1, c.in-Ok.ensures.moved.0, c.if-passes-2.ensures.0, c.if-not-passes.ensures.1),
  c.if-not-passes.ensures.2,
  moves_then c.args.text.now c.args.at.now c.item.new.at c.passes-in-loop-halt-2.new.at (moves_then c.args.text.now c.args.at.now c.loop-halt.at c.item.new.at c.loop-halt.invariant.3 c.in-Ok.ensures.way)
      (moves_then c.args.text.now c.item.new.at c.passes-in-loop-halt.new.at c.passes-in-loop-halt-2.new.at (moves_same c.args.text.now c.item.new.at c.passes-in-loop-halt.new.at c.if-passes-2.ensures.0) c.if-not-passes.ensures.3),
)

pub argument-returns-in_ok-push-in-Ok-clause-way : goal.argument-returns-in_ok-push-in-Ok-clause-way
argument-returns-in_ok-push-in-Ok-clause-way t c =
    moves_then c.args.text.now c.args.at.now c.value.new.at c.passes.new.at c.in-Ok.ensures.way c.if-passes.ensures.3

pub items-loop-halt-init : goal.items-loop-halt-init
items-loop-halt-init t c = elim c.if-may_be_empty.branch [
  | items-then-may_be_empty+else-passes w ↦ init_by c.args.form c.args.deep c.args.text.now c.args.at.now c.if-may_be_empty.at c.args.keys.now.items c.args.values.now.items (w.at-is ∙ w.if-passes.ensures.0) c.requires.within (begun_open c.args.form c.args.deep (ahead c.args.text.now c.args.at.now) c.args.keys.now.items c.args.values.now.items (λ r e. w.if-passes.ensures.1 r (e ∙ ap (λ (p : Punct). punct_mark p ∷ r) (sym w.close_of.ensures))))
  | items-else-may_be_empty w ↦ init_by c.args.form c.args.deep c.args.text.now c.args.at.now c.if-may_be_empty.at c.args.keys.now.items c.args.values.now.items w.at-is c.requires.within (begun_filled c.args.form c.args.deep (ahead c.args.text.now c.args.at.now) c.args.keys.now.items c.args.values.now.items (sym c.may_be_empty.ensures ∙ w.if-may_be_empty.false))
]

pub items-returns-then-passes-2-clause-way : goal.items-returns-then-passes-2-clause-way
items-returns-then-passes-2-clause-way t c =
    moves_then c.args.text.now c.args.at.now c.item.new.at c.passes-in-loop-halt.new.at (moves_then c.args.text.now c.args.at.now c.loop-halt.at c.item.new.at c.loop-halt.invariant.3 c.in-Ok.ensures.way) c.if-passes-2.ensures.3

pub behind-returns-in_ok-string-in-Text-clause-way : goal.behind-returns-in_ok-string-in-Text-clause-way
behind-returns-in_ok-string-in-Text-clause-way t c = moves_none c.args.text.now c.args.at.now

pub behind-returns-in_ok-word-in-Name-clause-way : goal.behind-returns-in_ok-word-in-Name-clause-way
behind-returns-in_ok-word-in-Name-clause-way t c = moves_none c.args.text.now c.args.at.now

pub item-returns-in_ok-push-in-Ok-value-clause-way : goal.item-returns-in_ok-push-in-Ok-value-clause-way
item-returns-in_ok-push-in-Ok-value-clause-way t c =
    moves_then c.args.text.now c.args.at.now c.key.new.at c.value.new.at c.in-Ok.ensures.way c.in-Ok-value.ensures.way

pub key-returns-in-Set-clause-way : goal.key-returns-in-Set-clause-way
key-returns-in-Set-clause-way t c = moves_none c.args.text.now c.args.at.now

pub value-returns-in-Some-clause-way : goal.value-returns-in-Some-clause-way
value-returns-in-Some-clause-way t c =
    way_first c.args.text.now c.args.at.now c.in-Some.token.to c.behind.new.at c.behind.result c.in-Some.ensures.way c.behind.ensures.way
