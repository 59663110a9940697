-- Names are read as far as there are commas.
use Rattle.std.proofs.Common.{◌+◌, List, ap, ◌∙◌, arith}
use Rattle.std.proofs.lemmas.Result.{IfOk-from_err}
use Rattle.outside_reading.specs.PlainUnits.{names_in}
use Rattle.expr_nodes.specs.Ahead.{ahead}
use Rattle.tla_tree.specs.Tree.{Name}
use Rattle.module_outside.specs.Fronts.{names_before}
use Rattle.module_outside.proofs.NameLaws.{names_start, names_none, names_last, names_stopped, names_further, names_over}
use Rattle.module_outside.proofs.names.names_at.Goals as goal

pub returns-in-None-clause-value : goal.returns-in-None-clause-value
returns-in-None-clause-value c =
    names_none c.args.tokens.now c.loop-at.at c.loop-at.names.items (names_in (ahead c.args.tokens.now c.args.from)) c.loop-at.invariant.value c.in_ok-name.field-0 c.in-None.is c.in_ok-name.ensures.value

pub returns-then-not-is_mark_at-clause-value : goal.returns-then-not-is_mark_at-clause-value
returns-then-not-is_mark_at-clause-value c =
    names_last c.args.tokens.now c.loop-at.at c.loop-at.names.items (names_in (ahead c.args.tokens.now c.args.from)) c.loop-at.invariant.value c.in_ok-name.field-0 c.in-Some.name c.is_mark_at.result c.push.new.self.items c.in-Some.is c.in_ok-name.ensures.value
    c.is_mark_at.ensures.value c.if-not-is_mark_at.true c.in_ok-push-in-Some.ensures.items

pub returns-then-not-is_right_at-clause-value : goal.returns-then-not-is_right_at-clause-value
returns-then-not-is_right_at-clause-value c =
    names_stopped c.args.tokens.now c.loop-at.at c.loop-at.names.items (names_in (ahead c.args.tokens.now c.args.from)) c.loop-at.invariant.value c.in_ok-name.field-0 c.in-Some.name c.is_mark_at.result c.is_right_at.result c.in-Some.is c.in_ok-name.ensures.value
    c.is_mark_at.ensures.value c.if-not-is_mark_at.false c.is_right_at.ensures.value c.if-not-is_right_at.true

pub loop-at-preserved : goal.loop-at-preserved
loop-at-preserved c = record {
  inside = (let h = c.is_mark_at.ensures.there c.if-not-is_mark_at.false in omega (arith, h));
  value = names_further c.args.tokens.now c.loop-at.at c.loop-at.names.items (names_in (ahead c.args.tokens.now c.args.from)) c.loop-at.invariant.value c.in_ok-name.field-0 c.in-Some.name c.is_mark_at.result c.is_right_at.result c.push.new.self.items (c.loop-at.at + 2)
      c.in-Some.is c.in_ok-name.ensures.value c.is_mark_at.ensures.value c.if-not-is_mark_at.false c.is_right_at.ensures.value c.if-not-is_right_at.false c.in_ok-push-in-Some.ensures.items (omega arith);
}

pub returns-clause-value : goal.returns-clause-value
returns-clause-value c = names_over c.args.tokens.now c.loop-at.at c.loop-at.names.items (names_in (ahead c.args.tokens.now c.args.from)) (let h = c.loop-at-test.false in let k = c.len.ensures in omega (arith, h, k)) c.loop-at.invariant.value

pub loop-at-init : goal.loop-at-init
loop-at-init c = record {
  inside = c.requires.there;
  value = ap (λ (ns : List Name). names_before ns (names_in (ahead c.args.tokens.now c.args.from))) c.new-names.ensures.items ∙ names_start (names_in (ahead c.args.tokens.now c.args.from));
}

pub returns-then-not-is_mark_at-clause-within : goal.returns-then-not-is_mark_at-clause-within
returns-then-not-is_mark_at-clause-within c = (let h = c.loop-at-test.true in let k = c.len.ensures in omega (arith, h, k))

pub returns-in_err-name-clause-value : goal.returns-in_err-name-clause-value
returns-in_err-name-clause-value c = IfOk-from_err c.from_residual.result _ c.from_residual.ensures.0

pub returns-in_err-name-clause-within : goal.returns-in_err-name-clause-within
returns-in_err-name-clause-within c = IfOk-from_err c.from_residual.result _ c.from_residual.ensures.0

pub returns-in_err-push-in-Some-clause-value : goal.returns-in_err-push-in-Some-clause-value
returns-in_err-push-in-Some-clause-value c = IfOk-from_err c.from_residual-in_err-push-in-Some.result _ c.from_residual-in_err-push-in-Some.ensures.0

pub returns-in_err-push-in-Some-clause-within : goal.returns-in_err-push-in-Some-clause-within
returns-in_err-push-in-Some-clause-within c = IfOk-from_err c.from_residual-in_err-push-in-Some.result _ c.from_residual-in_err-push-in-Some.ensures.0

pub returns-in-None-clause-within : goal.returns-in-None-clause-within
returns-in-None-clause-within c = tt

pub returns-then-not-is_right_at-clause-within : goal.returns-then-not-is_right_at-clause-within
returns-then-not-is_right_at-clause-within c = tt

pub returns-clause-within : goal.returns-clause-within
returns-clause-within c = tt

pub name_at-requires : goal.name_at-requires
name_at-requires c = (let h = c.loop-at-test.true in let k = c.len.ensures in omega (arith, h, k))

pub loop-at-smaller : goal.loop-at-smaller
loop-at-smaller c = (let h = c.loop-at-test.true in let k = c.len.ensures in omega (arith, h, k))
