-- Units are looked at one after the other.
use Rattle.std.proofs.Common.{◌<◌, ◌≤◌, List, [], length, ◌∙◌, arith}
use Rattle.std.specs.Prelude.{unwrap_or}
use Rattle.std.proofs.lemmas.Result.{IfOk-from_err}
use Rattle.tla_tree.specs.Lexical.{Token}
use Rattle.expr_nodes.specs.Ahead.{ahead}
use Rattle.outside_reading.specs.PlainUnits.{modules_in, constants_in, constants_of_unit}
use Rattle.module_outside.proofs.UnitSteps.{gathered_more, gathered_first, gathered_all}
use Rattle.module_outside.proofs.declared.declare_all.Goals as goal

pub loop-at-init : goal.loop-at-init
loop-at-init c = record {
  bytes = c.in_ok-bytes.ensures.items ∙ c.deref.ensures.value;
  inside = c.next_begun-at.ensures.within;
  begins = c.next_begun-at.ensures.begins;
  extended = gathered_first (λ (ts : List Token). unwrap_or (modules_in ts) []) c.args.tokens.now c.next_begun-at.result c.args.declared.now.extended.items c.next_begun-at.ensures.value;
  constants = gathered_first (λ (ts : List Token). constants_of_unit (modules_in ts) (constants_in ts)) c.args.tokens.now c.next_begun-at.result c.args.declared.now.constants.items c.next_begun-at.ensures.value;
}

pub loop-at-preserved : goal.loop-at-preserved
loop-at-preserved c =
    let inside : c.loop-at.at < length c.args.tokens.now.items.items = (let h = c.loop-at-test.true in let k = c.len.ensures in omega (arith, h, k)) in
    record {
      bytes = c.in_ok-unit.ensures.bytes;
      inside = c.next_begun-end.ensures.within;
      begins = c.next_begun-end.ensures.begins;
      extended = gathered_more (λ (ts : List Token). unwrap_or (modules_in ts) []) c.args.tokens.now c.loop-at.at c.next_begun-end.result (ahead c.in_ok-unit.unit 0) _ c.loop-at.declared.extended.items c.declare.new.declared.extended.items
          inside (c.loop-at.invariant.begins inside) c.next_begun-end.ensures.value c.in_ok-unit.ensures.tokens c.in_ok-declare.ensures.extended c.loop-at.invariant.extended;
      constants = gathered_more (λ (ts : List Token). constants_of_unit (modules_in ts) (constants_in ts)) c.args.tokens.now c.loop-at.at c.next_begun-end.result (ahead c.in_ok-unit.unit 0) _ c.loop-at.declared.constants.items c.declare.new.declared.constants.items
          inside (c.loop-at.invariant.begins inside) c.next_begun-end.ensures.value c.in_ok-unit.ensures.tokens c.in_ok-declare.ensures.constants c.loop-at.invariant.constants;
    }

pub returns-in_err-bytes-clause-extended : goal.returns-in_err-bytes-clause-extended
returns-in_err-bytes-clause-extended c = IfOk-from_err c.from_residual.result _ c.from_residual.ensures.0

pub returns-in_err-bytes-clause-constants : goal.returns-in_err-bytes-clause-constants
returns-in_err-bytes-clause-constants c = IfOk-from_err c.from_residual.result _ c.from_residual.ensures.0

pub returns-in_err-unit-clause-extended : goal.returns-in_err-unit-clause-extended
returns-in_err-unit-clause-extended c = IfOk-from_err c.from_residual-in_err-unit.result _ c.from_residual-in_err-unit.ensures.0

pub returns-in_err-unit-clause-constants : goal.returns-in_err-unit-clause-constants
returns-in_err-unit-clause-constants c = IfOk-from_err c.from_residual-in_err-unit.result _ c.from_residual-in_err-unit.ensures.0

pub returns-in_err-declare-clause-extended : goal.returns-in_err-declare-clause-extended
returns-in_err-declare-clause-extended c = IfOk-from_err c.from_residual-in_err-declare.result _ c.from_residual-in_err-declare.ensures.0

pub returns-in_err-declare-clause-constants : goal.returns-in_err-declare-clause-constants
returns-in_err-declare-clause-constants c = IfOk-from_err c.from_residual-in_err-declare.result _ c.from_residual-in_err-declare.ensures.0

pub returns-clause-extended : goal.returns-clause-extended
returns-clause-extended c =
    let over : length c.args.tokens.now.items.items ≤ c.loop-at.at = (let h = c.loop-at-test.false in let k = c.len.ensures in omega (arith, h, k)) in
    gathered_all (λ (ts : List Token). unwrap_or (modules_in ts) []) c.args.tokens.now c.loop-at.at c.loop-at.declared.extended.items _ over c.loop-at.invariant.extended

pub returns-clause-constants : goal.returns-clause-constants
returns-clause-constants c =
    let over : length c.args.tokens.now.items.items ≤ c.loop-at.at = (let h = c.loop-at-test.false in let k = c.len.ensures in omega (arith, h, k)) in
    gathered_all (λ (ts : List Token). constants_of_unit (modules_in ts) (constants_in ts)) c.args.tokens.now c.loop-at.at c.loop-at.declared.constants.items _ over c.loop-at.invariant.constants

pub unit_tokens-requires-clause-order : goal.unit_tokens-requires-clause-order
unit_tokens-requires-clause-order c = (let h = c.next_begun-end.ensures.further in omega (arith, h))

pub unit_tokens-requires-clause-within : goal.unit_tokens-requires-clause-within
unit_tokens-requires-clause-within c = c.next_begun-end.ensures.within

pub unit_tokens-requires-clause-bytes : goal.unit_tokens-requires-clause-bytes
unit_tokens-requires-clause-bytes c = c.loop-at.invariant.bytes

pub next_begun-end-requires : goal.next_begun-end-requires
next_begun-end-requires c = (let h = c.loop-at-test.true in let k = c.len.ensures in omega (arith, h, k))

pub loop-at-smaller : goal.loop-at-smaller
loop-at-smaller c = (let h = c.loop-at-test.true in let k = c.len.ensures in let l = c.next_begun-end.ensures.further in omega (arith, h, k, l))
