-- Units are found one after the other, as the pool grows.
use Rattle.std.proofs.Common.{◌<◌, ◌≤◌, List, length, refl, sym, ◌∙◌, subst, arith}
use Rattle.std.proofs.lemmas.Result.{IfOk-from_err}
use Rattle.tla_tree.proofs.PoolNumbers.{Keeps-then}
use Rattle.module_tree.specs.FileUnits.{cut}
use Rattle.expr_nodes.specs.Ahead.{ahead}
use Rattle.module_outside.specs.declared.definition.ReadDefinition.{ReadDefinition}
use Rattle.module_outside.specs.FoundAt.{AreHeld}
use Rattle.module_outside.proofs.FoundSteps.{some_tokens, sought_first, sought_more, sought_end}
use Rattle.module_outside.proofs.found.found_before.Goals as goal

pub loop-at-init : goal.loop-at-init
loop-at-init c = record {
  bytes = c.in_ok-bytes.ensures.items ∙ c.deref.ensures.value;
  inside = c.next_begun-at.ensures.within;
  begins = c.next_begun-at.ensures.begins;
  sought = λ v s. sought_first c.args.tokens.now c.next_begun-at.result v c.args.sight.now c.args.pool.now _ c.next_begun-at.ensures.value c.new.ensures.items c.new-2.ensures.items s;
  held = subst (λ (ds : List ReadDefinition). AreHeld (length c.args.pool.now) ds) (sym c.new.ensures.items) tt;
  kept = record { longer = omega arith; same = λ i h. refl };
}

pub loop-at-preserved : goal.loop-at-preserved
loop-at-preserved c =
    let inside : c.loop-at.at < length c.args.tokens.now.items.items = (let h = c.loop-at-test.true in let k = c.len.ensures in omega (arith, h, k)) in
    record {
      bytes = c.in_ok-unit.ensures.bytes;
      inside = c.next_begun-end.ensures.within;
      begins = c.next_begun-end.ensures.begins;
      sought = λ v s.
          sought_more c.args.tokens.now c.loop-at.at c.next_begun-end.result (ahead c.in_ok-unit.unit 0) v (cut (ahead c.args.tokens.now 0)).units c.loop-at.sight c.find.new.sight c.loop-at.pool c.find.new.pool c.loop-at.found c.find.new.found
          inside (c.loop-at.invariant.begins inside) c.next_begun-end.ensures.value c.in_ok-unit.ensures.tokens c.in_ok-find.ensures.value c.in_ok-find.ensures.sees (c.loop-at.invariant.sought v s);
      held = c.in_ok-find.ensures.held;
      kept = Keeps-then c.args.pool.now c.loop-at.pool c.find.new.pool c.loop-at.invariant.kept c.find.ensures.kept;
    }

pub returns-clause-value : goal.returns-clause-value
returns-clause-value c v s =
    let over : length c.args.tokens.now.items.items ≤ c.loop-at.at = (let h = c.loop-at-test.false in let k = c.len.ensures in omega (arith, h, k)) in
    sought_end c.args.tokens.now c.loop-at.at v (cut (ahead c.args.tokens.now 0)).units c.loop-at.sight c.loop-at.pool c.loop-at.found over (c.loop-at.invariant.sought v s)

pub find-requires-clause-some : goal.find-requires-clause-some
find-requires-clause-some c =
    let h = c.loop-at-test.true in
    let k = c.len.ensures in
    some_tokens c.args.tokens.now c.in_ok-unit.unit c.loop-at.at c.next_begun-end.result (omega (arith, h, k)) c.next_begun-end.ensures.further c.in_ok-unit.ensures.tokens

pub find-requires-clause-held : goal.find-requires-clause-held
find-requires-clause-held c = c.loop-at.invariant.held

pub returns-clause-held : goal.returns-clause-held
returns-clause-held c = c.loop-at.invariant.held

pub returns-clause-kept : goal.returns-clause-kept
returns-clause-kept c = c.loop-at.invariant.kept

pub returns-in_err-bytes-clause-value : goal.returns-in_err-bytes-clause-value
returns-in_err-bytes-clause-value c = IfOk-from_err c.from_residual.result _ c.from_residual.ensures.0

pub returns-in_err-bytes-clause-held : goal.returns-in_err-bytes-clause-held
returns-in_err-bytes-clause-held c = IfOk-from_err c.from_residual.result _ c.from_residual.ensures.0

pub returns-in_err-bytes-clause-kept : goal.returns-in_err-bytes-clause-kept
returns-in_err-bytes-clause-kept c = record { longer = omega arith; same = λ i h. refl }

pub returns-in_err-unit-clause-value : goal.returns-in_err-unit-clause-value
returns-in_err-unit-clause-value c = IfOk-from_err c.from_residual-in_err-unit.result _ c.from_residual-in_err-unit.ensures.0

pub returns-in_err-unit-clause-held : goal.returns-in_err-unit-clause-held
returns-in_err-unit-clause-held c = IfOk-from_err c.from_residual-in_err-unit.result _ c.from_residual-in_err-unit.ensures.0

pub returns-in_err-unit-clause-kept : goal.returns-in_err-unit-clause-kept
returns-in_err-unit-clause-kept c = c.loop-at.invariant.kept

pub returns-in_err-find-clause-value : goal.returns-in_err-find-clause-value
returns-in_err-find-clause-value c = IfOk-from_err c.from_residual-in_err-find.result _ c.from_residual-in_err-find.ensures.0

pub returns-in_err-find-clause-held : goal.returns-in_err-find-clause-held
returns-in_err-find-clause-held c = IfOk-from_err c.from_residual-in_err-find.result _ c.from_residual-in_err-find.ensures.0

pub returns-in_err-find-clause-kept : goal.returns-in_err-find-clause-kept
returns-in_err-find-clause-kept c = Keeps-then c.args.pool.now c.loop-at.pool c.find.new.pool c.loop-at.invariant.kept c.find.ensures.kept

pub unit_tokens-requires-clause-order : goal.unit_tokens-requires-clause-order
unit_tokens-requires-clause-order c = (let h = c.next_begun-end.ensures.further in omega (arith, h))

pub unit_tokens-requires-clause-within : goal.unit_tokens-requires-clause-within
unit_tokens-requires-clause-within c = c.next_begun-end.ensures.within

pub unit_tokens-requires-clause-bytes : goal.unit_tokens-requires-clause-bytes
unit_tokens-requires-clause-bytes c = c.loop-at.invariant.bytes

pub next_begun-end-requires : goal.next_begun-end-requires
next_begun-end-requires c = (let h = c.loop-at-test.true in let k = c.len.ensures in omega (arith, h, k))

pub loop-at-smaller : goal.loop-at-smaller
loop-at-smaller c = (let h = c.loop-at-test.true in let k = c.len.ensures in let l = c.next_begun-end.ensures.further in omega (arith, h, k, l))
