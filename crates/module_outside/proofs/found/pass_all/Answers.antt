-- Units behind the translation are passed on one after the other.
use Rattle.std.proofs.Common.{◌<◌, ◌≤◌, ◌++◌, List, length, map, ap, ◌∙◌, arith}
use Rattle.tla_value.specs.Outside.{Opaque}
use Rattle.module_tree.specs.FileUnits.{cut}
use Rattle.expr_nodes.specs.Ahead.{ahead}
use Rattle.module_outside.specs.Passing.{passed_seen}
use Rattle.module_outside.proofs.UnitSteps.{gathered_more, gathered_first, gathered_all}
use Rattle.module_outside.proofs.FoundSteps.{passed_of, all_passed, no_sight, some_tokens}
use Rattle.module_outside.proofs.found.pass_all.Goals as goal

pub loop-at-init : goal.loop-at-init
loop-at-init c = record {
  bytes = c.in_ok-bytes.ensures.items ∙ c.deref.ensures.value;
  inside = c.next_begun-at.ensures.within;
  begins = c.next_begun-at.ensures.begins;
  passed = gathered_first passed_of c.args.tokens.now c.next_begun-at.result (map passed_seen c.args.opaque.now.items) c.next_begun-at.ensures.value;
}

pub loop-at-preserved : goal.loop-at-preserved
loop-at-preserved c =
    let inside : c.loop-at.at < length c.args.tokens.now.items.items = (let h = c.loop-at-test.true in let k = c.len.ensures in omega (arith, h, k)) in
    record {
      bytes = c.in_ok-unit.ensures.bytes;
      inside = c.next_begun-end.ensures.within;
      begins = c.next_begun-end.ensures.begins;
      passed = gathered_more passed_of c.args.tokens.now c.loop-at.at c.next_begun-end.result (ahead c.in_ok-unit.unit 0) _ (map passed_seen c.loop-at.opaque.items) (map passed_seen c.pass.new.opaque.items)
          inside (c.loop-at.invariant.begins inside) c.next_begun-end.ensures.value c.in_ok-unit.ensures.tokens (c.in_ok-pass.ensures no_sight) c.loop-at.invariant.passed;
    }

pub returns : goal.returns
returns c v =
    let over : length c.args.tokens.now.items.items ≤ c.loop-at.at = (let h = c.loop-at-test.false in let k = c.len.ensures in omega (arith, h, k)) in
    gathered_all passed_of c.args.tokens.now c.loop-at.at (map passed_seen c.loop-at.opaque.items) _ over c.loop-at.invariant.passed
    ∙ ap (λ (os : List Opaque). map passed_seen c.args.opaque.now.items ++ os) (all_passed v (cut (ahead c.args.tokens.now 0)).units)

pub pass-requires : goal.pass-requires
pass-requires c =
    let inside : c.loop-at.at < length c.args.tokens.now.items.items = (let h = c.loop-at-test.true in let k = c.len.ensures in omega (arith, h, k)) in
    record { some = some_tokens c.args.tokens.now c.in_ok-unit.unit c.loop-at.at c.next_begun-end.result inside c.next_begun-end.ensures.further c.in_ok-unit.ensures.tokens }
