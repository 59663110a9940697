-- Proves what is asked of `all_within`.
use Rattle.std.proofs.Common.{sym, ◌∙◌, arith}
use Rattle.value_forms.proofs.MergeLaws.{all_less, all_more, all_right, steps}
use Rattle.value_forms.proofs.sets.all_within.Goals as goal

pub returns-then-j-b : goal.returns-then-j-b
returns-then-j-b c =
    sym (all_right c.args.a.now c.args.b.now c.loop-i.i c.loop-i.j _ (omega arith) (omega arith) c.loop-i.invariant.rest)

pub returns-then-is_lt : goal.returns-then-is_lt
returns-then-is_lt c =
    sym (all_less c.args.a.now c.args.b.now c.loop-i.i c.loop-i.j c.index-a-i.result c.index-b-j.result (omega arith) c.index-a-i.is (omega arith) c.index-b-j.is c.requires.left c.requires.right _ c.compare-order.result c.compare-order.ensures (sym c.if-is_lt.true ∙ c.is_lt.ensures) c.loop-i.invariant.rest)

pub loop-i-preserved : goal.loop-i-preserved
loop-i-preserved c =
    let s = steps c.compare-order.result in
    record {
      left = omega (arith, s.0, c.left_step-i.ensures);
      right = omega arith;
      rest = all_more c.args.a.now c.args.b.now c.loop-i.i c.loop-i.j c.index-a-i.result c.index-b-j.result (omega arith) c.index-a-i.is (omega arith) c.index-b-j.is c.requires.left c.requires.right _ c.compare-order.result c.left_step-i.result c.compare-order.ensures (sym c.if-is_lt.false ∙ c.is_lt.ensures) c.left_step-i.ensures c.loop-i.invariant.rest;
    }
