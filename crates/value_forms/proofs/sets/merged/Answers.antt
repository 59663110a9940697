-- Proves what is asked of `merged`.
use Rattle.std.proofs.Common.{◌≡◌, ◌∙◌, subst, if◌then◌else◌, arith, IfOk}
use Rattle.tla_value.specs.Value.{values_in, no_values}
use Rattle.value_forms.specs.Parts.{follow}
use Rattle.value_forms.proofs.Rows.{rest_is}
use Rattle.value_forms.proofs.MergeLaws.{merge_by, merge_left, merge_right, steps}
use Rattle.value_forms.proofs.sets.merged.Goals as goal

pub returns-then-i-a : goal.returns-then-i-a
returns-then-i-a c =
    let done = values_in c.loop-i.all.items in
    let xs = c.args.a.now in
    let ys = c.args.b.now in
    let e = (λ n. follow done (if c.takes.ensures n then values_in (rest_is ys c.loop-i.j n) else no_values)) ∙ merge_left c.args.m xs ys c.loop-i.i c.loop-i.j done _ (omega arith) c.requires.right c.loop-i.invariant.rest in
    subst (λ y. IfOk c.with_rest.result (λ r. values_in r.items ≡ y)) e c.with_rest.ensures

pub returns-then-j-b : goal.returns-then-j-b
returns-then-j-b c =
    let done = values_in c.loop-i.all.items in
    let xs = c.args.a.now in
    let ys = c.args.b.now in
    let e = (λ n. follow done (if c.takes-then-j-b.ensures n then values_in (rest_is xs c.loop-i.i n) else no_values)) ∙ merge_right c.args.m xs ys c.loop-i.i c.loop-i.j done _ (omega arith) c.requires.left c.loop-i.invariant.rest in
    subst (λ y. IfOk c.with_rest-then-j-b.result (λ r. values_in r.items ≡ y)) e c.with_rest-then-j-b.ensures

pub loop-i-preserved : goal.loop-i-preserved
loop-i-preserved c =
    let r = c.compare-order.result in
    let s = steps r in
    record {
      left = omega (arith, s.0, c.left_step-i.ensures);
      right = omega (arith, s.1, c.right_step-j.ensures);
      rest = merge_by c.args.m c.args.a.now c.args.b.now c.loop-i.i c.loop-i.j c.left_step-i.result c.right_step-j.result c.index-a-i.result c.index-b-j.result c.foremost.result.now r c.takes-in-loop-i.result c.loop-i.all.items c.add_if.new.all.items _ (omega arith) c.index-a-i.is (omega arith) c.index-b-j.is c.requires.left c.requires.right c.compare-order.ensures c.left_step-i.ensures c.right_step-j.ensures c.takes-in-loop-i.ensures c.foremost.ensures c.in_ok-add_if.ensures c.loop-i.invariant.rest;
    }
