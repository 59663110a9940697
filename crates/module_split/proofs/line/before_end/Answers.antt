use Rattle.std.proofs.Common.{◌≤◌, ◌∙◌, length, drop, sym, arith, length-drop}
use Rattle.std.proofs.lemmas.List.{take_rest}
use Rattle.module_split.proofs.EndLine.{first_line, next_line}
use Rattle.module_split.proofs.line.before_end.Goals as goal

pub loop-at-init : goal.loop-at-init
loop-at-init c = record { within = c.whole_len-at.ensures.bound; so_far = first_line c.args.text.now c.whole_len-at.result c.whole_len-at.ensures.value }

pub loop-at-preserved : goal.loop-at-preserved
loop-at-preserved c =
    let n = c.whole_len-at-in-loop-at.result in
    let bound : n ≤ length (drop c.loop-at.at c.args.text.now) = rw take_rest at c.whole_len-at-in-loop-at.ensures.bound in
    record {
      within = omega (arith, bound, length-drop c.loop-at.at c.args.text.now, c.loop-at.invariant.within);
      so_far = next_line c.loop-at.at n c.args.text.now (rw take_rest at (sym c.is_end.ensures ∙ c.if-is_end.false)) (rw take_rest at c.whole_len-at-in-loop-at.ensures.value) ∙ c.loop-at.invariant.so_far;
    }
