-- Proves what is asked of `next_at`.
use Rattle.std.proofs.Common.{sym, ◌∙◌, arith}
use Rattle.run_files.proofs.Scanned.{next_passed, choices_passed, next_here, next_last, at_end}
use Rattle.run_files.proofs.scan.next_at.Goals as goal

pub returns-then-not-is_passed : goal.returns-then-not-is_passed
returns-then-not-is_passed c =
    let i = c.loop-from.invariant in
    next_here c.args.text.now c.args.at c.loop-from.from c.in-Some.part c.in-Some.ensures.part (sym c.is_passed.ensures ∙ c.if-not-is_passed.true) i.0 i.1 i.2 i.3

pub loop-from-preserved : goal.loop-from-preserved
loop-from-preserved c =
    let i = c.loop-from.invariant in
    let h = sym c.is_passed.ensures ∙ c.if-not-is_passed.false in (
      sym (next_passed c.args.text.now c.loop-from.from c.in-Some.part c.in-Some.ensures.part h) ∙ i.0,
      i.1 ∙ choices_passed c.args.text.now c.loop-from.from c.in-Some.part c.in-Some.ensures.part h,
      omega (arith, i.2),
      c.in-Some.ensures.inside,
    )

pub returns-in-None : goal.returns-in-None
returns-in-None c =
    let i = c.loop-from.invariant in
    next_last c.args.text.now c.args.at c.loop-from.from c.in-None.ensures.part i.0 i.1 i.2 i.3

pub returns : goal.returns
returns c =
    let i = c.loop-from.invariant in
    next_last c.args.text.now c.args.at c.loop-from.from (at_end c.args.text.now c.loop-from.from (omega (arith, c.loop-from-test.false))) i.0 i.1 i.2 i.3
