-- Proves what is asked of `next_token`.
use Rattle.std.proofs.Common.{sym, ◌∙◌, refl, arith, drop}
use Rattle.tla_token.proofs.Scans.{part_within, part_some}
use Rattle.std.proofs.lemmas.List.{length-drop}
use Rattle.value_text.proofs.Tokens.{part_passed, there, unthere, passed, stopped, at_end, past_end, comes}
use Rattle.value_text.proofs.token.next_token.Goals as goal

pub returns-then-is_token : goal.returns-then-is_token
returns-then-is_token c =
    comes c.args.text.now c.args.at c.loop-from.from c.in-Some.part _ (there c.args.text.now c.loop-from.from c.in-Some.part c.in-Some.ensures.part) (sym c.is_token.ensures ∙ c.if-is_token.true) c.loop-from.invariant.0 c.loop-from.invariant.1 c.loop-from.invariant.2 c.loop-from.invariant.3 refl

pub returns-then-not-is_passed : goal.returns-then-not-is_passed
returns-then-not-is_passed c =
    stopped c.args.text.now c.args.at c.loop-from.from c.in-Some.part (there c.args.text.now c.loop-from.from c.in-Some.part c.in-Some.ensures.part) (sym c.is_passed.ensures ∙ c.if-not-is_passed.true) (sym c.is_token.ensures ∙ c.if-is_token.false) c.loop-from.invariant.0

pub loop-from-preserved : goal.loop-from-preserved
loop-from-preserved c = (
  passed c.args.text.now c.args.at c.loop-from.from _ c.in-Some.part (there c.args.text.now c.loop-from.from c.in-Some.part c.in-Some.ensures.part) (sym c.is_passed.ensures ∙ c.if-not-is_passed.false) c.loop-from.invariant.0 refl,
  omega (arith, c.loop-from.invariant.1),
  omega (arith, part_within (drop c.loop-from.from c.args.text.now) c.in-Some.part (there c.args.text.now c.loop-from.from c.in-Some.part c.in-Some.ensures.part), length-drop c.loop-from.from c.args.text.now, c.loop-from.invariant.2),
  part_passed c.args.text.now c.args.at c.loop-from.from _ c.in-Some.part (there c.args.text.now c.loop-from.from c.in-Some.part c.in-Some.ensures.part) (sym c.is_passed.ensures ∙ c.if-not-is_passed.false) c.loop-from.invariant.3 refl,
)

pub returns : goal.returns
returns c = past_end c.args.text.now c.args.at c.loop-from.from (omega arith) c.loop-from.invariant.0

pub returns-in-None : goal.returns-in-None
returns-in-None c = at_end c.args.text.now c.args.at c.loop-from.from (unthere c.args.text.now c.loop-from.from c.in-None.ensures.part) c.loop-from.invariant.0

pub overflow_add-to : goal.overflow_add-to
overflow_add-to c =
    omega (arith, part_within (drop c.loop-from.from c.args.text.now) c.in-Some.part (there c.args.text.now c.loop-from.from c.in-Some.part c.in-Some.ensures.part), length-drop c.loop-from.from c.args.text.now, c.requires.small)

pub loop-from-smaller : goal.loop-from-smaller
loop-from-smaller c =
    omega (arith, part_some (drop c.loop-from.from c.args.text.now) c.in-Some.part (there c.args.text.now c.loop-from.from c.in-Some.part c.in-Some.ensures.part), c.loop-from-test.true)
