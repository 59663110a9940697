-- Proves what is asked of `choice_at`.
use Rattle.std.proofs.Common.{arith}
use Rattle.run_files.proofs.LineLaws.{choice_read, choice_large, choice_other, something_there}
use Rattle.run_files.proofs.lines.choice_at.Goals as goal

pub returns-in-Some-choice : goal.returns-in-Some-choice
returns-in-Some-choice c = (
  omega (arith, c.in-Some.ensures.some),
  c.in-Some.ensures.inside,
  choice_read c.args.text.now c.args.at c.in-Some-choice.n c.in-Some.part c.in-Some.ensures.part c.in-Number.is c.in-Some-choice.ensures,
)

pub returns-in-None-choice : goal.returns-in-None-choice
returns-in-None-choice c = choice_large c.args.text.now c.args.at c.in-Some.part c.in-Some.ensures.part c.in-Number.is c.in-None-choice.ensures

pub returns-in_default : goal.returns-in_default
returns-in_default c = choice_other c.args.text.now c.args.at c.in-Some.part c.in-Some.ensures.part c.requires.stops c.in_default.not-Number

pub returns-in-None : goal.returns-in-None
returns-in-None c = absurd (something_there c.args.text.now c.args.at c.requires.within c.in-None.ensures.part)
