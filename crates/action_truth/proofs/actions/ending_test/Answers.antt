-- Proves what the name is.
use Rattle.std.proofs.Common.{◌∙◌, sym, arith}
use Rattle.action_truth.proofs.EndingLaws.{other_name, its_name}
use Rattle.action_truth.proofs.actions.ending_test.Goals as goal

pub returns-then-is_ending : goal.returns-then-is_ending
returns-then-is_ending c =
    its_name c.args.pair.now c.args.title.now c.args.before (omega (arith, c.len.ensures, c.if-before-len.false)) c.requires.before (sym c.is_ending.ensures ∙ c.if-is_ending.true) c.requires.ready.region.ended

pub returns : goal.returns
returns c =
    other_name c.args.pair.now c.args.title.now c.args.before (omega (arith, c.len.ensures, c.if-before-len.false)) c.requires.before (sym c.is_ending.ensures ∙ c.if-is_ending.false)
