-- Proves that the table tells it where it is among the first ones.
use Rattle.std.proofs.Common.{◌∙◌, length, sym, arith}
use Rattle.action_truth.proofs.TitleLaws.{titled_among}
use Rattle.action_truth.proofs.asked.found.Goals as goal

pub returns-then-last-before-clause-last : goal.returns-then-last-before-clause-last
returns-then-last-before-clause-last c =
    let acts = c.args.asked.now.region.now.actions.items in
    let x = c.args.title.now in
    let last = c.get-last.ensures ∙ c.requires.ready.titles x in
    last ∙ sym (titled_among acts x c.args.before (length acts) c.requires.before (omega (arith, last, c.if-last-before.true)))
