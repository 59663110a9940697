-- Proves that the label before the first statement is found.
use Rattle.std.proofs.Common.{◌<◌, length, ◌∙◌, rules, []}
use Rattle.std.proofs.lemmas.Result.{IfOk-weaker}
use Rattle.draft.proofs.LabelLaws.{first_word}
use Rattle.draft.proofs.draft.label_of.Goals as goal

pub returns-in-Some : goal.returns-in-Some
returns-in-Some c =
    let some : 0 < length c.args.body.now = search rules in
    IfOk-weaker c.copied.result _ _ (λ r h ts. h ∙ first_word ts c.args.body.now c.index-body-0.result c.index-body-0.is some c.args.exit.now c.in-Some.label.now c.in-Some.ensures) c.copied.ensures

pub returns-in-None : goal.returns-in-None
returns-in-None c = λ ts.
    let some : 0 < length c.args.body.now = search rules in
    c.new-in-None-2.ensures ∙ c.new-in-None.ensures.items ∙ first_word ts c.args.body.now c.index-body-0.result c.index-body-0.is some c.args.exit.now [] c.in-None.ensures
