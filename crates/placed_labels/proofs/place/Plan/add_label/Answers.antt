-- Proves that the label of a statement is put before it.
use Rattle.placed_labels.proofs.PlaceLaws.{no_label, one_label, missing_label, not_some}
use Rattle.placed_labels.proofs.place.Plan.add_label.Goals as goal

pub returns-in_ok-push : goal.returns-in_ok-push
returns-in_ok-push c =
    one_label c.args.self.now c.label.new.self c.args.stmt.now c.args.out.now.items c.push.new.self.items c.place_of.result c.in-Some.place c.in_ok-label.field-0 c.in-Some-2.label
    c.place_of.ensures c.in-Some.is c.in_ok-label.ensures.label c.in_ok-label.ensures.left c.in-Some-2.is c.in_ok-label.ensures.numbers c.in_ok-push.ensures.items

pub returns-in_default-2 : goal.returns-in_default-2
returns-in_default-2 c =
    missing_label c.args.self.now c.label.new.self c.args.stmt.now c.args.out.now.items c.place_of.result c.in-Some.place c.in_ok-label.field-0
    c.place_of.ensures c.in-Some.is c.in_ok-label.ensures.label c.in_ok-label.ensures.left (not_some _ c.in_default-2.not-Some)

pub returns-in_default : goal.returns-in_default
returns-in_default c = no_label c.args.self.now c.args.stmt.now c.args.out.now.items c.place_of.result c.place_of.ensures (not_some _ c.in_default.not-Some)
