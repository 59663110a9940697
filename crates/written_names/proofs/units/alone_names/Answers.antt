-- Proves that the labels of the one body get their names.
use Rattle.std.proofs.Common.{◌∙◌}
use Rattle.std.proofs.lemmas.Result.{IfOk-weaker}
use Rattle.pcal_tree.specs.InMemory.{statements_at}
use Rattle.written_names.proofs.UnitWalks.{unit_untitled, labels_are}
use Rattle.written_names.proofs.units.alone_names.Goals as goal

pub returns : goal.returns
returns c =
    IfOk-weaker c.names_within.result _ _ (λ u h ts.
    unit_untitled c.args.giver.now c.names_within.new.giver u _ _ (labels_are (statements_at ts c.args.body.now)) (h.0 ∙ c.new-2.ensures ∙ c.new.ensures.items) (h.1 ts))
    c.names_within.ensures
