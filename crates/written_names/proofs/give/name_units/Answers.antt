-- Proves that the names are those that are defined.
use Rattle.std.proofs.lemmas.Result.{IfOk-weaker}
use Rattle.written_names.proofs.give.name_units.Goals as goal

pub returns : goal.returns
returns c = IfOk-weaker c.named_by.result _ _ (λ r h ts taken s. h ts c.args.extended.now taken (c.new-giver.ensures taken s)) c.named_by.ensures
