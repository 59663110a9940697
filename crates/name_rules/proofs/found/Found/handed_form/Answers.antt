-- Proves that an argument that begins with no name is no variable.
use Rattle.std.proofs.Common.{Option, ap}
use Rattle.tla_tree.specs.Tree.{Word}
use Rattle.name_rules.specs.Calling.{handed_from}
use Rattle.name_rules.proofs.TellLaws.{tells_as}
use Rattle.name_rules.proofs.CallLaws.{no_root}
use Rattle.name_rules.proofs.found.Found.handed_form.Goals as goal

pub returns-in_default : goal.returns-in_default
returns-in_default c =
    tells_as c.args.self.now c.not_variable.new.self _ _ (λ r. ap (λ (o : Option Word). handed_from o c.args.place r) (no_root c.args.form.now c.in_default.not-Name)) c.not_variable.ensures
