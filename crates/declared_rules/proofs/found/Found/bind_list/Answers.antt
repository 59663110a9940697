-- Proves that a list of names is looked at.
use Rattle.declared_rules.proofs.JoinLaws.{on_ok}
use Rattle.declared_rules.proofs.NameLaws.{list_adds}
use Rattle.declared_rules.proofs.found.Found.bind_list.Goals as goal

pub returns : goal.returns
returns c = on_ok c.bind_names.result (list_adds c.args.self.now c.bind_names.new.self c.truncate.new.self _ c.truncate.ensures) c.bind_names.ensures
