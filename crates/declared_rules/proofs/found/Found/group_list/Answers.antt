-- Proves that a list of names is looked at.
use Rattle.declared_rules.proofs.JoinLaws.{on_ok}
use Rattle.declared_rules.proofs.NameLaws.{list_adds, only_adds}
use Rattle.declared_rules.proofs.found.Found.group_list.Goals as goal

pub returns-in-Some : goal.returns-in-Some
returns-in-Some c = only_adds c.args.self.now c.declares.new.self _ c.in-Some.name.now c.in-Some.ensures c.declares.ensures.adds

pub returns : goal.returns
returns c = on_ok c.groups.result (list_adds c.args.self.now c.groups.new.self c.truncate.new.self _ c.truncate.ensures) c.groups.ensures
