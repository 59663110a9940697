-- Proves that the names of parameters and variables are looked at.
use Rattle.declared_rules.proofs.JoinLaws.{on_ok}
use Rattle.declared_rules.proofs.NameLaws.{names_then, list_adds, with_seen}
use Rattle.declared_rules.proofs.found.Found.declared_list.Goals as goal

pub returns : goal.returns
returns c =
    on_ok c.declared-2.result
    (λ h. list_adds c.args.self.now c.declared-2.new.self c.truncate.new.self _ c.truncate.ensures
    (names_then (with_seen c.args.self.now c.truncate.new.self) c.declared.new.self c.declared-2.new.self _ _ c.in_ok-declared.ensures h))
    c.declared-2.ensures
