-- Proves that it is kept by the name.
use Rattle.std.proofs.Common.{◌≡◌, subst}
use Rattle.indexmap.specs.IndexMap.{insert_entry}
use Rattle.tla_tree.specs.Tree.{Word}
use Rattle.algorithm_limits.proofs.Tables.{equal}
use Rattle.declared_rules.proofs.kept.Keeps.add.Goals as goal

pub returns-in_ok-before-in-Ok : goal.returns-in_ok-before-in-Ok
returns-in_ok-before-in-Ok c = subst (λ (w : Word). c.insert.new.self.entries ≡ insert_entry equal c.args.self.now.kept.entries w c.args.kept) c.in-Ok.ensures c.in_ok-before-in-Ok.ensures.entries
