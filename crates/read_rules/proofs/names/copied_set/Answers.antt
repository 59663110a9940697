-- Proves that the names of a set are copied.
use Rattle.std.proofs.Common.{List, [], subst}
use Rattle.tla_tree.specs.Tree.{Word}
use Rattle.read_rules.specs.Joins.{Joins}
use Rattle.read_rules.proofs.names.copied_set.Goals as goal

pub returns-in-Ok : goal.returns-in-Ok
returns-in-Ok c =
    let all = c.add_copies.new.set.keys in
    subst (λ (ws : List Word). Joins [] all ws) c.as_slice.ensures.keys (subst (λ (ws : List Word). Joins ws all c.as_slice.result.now) c.new-set.ensures.empty c.in-Ok.ensures)
