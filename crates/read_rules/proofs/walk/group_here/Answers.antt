-- Proves what uses on a path are seen as.
use Rattle.std.proofs.Common.{[], ◌++◌, ◌∙◌}
use Rattle.std.specs.List.{flat_map}
use Rattle.tla_tree.specs.Tree.{no_trees}
use Rattle.pcal_tree.specs.laws.MacroSpots.{put_use}
use Rattle.pcal_tree.proofs.SpotGrafts.{putting}
use Rattle.read_rules.specs.UsesIn.{uses_of}
use Rattle.read_rules.proofs.WalkLaws.{here_like}
use Rattle.read_rules.proofs.walk.group_here.Goals as goal

pub returns : goal.returns
returns c =
    here_like c.args.after.now (record { uses = c.put_uses.new.list; after = c.in_ok-copied.field-0 }) (uses_of c.args.uses.now) c.in_ok-copied.ensures
    (c.in_ok-put_uses.ensures ∙ (λ i. uses_of (c.new-list.ensures.items i) ++ flat_map (put_use (putting [] no_trees [])) (uses_of c.args.uses.now)))
