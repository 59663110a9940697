-- What the loop of `write_actions` keeps.
use Rattle.std.proofs.Common.{◌≡◌, ◌++◌, take, map}
use Rattle.module_tree.specs.Module.{action_unit}
use Rattle.module_write.specs.InMemory.{actions_at}
use Rattle.module_lines.specs.Apart.{behind}
use Rattle.module_write.proofs.write_units.write_actions.Given as goal

abbrev pub invariant-loop-action : goal.invariant-loop-action
invariant-loop-action l = l.into ≡ l.fn.into ++ behind 0 (map action_unit (actions_at l.pool (take l.action-index l.actions)))
