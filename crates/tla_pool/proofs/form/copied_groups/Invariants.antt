-- What the loop of `copied_groups` keeps.
use Rattle.std.proofs.Common.{◌≡◌, take}
use Rattle.tla_pool.specs.FormOf.{groups_of}
use Rattle.tla_pool.proofs.form.copied_groups.Given as goal

abbrev pub invariant-loop-group : goal.invariant-loop-group
invariant-loop-group l = groups_of l.copies.items ≡ groups_of (take l.group-index l.groups)
