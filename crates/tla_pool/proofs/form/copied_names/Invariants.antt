-- What the loop of `copied_names` keeps.
use Rattle.std.proofs.Common.{◌≡◌, take}
use Rattle.tla_pool.proofs.form.copied_names.Given as goal

abbrev pub invariant-loop-name : goal.invariant-loop-name
invariant-loop-name l = l.copies.items ≡ take l.name-index l.names
