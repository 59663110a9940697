-- What the loop of `copied` keeps.
use Rattle.std.proofs.Common.{◌≡◌, take}
use Rattle.tla_value.proofs.value.+copied.Given as goal

abbrev pub invariant-all_copied-loop-v : goal.invariant-all_copied-loop-v
invariant-all_copied-loop-v l = l.items.items ≡ take l.v-index l.v-items
