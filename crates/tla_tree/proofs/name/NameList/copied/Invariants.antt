-- What the loop of `copied` keeps.
use Rattle.std.proofs.Common.{◌≡◌, take}
use Rattle.tla_tree.proofs.name.NameList.copied.Given as goal

abbrev pub invariant-loop-name : goal.invariant-loop-name
invariant-loop-name l = l.names.items ≡ take l.name-index l.name-items
