-- What the loop of `strings` keeps.
use Rattle.std.proofs.Common.{◌≡◌, map, take}
use Rattle.tla_value.specs.Value.{text}
use Rattle.function_forms.proofs.records.strings.Given as goal

abbrev pub invariant-loop-name : goal.invariant-loop-name
invariant-loop-name l = l.all.items ≡ map text (take l.name-index l.names)
