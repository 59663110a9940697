-- Why the loop of `function_of` ends, and what it keeps: the arguments and the values.
use Rattle.std.proofs.Common.{◌≡◌, ◌++◌, length, reverse}
use Rattle.value_text.specs.EntryOrder.{entry_keys, entry_values}
use Rattle.value_text.proofs.make.function_of.Given as goal

abbrev pub invariant-loop-entry : goal.invariant-loop-entry
invariant-loop-entry l =
    (entry_keys l.entries.items ++ reverse l.domain.items ≡ entry_keys l.initial.entries.items) × (entry_values l.entries.items ++ reverse l.values.items ≡ entry_values l.initial.entries.items)

abbrev pub decreases-loop-entry : goal.decreases-loop-entry
decreases-loop-entry l = length l.entries.items
