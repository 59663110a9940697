-- Why the loop of `entries_of` ends, and what it keeps: what is left, and the entries.
use Rattle.std.proofs.Common.{◌≡◌, ◌++◌, length, reverse}
use Rattle.value_text.specs.EntryOrder.{entry_pairs}
use Rattle.value_text.specs.Items.{paired}
use Rattle.value_text.proofs.make.entries_of.Given as goal

abbrev pub invariant-loop-key : goal.invariant-loop-key
invariant-loop-key l =
    (length l.keys.items ≡ length l.values.items) × (paired l.keys.items l.values.items ++ entry_pairs (reverse l.entries.items) ≡ paired l.fn.keys.items l.fn.values.items)

abbrev pub decreases-loop-key : goal.decreases-loop-key
decreases-loop-key l = length l.keys.items
