-- Why the calls that write a value end, and what their loops keep: what is written, and the text of what is left.
use Rattle.std.proofs.Common.{◌≡◌, ◌++◌, ◌+◌, ◌*◌, max, drop}
use Rattle.tla_value.specs.Value.{values_in}
use Rattle.tla_value.specs.Code.{height, heights}
use Rattle.tla_value.specs.ValueText.{items_text, all_shown}
use Rattle.value_text.specs.Entries.{entries_text, items_left, entries_left}
use Rattle.value_text.proofs.write.+write.Given as goal

abbrev pub decreases-write_one : goal.decreases-write_one
decreases-write_one l = 4 * height l.v.now

abbrev pub decreases-write_key : goal.decreases-write_key
decreases-write_key l = 4 * height l.key.now + 1

abbrev pub decreases-write_items : goal.decreases-write_items
decreases-write_items l = 4 * heights (values_in l.values.now) + 2

abbrev pub decreases-write_entries : goal.decreases-write_entries
decreases-write_entries l = 4 * max (heights (values_in l.domain.now)) (heights (values_in l.values.now)) + 2

abbrev pub decreases-write_function : goal.decreases-write_function
decreases-write_function l = 4 * max (heights (values_in l.domain.now)) (heights (values_in l.values.now)) + 3

abbrev pub invariant-write_items-loop-i : goal.invariant-write_items-loop-i
invariant-write_items-loop-i l =
    l.into ++ items_left l.i (all_shown (values_in (drop l.i l.values))) ≡ l.fn.into ++ items_text (all_shown (values_in l.values))

abbrev pub invariant-write_entries-loop-i : goal.invariant-write_entries-loop-i
invariant-write_entries-loop-i l =
    l.into ++ entries_left l.i l.named (drop l.i l.domain) (drop l.i l.values) ≡ l.fn.into ++ entries_text l.named l.domain l.values
