-- Why the calls that read a value end, and what the loop over items keeps.
use Rattle.std.proofs.Common.{◌≤◌, ◌+◌, ◌*◌, ◌-◌, length}
use Rattle.value_text.specs.InSight.{ahead, Moves}
use Rattle.value_text.specs.Items.{Begun}
use Rattle.value_text.proofs.read.+read.Given as goal

abbrev pub decreases-brackets : goal.decreases-brackets
decreases-brackets l = 8 * l.deep

abbrev pub decreases-signed : goal.decreases-signed
decreases-signed l = 8 * l.deep + 1

abbrev pub decreases-behind : goal.decreases-behind
decreases-behind l = 8 * l.deep + 2

abbrev pub decreases-value : goal.decreases-value
decreases-value l = 8 * l.deep + 3

abbrev pub decreases-argument : goal.decreases-argument
decreases-argument l = 8 * l.deep + 4

abbrev pub decreases-key : goal.decreases-key
decreases-key l = 8 * l.deep + 5

abbrev pub decreases-item : goal.decreases-item
decreases-item l = 8 * l.deep + 6

abbrev pub decreases-items : goal.decreases-items
decreases-items l = 8 * l.deep + 7

abbrev pub decreases-items-loop-halt : goal.decreases-items-loop-halt
decreases-items-loop-halt l = length l.text - l.at

abbrev pub invariant-items-loop-halt : goal.invariant-items-loop-halt
invariant-items-loop-halt l =
    Begun l.form l.deep (ahead l.text l.fn.at) (ahead l.text l.at) l.fn.keys.items l.keys.items l.fn.values.items l.values.items × (l.fn.at ≤ l.at) × (l.at ≤ length l.text) × Moves l.text l.fn.at l.at
