-- By what the cycle `changed` ends.
use Rattle.std.proofs.Common.{◌*◌, ◌+◌, length}
use Rattle.except_forms.proofs.changes.+changed.Given as goal

abbrev pub decreases-changed_at : goal.decreases-changed_at
decreases-changed_at l = 2 * length l.path.now + 1

abbrev pub decreases-changed_in : goal.decreases-changed_in
decreases-changed_in l = 2 * length l.path.now
