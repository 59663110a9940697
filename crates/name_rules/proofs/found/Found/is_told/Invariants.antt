-- What is kept: none of those that were passed is the same use, no later.
use Rattle.std.proofs.Common.{ℕ, ◌<◌, slice_index_or}
use Rattle.declared_rules.specs.declared.using.NameUse.{NameUse}
use Rattle.declared_rules.specs.UsesTold.{IsEarlier}
use Rattle.name_rules.proofs.found.Found.is_told.Given as goal

abbrev pub invariant-loop-i : goal.invariant-loop-i
invariant-loop-i l = (k : ℕ) (d : NameUse) → k < l.i → IsEarlier (slice_index_or l.uses k d) l.kind l.name l.place → ⊥
