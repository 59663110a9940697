-- What is kept: none of those that were passed is this name, bound no later.
use Rattle.std.proofs.Common.{ℕ, ◌<◌, slice_index_or}
use Rattle.declared_rules.specs.declared.binding.Binding.{Binding}
use Rattle.declared_rules.specs.Telling.{IsEarlier}
use Rattle.declared_rules.proofs.bind_walk.Walk.is_told.Given as goal

abbrev pub invariant-loop-i : goal.invariant-loop-i
invariant-loop-i l = (k : ℕ) (d : Binding) → k < l.i → IsEarlier (slice_index_or l.list k d) l.name → ⊥
