-- What the loop keeps: what was read, with what is left, is the whole.
use Rattle.std.proofs.Common.{◌≡◌, drop}
use Rattle.tla_value.specs.Value.{text, in_order}
use Rattle.tla_value.specs.Strict.{applied}
use Rattle.value_forms.proofs.StopLaws.{behind}
use Rattle.step_moves.proofs.reads.fields_read.Given as goal

abbrev pub invariant-loop-name : goal.invariant-loop-name
invariant-loop-name l =
    behind l.all.items (in_order (λ x. applied l.at l.front (text x)) (drop l.name-index l.names)) ≡ in_order (λ x. applied l.at l.front (text x)) l.names
