-- Processes in memory, and what they stand for where the pool has these trees.
use Rattle.std.specs.Prelude.{List, map, Some}
use Rattle.tla_tree.specs.Tree.{Tree}
use Rattle.tla_value.specs.Value.{Value}
use Rattle.pcal_tree.specs.Program as pure
use Rattle.step_spots.specs.declared.routine.Routine.{Routine}
use Rattle.step_spots.specs.InMemory.{routine_at}
use Rattle.step_moves.specs.declared.actor.Actor.{Actor}
use Rattle.step_moves.specs.declared.actor.Named.{Named}

abbrev pub actor_at : List Tree → Actor → pure.Actor
actor_at ts a = record { self = a.identifier; own = routine_at ts a.own }

abbrev pub named_at : List Tree → Named → pure.Actor
named_at ts a = record { self = Some a.identifier; own = routine_at ts a.own }

-- an identifier with what its process runs
abbrev pub entry_at : List Tree → Value × Routine → pure.Actor
entry_at ts e = record { self = Some e.0; own = routine_at ts e.1 }

abbrev pub identifiers_in : List Named → List Value
identifiers_in all = map (λ (a : Named). a.identifier) all
