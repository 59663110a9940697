-- What the loop keeps: there is a value for each process so far.
use Rattle.std.proofs.Common.{◌≡◌, List, map, take}
use Rattle.tla_tree.specs.Tree.{Tree}
use Rattle.pcal_tree.specs.Calls.{label_value, first_label}
use Rattle.pcal_tree.specs.Program.{Program, Actor}
use Rattle.step_moves.specs.InMemory.{actor_at}
use Rattle.written_names.specs.Units.{naming_of}
use Rattle.step_meaning.proofs.ready.first_values.Given as goal

abbrev pub invariant-loop-actor : goal.invariant-loop-actor
invariant-loop-actor l =
    (P : Program) (ts : List Tree) → naming_of l.naming ≡ P.naming → l.all.items ≡ map (λ (v : Actor). label_value P v.own (first_label v.own)) (map (actor_at ts) (take l.actor-index l.actors))
