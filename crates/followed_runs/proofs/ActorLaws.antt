-- The process that has an identifier, among processes in memory.
use Rattle.std.proofs.Common.{◌≡◌, ℕ, zero, suc, ◌<◌, List, [], ◌∷◌, length, get_or, drop, map, arith, Option, inl, inr}
use Rattle.tla_tree.specs.Tree.{Tree}
use Rattle.tla_value.specs.Value.{Value}
use Rattle.pcal_tree.specs.Processes.{OneOf}
use Rattle.pcal_tree.specs.StepAnswers.{with_self}
use Rattle.step_moves.specs.declared.actor.Actor.{Actor}
use Rattle.step_moves.specs.InMemory.{actor_at}

pub one_at : {X : Type 0} (xs : List X) (i : ℕ) (x : X) → x ≡ get_or xs i x → i < length xs → OneOf x xs
one_at [] i x e less = absurd (omega arith)
one_at (y ∷ ys) zero x e less = inl e
one_at (y ∷ ys) (suc i) x e less = inr (one_at ys i x e (omega arith))

module _ (ts : List Tree) (who : Option Value) (all : List Actor) where
  -- the one that is found from here on is the one that is found among all
  abbrev pub FoundFrom : ℕ → Type 0
  FoundFrom i = with_self who (map (actor_at ts) (drop i all)) ≡ with_self who (map (actor_at ts) all)
