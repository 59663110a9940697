-- Left sides that were passed, in memory.
use Rattle.std.specs.Prelude.{◌≡◌, ℕ, max, nat_lt, [], ◌∷◌, ◌++◌, Bool, ◌||◌, cond, Some}
use Rattle.tla_tree.specs.Tree.{Word}
use Rattle.pcal_tree.specs.Algorithm.{Assignments, no_assignments, assignment}
use Rattle.pcal_tree.specs.Paths.{root, roots, is_whole, same_word, clashes}
use Rattle.pcal_tree.proofs.SetLaws.{Same}
use Rattle.algorithm_limits.specs.Numbers.{number_of, with_number}
use Rattle.label_steps.specs.declared.sides.Sides.{Sides}

-- of a variable: 2 where the whole of it is assigned, 1 where a part is, 0 where nothing is
abbrev pub rank_with : Bool → ℕ → ℕ
rank_with whole n = cond whole 2 (max n 1)

abbrev pub rank_in : Assignments → Word → ℕ
rank_in no_assignments x = 0
rank_in (assignment l e ms) x = cond (same_word (root l) (Some x)) (rank_with (is_whole l) (rank_in ms x)) (rank_in ms x)

-- one more left side with those before it
abbrev pub rank_clashes : Bool → ℕ → Bool
rank_clashes whole n = cond whole (nat_lt 0 n) (nat_lt 1 n)

-- one more left side was passed, of this variable
pub record Passed (old new : Sides) (x : Word) (whole : Bool) : Type 0 where
  pub names : new.step.names.items ≡ old.step.names.items ++ x ∷ []
  pub twice : new.step.twice ≡ (rank_clashes whole (number_of old.ranks x) || old.step.twice)
  pub ranks : new.ranks ≡ with_number old.ranks x (rank_with whole (number_of old.ranks x))

-- these were
pub record AreSides (s : Sides) (ms : Assignments) : Type 0 where
  pub names : Same s.step.names.items (roots ms)
  pub twice : s.step.twice ≡ clashes ms
  pub ranks : (x : Word) → number_of s.ranks x ≡ rank_in ms x
