-- What definitions read, in memory.
use Rattle.std.specs.Prelude.{◌≡◌, ◌≤◌, ◌+◌, length, ℕ, zero, suc, List, [], ◌∷◌, ◌++◌, Bool, cond, unwrap_or, slice_get}
use Rattle.std.specs.List.{list_any, flat_map}
use Rattle.tla_token.specs.Signs.{is_among}
use Rattle.tla_tree.specs.Tree.{Word}
use Rattle.pcal_tree.specs.Algorithm.{Name}
use Rattle.pcal_tree.specs.Reads.{Reading, through}
use Rattle.algorithm_limits.specs.Numbers.{number_of, with_number}
use Rattle.read_rules.specs.declared.definitions.Reads.{Reads}

-- the variables of a number; 0 is none's
abbrev pub reads_at : List (List Word) → ℕ → List Word
reads_at ls zero = []
reads_at ls (suc i) = unwrap_or (slice_get ls i) []

-- each name reads these: no test tells them apart
pub record AreReads (r : Reads) (ds : List Reading) : Type 0 where
  pub within : (x : Word) → number_of r.numbers x ≤ length r.lists.items
  pub reads : (x : Word) (f : Word → Bool) → list_any f (reads_at r.lists.items (number_of r.numbers x)) ≡ list_any f (through ds x)

-- a newer definition of a name reads these
pub record HasRead (old new : Reads) (x : Word) (s : List Word) : Type 0 where
  pub lists : new.lists.items ≡ old.lists.items ++ s ∷ []
  pub numbers : new.numbers ≡ with_number old.numbers x (length old.lists.items + 1)

-- what a name is or reads, where these are the variables
abbrev pub read_with : List Word → List Reading → Word → List Word
read_with gs ds x = cond (is_among gs x) (x ∷ []) [] ++ through ds x

abbrev pub reads_all : List Word → List Reading → List Name → List Word
reads_all gs ds ns = flat_map (λ n. read_with gs ds n.word) ns
