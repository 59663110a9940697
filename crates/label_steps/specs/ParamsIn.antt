-- Parameters that are found by their names.
use Rattle.std.specs.Prelude.{◌≡◌, ℕ, ◌+◌, List, [], ◌∷◌, cond, bytes_eq}
use Rattle.tla_tree.specs.Tree.{Word, Name}
use Rattle.algorithm_limits.specs.Numbers.{Numbers, number_of}

-- the place of the first parameter of this name, where the first of all has the number k; 0 where none has the name
abbrev pub place_from : ℕ → List Name → Word → ℕ
place_from k [] x = 0
place_from k (p ∷ ps) x = cond (bytes_eq p.word x) k (place_from (k + 1) ps x)

abbrev pub ArePlaces : Numbers → List Name → Type 0
ArePlaces es ps = (x : Word) → number_of es x ≡ place_from 1 ps x
