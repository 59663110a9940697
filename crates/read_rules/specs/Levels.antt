-- Which of the variables that a name reads is declared last, by one number for each definition.
use Rattle.std.specs.Prelude.{ℕ, zero, suc, max, List, [], ◌∷◌, cond, bytes_eq, reverse}
use Rattle.tla_tree.specs.Tree.{Word, words}
use Rattle.pcal_tree.specs.Algorithm.{Name, Definition, Algorithm}
use Rattle.pcal_tree.specs.Reads.{used}
use Rattle.pcal_tree.specs.Variables.{declared}

-- ---- the numbers of variables

abbrev pub one_further : ℕ → ℕ
one_further zero = 0
one_further (suc n) = suc (suc n)

-- in the order of their declaration, from 1 on; 0 where it is none of them
abbrev pub number_among : List Word → Word → ℕ
number_among [] y = 0
number_among (g ∷ gs) y = cond (bytes_eq g y) 1 (one_further (number_among gs y))

-- ---- the levels of definitions

-- definitions, the newest first, each with the number of the last variable that it reads, itself or through others; 0 where it reads none
abbrev pub Levels : Type 0
Levels = List (Word × ℕ)

-- that of the newest definition of the name
abbrev pub level_of : Levels → Word → ℕ
level_of [] x = 0
level_of (l ∷ ls) x = cond (bytes_eq l.0 x) l.1 (level_of ls x)

-- the number of the last variable that a name may be or read
abbrev pub reach_of : List Word → Levels → Word → ℕ
reach_of gs ls x = max (number_among gs x) (level_of ls x)

abbrev pub furthest : List Word → Levels → List Name → ℕ
furthest gs ls [] = 0
furthest gs ls (n ∷ ns) = max (reach_of gs ls n.word) (furthest gs ls ns)

-- the newest first; each sees older ones
abbrev pub levels : List Word → List Definition → Levels
levels gs [] = []
levels gs (d ∷ older) = let before = levels gs older in (d.name.word, furthest gs before (used d.body (words d.params))) ∷ before

abbrev pub levels_of : Algorithm → Levels
levels_of a = levels (declared a.globals) (reverse a.definitions)
