-- A walk over the tree of a number without recursion: the visits that are still to be made, of which the last is the next one.
use Rattle.std.specs.Prelude.{◌≡◌, ◌⊎◌, ℕ, ◌+◌, ◌<◌, List, [], ◌∷◌, ◌++◌, length, map}
use Rattle.std.specs.List.{AllByRecursion}
use Rattle.tla_pool.specs.declared.graft.Visit.{Visit}
use Rattle.tla_pool.specs.declared.graft.Visit.TheVariants as visit
use Rattle.tla_tree.specs.Tree.{Tree, size}
use Rattle.tla_tree.specs.Shapes.{Shaped}
use Rattle.tla_tree.specs.Pool.{Entry, at, tree_in, AllBelow}
use Rattle.tla_pool.specs.Done.{IsDone}

abbrev pub number_of : Visit → ℕ
number_of (visit.Enter i) = i
number_of (visit.Leave i n) = i

-- the node of a number of the pool
abbrev pub IsNode : List Tree → ℕ → Entry → Type 0
IsNode ts i n = (at ts i ≡ tree_in ts n) × AllBelow i n.parts × Shaped n.form (length n.parts)

abbrev pub Fits : List Tree → Visit → Type 0
Fits ts (visit.Enter i) = i < length ts
Fits ts (visit.Leave i n) = (i < length ts) × IsNode ts i n

abbrev pub AllFit : List Tree → List Visit → Type 0
AllFit ts vs = AllByRecursion (Fits ts) vs

-- the number is done, or will be
abbrev pub WillBe : List (ℕ × ℕ) → List Visit → ℕ → Type 0
WillBe done [] i = IsDone done i
WillBe done (v ∷ vs) i = (number_of v ≡ i) ⊎ WillBe done vs i

abbrev pub AllWillBe : List (ℕ × ℕ) → List Visit → List ℕ → Type 0
AllWillBe done vs is = AllByRecursion (WillBe done vs) is

-- where a node's parts aren't done, they are visited before it
abbrev pub InOrder : List (ℕ × ℕ) → List Visit → Type 0
InOrder done [] = Unit {0}
InOrder done (visit.Enter i ∷ vs) = InOrder done vs
InOrder done (visit.Leave i n ∷ vs) = AllWillBe done vs n.parts × InOrder done vs

abbrev pub to_parts : List ℕ → List Visit
to_parts is = map visit.Enter is

-- the visits that a number needs, behind others
abbrev pub Enters : List Tree → List (ℕ × ℕ) → ℕ → List Visit → List Visit → Type 0
Enters ts done i old new = (IsDone done i × (new ≡ old)) ⊎ ((n : Entry) × IsNode ts i n × (new ≡ old ++ visit.Leave i n ∷ to_parts n.parts))

-- more than is to be visited
abbrev pub work : List Tree → Visit → ℕ
work ts (visit.Enter i) = size (at ts i) + size (at ts i)
work ts (visit.Leave i n) = 1

abbrev pub all_work : List Tree → List Visit → ℕ
all_work ts [] = 0
all_work ts (v ∷ vs) = work ts v + all_work ts vs
