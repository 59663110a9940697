-- Assignments of one statement of which no two set one variable, but for parts of it ("A PlusCal User's Manual", section 3.2.1, multiple assignment).
use Rattle.std.specs.Prelude.{◌≡◌, true, List, [], ◌∷◌, bytes_eq}
use Rattle.tla_tree.specs.Tree.{Tree}
use Rattle.pcal_tree.specs.Algorithm.{Assignments, no_assignments, assignment}
use Rattle.action_builder.specs.Assigned.{head_of}
use Rattle.action_builder.specs.Written.{Key, keys_of}

abbrev pub SomeKeys : List Key → Type 0
SomeKeys [] = ⊥
SomeKeys (k ∷ ks) = Unit {0}

-- of two assignments to one variable each is to a part of it
abbrev pub Beside : Tree → Assignments → Type 0
Beside l no_assignments = Unit {0}
Beside l (assignment m e ms) = (bytes_eq (head_of l) (head_of m) ≡ true → SomeKeys (keys_of l) × SomeKeys (keys_of m)) × Beside l ms

abbrev pub InParts : Assignments → Type 0
InParts no_assignments = Unit {0}
InParts (assignment l e ms) = Beside l ms × InParts ms
