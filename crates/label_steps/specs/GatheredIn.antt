-- What is gathered of macros, in memory: names that are assigned, and pairs of them.
use Rattle.std.specs.Prelude.{List, [], ◌∷◌, ◌++◌, Option, Some, None, map, option_map}
use Rattle.std.specs.List.{flat_map}
use Rattle.tla_tree.specs.Tree.{Word, Tree}
use Rattle.pcal_tree.specs.laws.MacroSummaries.{Side, Pair, in_turn, at_once, resolved, resolved_whole}
use Rattle.pcal_tree.specs.Paths.{Path}
use Rattle.pcal_tree.proofs.SetLaws.{Same}
use Rattle.label_steps.specs.declared.gathered.Gathered.{Gathered}
use Rattle.label_steps.specs.declared.known.Known.{Known}
use Rattle.label_steps.specs.declared.put.Side as code
use Rattle.label_steps.specs.PutIn.{side_of, pair_of, SameBroken}

abbrev pub gathered_pairs : Gathered → List Pair
gathered_pairs a = map pair_of a.pairs.keys

-- this was found besides
pub record Adds (k : Known) (old new : Gathered) (xs : List Word) (ps : List Pair) : Type 0 where
  pub names : Same new.names.keys (old.names.keys ++ xs)
  pub pairs : SameBroken k.params.keys (gathered_pairs new) (gathered_pairs old ++ ps)

-- pairs of what is there
abbrev pub turn_of : Option Word → Option Word → List Pair
turn_of (Some x) (Some y) = in_turn x y ∷ []
turn_of _ _ = []

abbrev pub once_of : Option Side → Option Side → List Pair
once_of (Some r) (Some s) = at_once r s ∷ []
once_of _ _ = []

-- what a left side is with trees put in for names
abbrev pub sides_put : (Word → Option Tree) → Side → Option Side
sides_put g s = option_map (λ x. record { name = x; whole = resolved_whole g s }) (resolved g s.name)

-- what is assigned where a path leads
abbrev pub names_on : Path → List Word → List Word
names_on None ys = []
names_on (Some xs) ys = ys

abbrev pub turns_on : Path → List Word → List Pair
turns_on None ys = []
turns_on (Some xs) ys = flat_map (λ y. map (λ x. in_turn x y) xs) ys

-- one more left side of a statement, before these
abbrev pub PassesSide : Known → Gathered → Gathered → List code.Side → List code.Side → List Side → Type 0
PassesSide k old new met more ss =
    (rs : List Side) → Same (map side_of met) rs → Adds k old new [] (flat_map (λ s. map (at_once s) rs) ss) × Same (map side_of more) (ss ++ rs)

-- where something is gathered
abbrev pub AddsSome : Known → Option Gathered → Option Gathered → List Word → List Pair → Type 0
AddsSome k None None xs ps = Unit {0}
AddsSome k (Some a) (Some b) xs ps = Adds k a b xs ps
AddsSome k _ _ xs ps = ⊥
