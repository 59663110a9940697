-- What macros assign, in memory, and what their names are where they are called.
use Rattle.std.specs.Prelude.{◌≡◌, List, Bool, false, None}
use Rattle.std.specs.List.{list_any}
use Rattle.tla_token.specs.Signs.{is_among}
use Rattle.tla_tree.specs.Tree.{Word, Trees, Graft}
use Rattle.pcal_tree.specs.Algorithm.{nowhere, Name}
use Rattle.pcal_tree.specs.Paths.{some_word}
use Rattle.pcal_tree.specs.laws.MacroSummaries as found
use Rattle.pcal_tree.specs.laws.MacroSummaries.{argument, resolved, is_broken}
use Rattle.pcal_tree.proofs.TargetLaws.{Anywhere, put_for}
use Rattle.label_steps.specs.declared.put.Side.{Side}
use Rattle.label_steps.specs.declared.put.Pair.{Pair}
use Rattle.label_steps.specs.declared.put.Pair.TheVariants as pair

abbrev pub side_of : Side → found.Side
side_of s = record { name = s.name; whole = s.whole }

abbrev pub pair_of : Pair → found.Pair
pair_of (pair.InTurn a b) = found.in_turn a b
pair_of (pair.AtOnce r s) = found.at_once (side_of r) (side_of s)

-- the variable that a name is where these arguments stand for these parameters, if it is one
abbrev pub variable_put : List Name → Trees → Word → List Word
variable_put ps ts x = some_word (resolved (argument ps ts) x)

-- trees are put in for parameters alone
pub record PutsIn (ps : List Word) (g : Graft) : Type 0 where
  pub anywhere : Anywhere g
  pub params : (x : Word) → is_among ps x ≡ false → g x nowhere ≡ None

abbrev pub breaks : Graft → List found.Pair → Bool
breaks g ps = list_any (is_broken (put_for g)) ps

-- the same pairs are broken, whatever is put in
abbrev pub SameBroken : List Word → List found.Pair → List found.Pair → Type 0
SameBroken xs ps qs = (g : Graft) → PutsIn xs g → breaks g ps ≡ breaks g qs
