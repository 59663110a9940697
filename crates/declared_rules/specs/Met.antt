-- Names that are taken from the start: those that were met, and those that are bound in the expressions whose numbers are marked.
use Rattle.std.specs.Prelude.{◌≡◌, ℕ, List, [], ◌∷◌, ◌++◌, length, Bool, false, ◌&&◌, ◌||◌}
use Rattle.std.specs.List.{flat_map}
use Rattle.tla_token.specs.Signs.{is_among}
use Rattle.tla_tree.specs.Tree.{Word, Tree, words}
use Rattle.tla_tree.specs.Pool.{at}
use Rattle.pcal_tree.specs.BoundNames.{Lists, all_of, lists_in}
use Rattle.module_outside.specs.declared.definition.ReadDefinition.{ReadDefinition}
use Rattle.declared_rules.specs.declared.met.Met.{Met}
use Rattle.declared_rules.specs.Parts.{Part, expression, bound, takes, declares, labels, prints, stacks}

abbrev pub bound_words : Lists → List Word
bound_words xss = words (all_of xss)

-- a tree binds the name
abbrev pub binds : Tree → Word → Bool
binds t w = is_among (bound_words (lists_in t)) w

-- one of the trees that are marked does
abbrev pub bound_by : List Tree → List Bool → Word → Bool
bound_by [] ms w = false
bound_by (t ∷ ts) [] w = false
bound_by (t ∷ ts) (m ∷ ms) w = (m && binds t w) || bound_by ts ms w

abbrev pub holds : List Tree → Met → Word → Bool
holds ts k w = is_among k.names w || bound_by ts k.marks.items w

-- these names were added, and there are as many marks as before
pub record Adds (ts : List Tree) (old new : Met) (ws : List Word) : Type 0 where
  pub many : length new.marks.items ≡ length old.marks.items
  pub names : (w : Word) → holds ts new w ≡ (holds ts old w || is_among ws w)

-- ---- the names of parts

abbrev pub expr_words : List Tree → ℕ → List Word
expr_words ts e = bound_words (lists_in (at ts e))

abbrev pub part_words : Part → List Word
part_words (expression t) = bound_words (lists_in t)
part_words (takes ns) = words ns
part_words (bound ns) = []
part_words (declares n) = []
part_words (labels n) = []
part_words (prints p) = []
part_words (stacks p) = []

abbrev pub parts_words : List Part → List Word
parts_words xs = flat_map part_words xs

-- those that a definition outside binds: its parameters, and those in its body
abbrev pub words_within : List Tree → ReadDefinition → List Word
words_within ts d = words d.params.items ++ expr_words ts d.body
