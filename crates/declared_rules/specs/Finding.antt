-- The first offence that was found, with those of the expressions whose numbers are still marked.
use Rattle.std.specs.Prelude.{◌≡◌, List, [], ◌∷◌, ◌++◌, length, Bool, true, false, ◌&&◌, ◌||◌, not, cond, codes, Option}
use Rattle.std.specs.List.{flat_map}
use Rattle.tla_token.specs.declared.place.Place.{Place}
use Rattle.tla_token.specs.declared.rule.Rule.TheVariants.{Duplicate, Reserved, NeedsModule}
use Rattle.tla_token.specs.declared.rule.Refusal.{Refusal}
use Rattle.tla_token.specs.Signs.{is_among}
use Rattle.tla_token.specs.Words.{is_own}
use Rattle.tla_tree.specs.Tree.{Name, Word, Form, strings, strict, operator, Tree, node, Trees, no_trees, tree}
use Rattle.tla_value.specs.StandardModules.{is_member, is_last}
use Rattle.pcal_tree.specs.BoundNames.{lists_of}
use Rattle.pcal_tree.specs.Offences.{offence_if, first}
use Rattle.pcal_tree.specs.OffencesModules.{strings_offences}
use Rattle.algorithm_answer.specs.Joined.{joined}
use Rattle.module_outside.specs.declared.modules.Modules.{Modules}
use Rattle.module_outside.specs.ModulesIn.{has_op, is_standard_in}
use Rattle.module_outside.specs.SightIn.{Binds}
use Rattle.declared_rules.specs.declared.found.Found.{Found}
use Rattle.declared_rules.specs.Parts.{Part, expression, bound, takes, declares, labels, prints, stacks}

-- ---- names, where these modules are extended

abbrev pub reserved_in : Modules → Name → List Refusal
reserved_in m n = offence_if (is_own n.word || is_standard_in m n.word) Reserved n.place

-- one by one, each where those before it are seen
abbrev pub seen_offences : Modules → List Word → List Name → List Refusal
seen_offences m s [] = []
seen_offences m s (n ∷ ns) = (reserved_in m n ++ offence_if (is_among s n.word) Duplicate n.place) ++ seen_offences m (n.word ∷ s) ns

abbrev pub seen_after : List Word → List Name → List Word
seen_after s [] = s
seen_after s (n ∷ ns) = seen_after (n.word ∷ s) ns

abbrev pub list_offences : Modules → List Name → List Refusal
list_offences m ns = seen_offences m [] ns

abbrev pub end_label : Name → List Refusal
end_label n = offence_if (is_among (codes "Done" ∷ codes "Error" ∷ []) n.word) Reserved n.place

-- ---- expressions

abbrev pub is_strings_of : Form → Bool
is_strings_of strings = true
is_strings_of _ = false

abbrev pub sign_in : Modules → Form → Place → List Refusal
sign_in m (strict (operator o)) p = offence_if (not (has_op m o)) NeedsModule p
sign_in m _ p = []

-- true directly right of \in or \notin
abbrev pub node_offences : Modules → Bool → Form → Place → List Refusal
node_offences m right f p = flat_map (list_offences m) (lists_of f) ++ (sign_in m f p ++ strings_offences right f p)

abbrev mutual
  pub tree_offences : Modules → Bool → Tree → List Refusal
  tree_offences m right (node f p ts) = node_offences m right f p ++ trees_offences m (is_member f) ts

  -- true where the last is directly right of \in or \notin
  pub trees_offences : Modules → Bool → Trees → List Refusal
  trees_offences m right no_trees = []
  trees_offences m right (tree t ts) = tree_offences m (right && is_last ts) t ++ trees_offences m right ts

-- ---- parts

abbrev pub part_offences : Modules → Part → List Refusal
part_offences m (expression t) = tree_offences m false t
part_offences m (bound ns) = list_offences m ns
part_offences m (takes ns) = []
part_offences m (declares n) = reserved_in m n
part_offences m (labels n) = end_label n
part_offences m (prints p) = offence_if (not m.tlc) NeedsModule p
part_offences m (stacks p) = offence_if (not m.sequences) NeedsModule p

abbrev pub parts_offences : Modules → List Part → List Refusal
parts_offences m xs = flat_map (part_offences m) xs

-- ---- what code found

abbrev pub marked : Modules → List Tree → List Bool → List Refusal
marked m [] bs = []
marked m (t ∷ ts) [] = []
marked m (t ∷ ts) (b ∷ bs) = cond b (tree_offences m false t) [] ++ marked m ts bs

abbrev pub finding : List Tree → Found → Option Refusal
finding ts k = joined k.first (first (marked k.modules ts k.marks.items))

-- these offences were found, and there are as many marks as before
pub record Joins (ts : List Tree) (old new : Found) (rs : List Refusal) : Type 0 where
  pub modules : new.modules ≡ old.modules
  pub many : length new.marks.items ≡ length old.marks.items
  pub value : finding ts new ≡ joined (finding ts old) (first rs)

-- these parts were looked at
pub record Adds (ts : List Tree) (old new : Found) (xs : List Part) : Type 0 where
  pub joins : Joins ts old new (parts_offences old.modules xs)

-- names of one list were, behind others that were seen
pub record AddsNames (old new : Found) (ns : List Name) : Type 0 where
  pub adds : (ts : List Tree) (s : List Word) → Binds old.seen s → Joins ts old new (seen_offences old.modules s ns)
  pub seen : (s : List Word) → Binds old.seen s → Binds new.seen (seen_after s ns)
