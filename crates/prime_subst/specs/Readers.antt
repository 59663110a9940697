-- Names that are left alone, and names as they are written.
use Rattle.std.specs.Prelude.{◌≡◌, Bool, false, cond, Some, None}
use Rattle.tla_token.specs.declared.place.Place.{Place}
use Rattle.tla_tree.specs.Tree.{Word, Form, name, node, no_trees, Graft}

-- the form is no name of A
abbrev pub Lacks : (Word → Bool) → Form → Place → Type 0
Lacks A (name x) at = A x ≡ false
Lacks A _ at = Unit {0}

-- the names of `own`, each by its written name
abbrev pub renames_of : (Word → Bool) → (Word → Word) → Graft
renames_of own written x at = cond (own x) (Some (node (name (written x)) at no_trees)) None
