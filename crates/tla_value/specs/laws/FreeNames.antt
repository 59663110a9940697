-- Names that a tree reads free: outside the binders and LETs that bind them.
use Rattle.std.specs.Prelude.{◌≡◌, ◌⊎◌, List, [], ◌∷◌, false, bytes_eq}
use Rattle.tla_tree.specs.Tree.{Word, Form, name, operator_call, Tree, node, Trees, no_trees, tree, seen_names}
use Rattle.tla_token.specs.declared.place.Place.{Place}
use Rattle.tla_value.specs.Meaning.{Env}

-- x, or of N
abbrev pub Or : Word → (Word → Type 0) → Word → Type 0
Or x N y = (x ≡ y) ⊎ N y

-- one of xs, or of N
abbrev pub Also : List Word → (Word → Type 0) → Word → Type 0
Also [] N = N
Also (x ∷ xs) N = Also xs (Or x N)

abbrev pub FormReads : (Word → Type 0) → (Word → Type 0) → Form → Type 0
FormReads N M (name x) = N x
FormReads N M (operator_call f) = M f
FormReads N M _ = Unit {0}

-- the names that a tree reads free are of N, and its operators of M
abbrev mutual
  pub FreeNames : (Word → Type 0) → (Word → Type 0) → Tree → Type 0
  FreeNames N M (node m at ts) = FormReads N M m × FreeInParts N M (seen_names m) ts

  -- names that a part sees are not free in it
  pub FreeInParts : (Word → Type 0) → (Word → Type 0) → List (List Word) → Trees → Type 0
  FreeInParts N M names no_trees = Unit {0}
  FreeInParts N M [] (tree t ts) = FreeNames N M t × FreeInParts N M [] ts
  FreeInParts N M (xs ∷ names) (tree t ts) = FreeNames (Also xs N) M t × FreeInParts N M names ts

abbrev pub Any : Word → Type 0
Any x = Unit {0}

abbrev pub IsOther : Word → Word → Type 0
IsOther x y = bytes_eq x y ≡ false

-- x is not free in the tree
abbrev pub NotFree : Word → Tree → Type 0
NotFree x t = FreeNames (IsOther x) Any t

-- the environments agree on the names of N, the operators of M, and primed names
pub record AgreeOn (N M : Word → Type 0) (e f : Env) : Type 0 where
  pub now : (x : Word) → N x → (at : Place) → e.now x at ≡ f.now x at
  pub primed : (x : Word) (at : Place) → e.primed x at ≡ f.primed x at
  pub defs : (x : Word) → M x → e.defs x ≡ f.defs x
