-- The tree of an expression: one shape for all forms ("Specifying Systems", chapter 16).
use Rattle.std.specs.Prelude.{ℕ, ◌+◌, List, [], ◌∷◌, ◌++◌, Bool, Option, Some, None, map}
use Rattle.std.specs.List.{flat_map}
use Rattle.tla_token.specs.declared.place.Place.{Place}
use Rattle.tla_tree.specs.declared.op.Op.{Op}
use Rattle.tla_tree.specs.declared.op.Binder.{Binder}

-- a name or a string, as its bytes
abbrev pub Word : Type 0
Word = List ℕ

-- a word where it is: a name that is bound or declared, or a label
pub record Name : Type 0 where
  pub word : Word
  pub place : Place

abbrev pub words : List Name → List Word
words xs = map (λ (x : Name). x.word) xs

-- a step of a path after `!` in an EXCEPT, or after the variable of a left side
pub data PathStep : Type 0 where
  index : PathStep  -- [e], the expression being a part of the tree
  field : Word → PathStep  -- .a

-- one setting of an EXCEPT: its path, and the place at which it faults
pub record Slot : Type 0 where
  pub path : List PathStep
  pub place : Place

-- forms whose parts are all evaluated first, from left to right
pub data Strict : Type 0 where
  operator : Op → Strict  -- every operator but /\ \/ => \in \notin
  set_of : Strict  -- {a, b}
  tuple : Strict  -- <<a, b>>
  fields : List Word → Strict  -- [a |-> e, b |-> f]
  records : List Word → Strict  -- [a : S, b : T]
  functions : Strict  -- [S -> T]
  apply : Strict  -- f[a]; f[a, b] is f[<<a, b>>]
  select : Word → Strict  -- r.a
  except : List Slot → Strict  -- [f EXCEPT ![a].b = e, ..]: f, then for each slot its subscripts and its right side

-- what is not a tree
pub data Form : Type 0 where
  number : ℕ → Form
  string : Word → Form  -- a string, without its quotes and escapes
  truth : Bool → Form
  booleans : Form  -- BOOLEAN
  strings : Form  -- STRING
  name : Word → Form  -- a variable, constant, parameter, bound name, or definition without parameters; also Nat and Int
  next : Word → Form  -- a primed variable
  strict : Strict → Form
  operator_call : Word → Form  -- Op(a, b): a definition or a standard operator
  conjunction : Form  -- a /\ b
  disjunction : Form  -- a \/ b
  implication : Form  -- a => b
  member : Bool → Form  -- a \in b; with false, a \notin b
  if_then_else : Form  -- IF a THEN b ELSE c
  cases : Bool → Form  -- CASE a -> b [] c -> d; with true, and an OTHER at the end
  binding : Binder → List (List Name) → Form  -- x, y \in S, z \in T: a set for each group of names, and the body
  local : List Name → Form  -- LET x == a y == b IN c: a right side for each name, seen by those after it, and the body

mutual
  pub data Tree : Type 0 where
    node : Form → Place → Trees → Tree

  pub data Trees : Type 0 where
    no_trees : Trees
    tree : Tree → Trees → Trees

-- the place of a tree: that of its first token
abbrev pub root_place : Tree → Place
root_place (node m at ts) = at

-- a fact of each node
abbrev mutual
  pub Every : (Form → Place → Type 0) → Tree → Type 0
  Every P (node m at ts) = P m at × EveryOf P ts

  pub EveryOf : (Form → Place → Type 0) → Trees → Type 0
  EveryOf P no_trees = Unit {0}
  EveryOf P (tree t ts) = Every P t × EveryOf P ts

-- a fact of each word
abbrev pub Each : (Word → Type 0) → List Word → Type 0
Each P [] = Unit {0}
Each P (x ∷ xs) = P x × Each P xs

-- the names that a form binds
abbrev pub binders : Form → List Word
binders (binding b gs) = flat_map words gs
binders (local xs) = words xs
binders _ = []

-- from none of them to all
abbrev pub beginnings : List Word → List (List Word)
beginnings [] = [] ∷ []
beginnings (x ∷ xs) = [] ∷ map (λ ys. x ∷ ys) (beginnings xs)

-- those of them that each part sees, part by part: the body of a binder sees all, and what is in a LET those before it
abbrev pub seen_names : Form → List (List Word)
seen_names (binding b groups) = map (λ (xs : List Name). []) groups ++ flat_map words groups ∷ []
seen_names (local xs) = beginnings (words xs)
seen_names _ = []

-- the count of nodes
abbrev mutual
  pub size : Tree → ℕ
  size (node m at ts) = 1 + sizes ts

  pub sizes : Trees → ℕ
  sizes no_trees = 0
  sizes (tree t ts) = size t + sizes ts

-- a tree put in for a name at a place, or nothing
abbrev pub Graft : Type 0
Graft = Word → Place → Option Tree

abbrev pub grafted_name : Option Tree → Form → Place → Trees → Tree
grafted_name (Some t) m at ts = t
grafted_name None m at ts = node m at ts

abbrev pub grafted_node : Graft → Form → Place → Trees → Tree
grafted_node g (name x) at ts = grafted_name (g x at) (name x) at ts
grafted_node g m at ts = node m at ts

-- the tree with the trees of g in place of the names
abbrev mutual
  pub graft : Graft → Tree → Tree
  graft g (node m at ts) = grafted_node g m at (grafts g ts)

  pub grafts : Graft → Trees → Trees
  grafts g no_trees = no_trees
  grafts g (tree t ts) = tree (graft g t) (grafts g ts)
