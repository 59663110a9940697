-- What the code reads, beside what is to be read: of the tokens that are left, and of phrases in a pool.
use Rattle.std.specs.Prelude.{◌≡◌, ℕ, ◌<◌, ◌++◌, Bool, List, length, map, Option, Some, None, Result, Ok, Err}
use Rattle.tla_token.specs.declared.place.Place.{Place}
use Rattle.tla_token.specs.declared.token.Token as code_token
use Rattle.tla_token.specs.TokensSeen.{token_seen, span_bytes}
use Rattle.expr_nodes.specs.declared.cursor.Halt.{Halt}
use Rattle.expr_nodes.specs.declared.cursor.Halt.TheVariants as halt
use Rattle.expr_nodes.specs.declared.cursor.Word as code_word
use Rattle.expr_nodes.specs.declared.cursor.FieldName.{FieldName}
use Rattle.tla_tree.specs.Tree as tree
use Rattle.tla_tree.specs.Lexical.{Token}
use Rattle.tla_tree.specs.TokenViews.{view}
use Rattle.tla_tree.specs.Spelling.{Field, Phrase, Phrases, last, more, Binds, Fields, Settings, Bullets, Arms, Locals, groups, sets_before, local_names, right_sides_before, labels, field_trees, slots, setting_trees, has_other, arm_trees, first_bullet, joined, tree_of, trees_of, start}
use Rattle.tla_tree.specs.TreeOf.{trees_from}
use Rattle.tla_tree.specs.Pool.{at, trees_at, AllBelow}
use Rattle.expr_nodes.specs.ShapeOf.{shape_of, in_all, in_binds, in_fields, in_settings, in_bullets, last_boxes, in_arms, in_locals}
use Rattle.expr_nodes.specs.declared.shape.Boxes.{Boxes}
use Rattle.tla_tree.specs.declared.op.Op.{Op}
use Rattle.expr_nodes.specs.declared.make.Read.{Read}
use Rattle.expr_nodes.specs.declared.make.Row.{Row}
use Rattle.tla_tree.specs.Reader.{Out}

-- words are among these bytes
abbrev pub seen : List ℕ → List code_token.Token → List Token
seen bytes ts = map (λ (t : code_token.Token). view (token_seen bytes t)) ts

abbrev pub word_seen : List ℕ → code_word.Word → Place × tree.Word
word_seen bytes w = (w.place, span_bytes bytes w.span)

abbrev pub field_seen : List ℕ → FieldName → Field
field_seen bytes f = record { place = f.place; is_reserved = f.reserved; text = span_bytes bytes f.span }

-- memory ran out, or so many tokens are left from the refused one on
abbrev pub Fails : {A : Type 0} → Halt → Out A → Type 0
Fails halt.Memory o = Unit {0}
Fails (halt.Refused r n) (Ok x) = ⊥
Fails (halt.Refused r n) (Err s) = (s.0 ≡ r) × (length s.1 ≡ n)

abbrev pub Gives : {X A : Type 0} → (X → A × List Token) → Result X Halt → Out A → Type 0
Gives f (Ok x) o = o ≡ Ok (f x)
Gives f (Err e) o = Fails e o

-- ---- phrases in a pool
abbrev pub first_of : Phrases → Phrase
first_of (last a) = a
first_of (more a p xs) = a

-- the number has the tree of the phrase, and its shape is told
pub record IsIn (linked : Bool) (ts : List tree.Tree) (x : Read) (a : Phrase) : Type 0 where
  pub below : x.id < length ts
  pub tree : at ts x.id ≡ tree_of a
  pub shape : shape_of linked a ≡ x.shape

-- an expression or none
abbrev pub MayBeIn : Bool → List tree.Tree → Option Read → Option Phrase → Type 0
MayBeIn linked ts (Some x) (Some a) = IsIn linked ts x a
MayBeIn linked ts (Some x) None = ⊥
MayBeIn linked ts None (Some a) = ⊥
MayBeIn linked ts None None = Unit {0}

-- so many numbers have the trees of phrases in a row
pub record AreIn (linked : Bool) (ts : List tree.Tree) (is : List ℕ) (r : Row) (xs : Phrases) : Type 0 where
  pub below : AllBelow (length ts) is
  pub trees : trees_at ts is ≡ trees_of xs
  pub nesting : in_all linked xs ≡ r.nesting
  pub first : start (first_of xs) ≡ r.first

-- these groups of names, and the numbers of their sets
pub record AreBound (linked : Bool) (ts : List tree.Tree) (gs : List (List tree.Name)) (is : List ℕ) (n : ℕ) (bs : Binds) : Type 0 where
  pub below : AllBelow (length ts) is
  pub names : groups bs ≡ gs
  pub sets : (us : List tree.Tree) → sets_before bs (trees_from us) ≡ trees_from (map (at ts) is ++ us)
  pub nesting : in_binds linked bs ≡ n

pub record AreLocals (linked : Bool) (ts : List tree.Tree) (xs : List tree.Name) (is : List ℕ) (n : ℕ) (ls : Locals) : Type 0 where
  pub below : AllBelow (length ts) is
  pub names : local_names ls ≡ xs
  pub sides : (us : List tree.Tree) → right_sides_before ls (trees_from us) ≡ trees_from (map (at ts) is ++ us)
  pub nesting : in_locals linked ls ≡ n

pub record AreFields (linked : Bool) (ts : List tree.Tree) (xs : List tree.Word) (is : List ℕ) (n : ℕ) (fs : Fields) : Type 0 where
  pub below : AllBelow (length ts) is
  pub names : labels fs ≡ xs
  pub trees : trees_at ts is ≡ field_trees fs
  pub nesting : in_fields linked fs ≡ n

pub record AreSettings (linked : Bool) (ts : List tree.Tree) (p : Place) (ps : List tree.Slot) (is : List ℕ) (n : ℕ) (ss : Settings) : Type 0 where
  pub below : AllBelow (length ts) is
  pub paths : slots p ss ≡ ps
  pub trees : trees_at ts is ≡ setting_trees ss
  pub nesting : in_settings linked ss ≡ n

pub record AreArms (linked : Bool) (ts : List tree.Tree) (b : Bool) (is : List ℕ) (n : ℕ) (xs : Arms) : Type 0 where
  pub below : AllBelow (length ts) is
  pub other : has_other xs ≡ b
  pub trees : trees_at ts is ≡ arm_trees xs
  pub nesting : in_arms linked xs ≡ n

-- something is read that is told of, and these tokens are left
pub record Reads {A : Type 0} (P : A → Type 0) (u : List Token) (o : Out A) : Type 0 where
  pub what : A
  pub is : o ≡ Ok (what, u)
  pub told : P what

abbrev pub Told : {X A : Type 0} → (X → A → Type 0) → (X → List Token) → Result X Halt → Out A → Type 0
Told P f (Ok x) o = Reads (P x) (f x) o
Told P f (Err e) o = Fails e o

-- items by columns: joined from the left, they are the tree of the number
pub record AreItems (linked : Bool) (ts : List tree.Tree) (o : Op) (i : ℕ) (p : Place) (b : Boxes) (n : ℕ) (bs : Bullets) : Type 0 where
  pub below : i < length ts
  pub tree : at ts i ≡ joined o bs
  pub first : first_bullet bs ≡ p
  pub boxes : last_boxes linked bs ≡ b
  pub nesting : in_bullets linked bs ≡ n
