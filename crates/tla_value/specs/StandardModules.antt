-- What the standard modules Naturals, Integers, Sequences, FiniteSets and TLC give, and where their infinite sets may be ("Specifying Systems", chapter 18
-- and section 14.5.3).
use Rattle.std.specs.Prelude.{ℕ, List, [], ◌∷◌, Bool, true, false, ◌||◌, bytes_eq, codes, cond, Option, Some, None}
use Rattle.tla_token.specs.Signs.{is_among}
use Rattle.tla_tree.specs.declared.op.Op.{Op}
use Rattle.tla_tree.specs.declared.op.Op.TheVariants as op
use Rattle.tla_tree.specs.Tree.{Word, Form, member, Trees, no_trees, tree}

-- ---- modules

abbrev pub number_modules : List Word
number_modules = codes "Naturals" ∷ codes "Integers" ∷ []

abbrev pub integer_modules : List Word
integer_modules = codes "Integers" ∷ []

abbrev pub sequence_modules : List Word
sequence_modules = codes "Sequences" ∷ []

abbrev pub finite_set_modules : List Word
finite_set_modules = codes "FiniteSets" ∷ []

abbrev pub tlc_modules : List Word
tlc_modules = codes "TLC" ∷ []

-- one of the modules is among those that are extended
abbrev pub extends_one : List Word → List Word → Bool
extends_one extended [] = false
extends_one extended (m ∷ ms) = is_among extended m || extends_one extended ms

-- ---- signs

-- a module that gives the operator is extended, or it needs none
abbrev pub has_operator : List Word → Op → Bool
has_operator extended op.Plus = extends_one extended number_modules
has_operator extended op.Minus = extends_one extended number_modules
has_operator extended op.Times = extends_one extended number_modules
has_operator extended op.Divide = extends_one extended number_modules
has_operator extended op.Modulo = extends_one extended number_modules
has_operator extended op.Range = extends_one extended number_modules
has_operator extended op.Less = extends_one extended number_modules
has_operator extended op.Greater = extends_one extended number_modules
has_operator extended op.AtMost = extends_one extended number_modules
has_operator extended op.AtLeast = extends_one extended number_modules
has_operator extended op.Negate = extends_one extended integer_modules
has_operator extended op.Concat = extends_one extended sequence_modules
has_operator extended op.MapsTo = extends_one extended tlc_modules
has_operator extended op.Override = extends_one extended tlc_modules
has_operator extended _ = true

-- ---- names

-- a name with so many arguments, the modules that give it, and whether it is an infinite set
pub record StandardName : Type 0 where
  pub title : Word
  pub arity : ℕ
  pub modules : List Word
  pub infinite : Bool

abbrev pub gives : List Word → ℕ → Word → StandardName
gives ms n x = record { title = x; arity = n; modules = ms; infinite = false }

abbrev pub gives_infinite : List Word → ℕ → Word → StandardName
gives_infinite ms n x = record { title = x; arity = n; modules = ms; infinite = true }

abbrev pub standard_table : List StandardName
standard_table =
    gives_infinite number_modules 0 (codes "Nat") ∷ gives_infinite integer_modules 0 (codes "Int") ∷ gives_infinite sequence_modules 1 (codes "Seq")
    ∷ gives sequence_modules 1 (codes "Len") ∷ gives sequence_modules 2 (codes "Append") ∷ gives sequence_modules 1 (codes "Head")
    ∷ gives sequence_modules 1 (codes "Tail") ∷ gives sequence_modules 3 (codes "SubSeq") ∷ gives finite_set_modules 1 (codes "Cardinality")
    ∷ gives finite_set_modules 1 (codes "IsFiniteSet") ∷ gives tlc_modules 1 (codes "PrintT") ∷ gives tlc_modules 2 (codes "Assert") ∷ []

abbrev pub standard_in : List StandardName → Word → Option StandardName
standard_in [] x = None
standard_in (d ∷ ds) x = cond (bytes_eq d.title x) (Some d) (standard_in ds x)

-- ---- where an infinite set may be: directly right of \in or \notin

abbrev pub is_member : Form → Bool
is_member (member b) = true
is_member _ = false

abbrev pub is_last : Trees → Bool
is_last no_trees = true
is_last (tree t ts) = false
