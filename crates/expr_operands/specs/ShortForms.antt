-- Short forms, and the set behind `x \in` beside its element: what the code reads of them.
use Rattle.std.specs.Prelude.{◌≡◌, Bool, ℕ, List, Result, Ok, Err, Option, Some, None}
use Rattle.tla_token.specs.declared.place.Place.{Place}
use Rattle.tla_token.specs.declared.token.Tokens.{Tokens}
use Rattle.tla_tree.specs.Tree.{Tree, Word}
use Rattle.tla_tree.specs.Lexical.{Token}
use Rattle.tla_tree.specs.declared.op.Op.{Op}
use Rattle.tla_tree.specs.Spelling.{Phrase, prefix_of, name}
use Rattle.tla_tree.specs.Reader.{Out, Reader, Readers, ◌>>=◌, gives, element}
use Rattle.expr_nodes.specs.declared.cursor.Halt.{Halt}
use Rattle.expr_nodes.specs.declared.make.Read.{Read}
use Rattle.expr_nodes.specs.declared.shape.Shape.{Shape}
use Rattle.expr_nodes.specs.ReadIn.{IsIn, MayBeIn, Fails}
use Rattle.expr_nodes.specs.Ahead.{ahead}
use Rattle.expr_operands.specs.declared.read_element.Parted.{Parted}

-- a short form under a prefix operator at a place
abbrev pub under_short : Readers → ℕ → Place → Op → Reader Phrase
under_short d e p q = d.short e >>= λ a. gives (prefix_of p q a)

-- ---- behind `x \in` after `{` or `[`
-- the name, the set, and the element that it may be instead
pub record IsParted (linked : Bool) (ts : List Tree) (p : Place) (x : Word) (q : Place) (n : Read) (y : Parted) (a : Phrase) : Type 0 where
  pub named : IsIn linked ts n (name p x)
  pub set : IsIn linked ts y.set a
  pub part : MayBeIn linked ts y.element (element p x q a)

-- the set and the element alone
abbrev pub PartedIn : Bool → List Tree → Place → Word → Place → Parted → Phrase → Type 0
PartedIn linked ts p x q y a = IsIn linked ts y.set a × MayBeIn linked ts y.element (element p x q a)

-- of some phrase
pub record SomeParted (linked : Bool) (ts : List Tree) (n : Read) (y : Parted) : Type 0 where
  pub place : Place
  pub word_of : Word
  pub sign : Place
  pub what : Phrase
  pub told : IsParted linked ts place word_of sign n y what

-- where it has grown to, and from where it is read on
pub record PartsTo (linked : Bool) (v : Tokens) (new : List Tree) (p : Place) (x : Word) (q : Place) (n : Read) (y : Parted) (i : ℕ) (on : Phrase → Reader Phrase) (o : Out Phrase) : Type 0 where
  pub what : Phrase
  pub told : IsParted linked new p x q n y what
  pub is : o ≡ on what (ahead v i)

-- one step further, or none
abbrev pub PartSteps : Bool → Tokens → List Tree → Place → Word → Place → Read → (Phrase → Reader Phrase) → Phrase → List Token → Result (Option (Parted × ℕ)) Halt → Out Phrase → Type 0
PartSteps linked v new p x q n on a ts (Ok (Some y)) o = PartsTo linked v new p x q n y.0 y.1 on o
PartSteps linked v new p x q n on a ts (Ok None) o = o ≡ Ok (a, ts)
PartSteps linked v new p x q n on a ts (Err e) o = Fails e o

-- the shape of what was read, if it was
abbrev pub shape_if : Option Read → Option Shape
shape_if (Some x) = Some x.shape
shape_if None = None
