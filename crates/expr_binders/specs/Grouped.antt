-- What is told of names that share a set in a list of binds.
use Rattle.std.specs.Prelude.{◌≡◌, Bool, ℕ, max, List, [], ◌∷◌, Result, Ok, Err, Vec}
use Rattle.std.specs.declared.alloc.Global.{Global}
use Rattle.tla_token.specs.declared.place.Place.{Place}
use Rattle.tla_token.specs.declared.token.Tokens.{Tokens}
use Rattle.tla_tree.specs.Tree.{Tree, Name, Word}
use Rattle.tla_tree.specs.Pool.{Keeps}
use Rattle.tla_tree.specs.Spelling.{Phrase, Binds, last_bind, bind}
use Rattle.tla_tree.specs.Reader.{Out, Readers, ◌>>=◌, gives, peek, bind_rest}
use Rattle.expr_nodes.specs.declared.cursor.Halt.{Halt}
use Rattle.expr_nodes.specs.declared.make.Read.{Read}
use Rattle.expr_nodes.specs.ReadIn.{AreBound, Fails}
use Rattle.expr_nodes.specs.Ahead.{ahead}

-- reading goes on behind these names and their set: alone they are binds, and before others they are the first group
pub record Grouped (linked : Bool) (v : Tokens) (ts : List Tree) (d : Readers) (e : ℕ) (names : List Name) (set : Read) (i : ℕ) (o : Out Binds) : Type 0 where
  pub place : Place
  pub word : Word
  pub sign : Place
  pub what : Phrase
  pub before : Binds → Binds
  pub is : o ≡ (peek e (bind_rest d e place word sign what) >>= λ bs. gives (before bs)) (ahead v i)
  pub alone : AreBound linked ts (names ∷ []) (set.id ∷ []) set.shape.nesting (before (last_bind place word sign what))
  pub first : (p : Place) (us : List Tree) (gs : List (List Name)) (js : List ℕ) (n : ℕ) (bs : Binds) → Keeps ts us → AreBound linked us gs js n bs
      → AreBound linked us (names ∷ gs) (set.id ∷ js) (max set.shape.nesting n) (before (bind place word sign what p bs))

abbrev pub GroupRead : Bool → Tokens → List Tree → Readers → ℕ → Result (Vec Name Global × Read × ℕ) Halt → Out Binds → Type 0
GroupRead linked v ts d e (Ok x) o = Grouped linked v ts d e x.0.items x.1 x.2 o
GroupRead linked v ts d e (Err w) o = Fails w o
