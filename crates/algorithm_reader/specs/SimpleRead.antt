-- What code that reads left sides, assignments and simple statements gives, beside what their readers give of the same tokens.
use Rattle.std.specs.Prelude.{◌≡◌, ℕ, ◌<◌, List, length, map, Vec, Option, Some, None, Result, Ok, Err}
use Rattle.std.specs.declared.alloc.Global.{Global}
use Rattle.tla_token.specs.declared.place.Place.{Place}
use Rattle.tla_token.specs.declared.token.Tokens.{Tokens}
use Rattle.tla_tree.specs.Tree.{Tree}
use Rattle.tla_tree.specs.Pool.{at}
use Rattle.tla_tree.specs.Lexical.{TokenView}
use Rattle.tla_tree.specs.Lexical as tk
use Rattle.tla_tree.specs.Spelling.{Phrase, tree_of, start}
use Rattle.tla_tree.specs.Spelling as spelled
use Rattle.tla_tree.specs.Reader.{Reader, ◌>>=◌, gives, refuses, skip, peek, a_word, a_field}
use Rattle.tla_tree.specs.Reader as expression
use Rattle.tla_tree.specs.Nesting.{greatest}
use Rattle.expr_nodes.specs.declared.cursor.Halt.{Halt}
use Rattle.expr_nodes.specs.ReadIn.{Fails}
use Rattle.expr_nodes.specs.Ahead.{ahead}
use Rattle.pcal_tree.specs.declared.algorithm.Assignment.{Assignment}
use Rattle.pcal_tree.specs.InMemory.{assignments_at, past_assignment}
use Rattle.pcal_tree.specs.Algorithm as tree
use Rattle.pcal_tree.specs.GrammarParts.{Assignments, Simple}
use Rattle.syntax_reading.specs.TokenReaders.{by_next, a_mark, a_name, pick, Parts}
use Rattle.syntax_reading.specs.ReadSimple.{left_by, read_left, read_assignments, named_by, simple_words}

-- ---- left sides
-- from the name on
abbrev pub left_reader : Parts → ℕ → Reader Phrase
left_reader m n = a_word 0 >>= λ x. read_left m n (spelled.name x.0 x.1)

-- `a, b]` behind a left side and `[`, and `f` behind one and `.`
abbrev pub subscripted : Parts → Phrase → Place → Reader Phrase
subscripted m a p = m.subscripts >>= λ xs. expression.a_mark 0 tk.close_square >>= λ q. gives (spelled.apply a p xs q)

abbrev pub selected : Phrase → Place → Reader Phrase
selected a p = a_field 0 >>= λ f. gives (spelled.select a p f)

-- the number has the tree of a left side that begins at a place
pub record LeftStands (p : Place) (ts : List Tree) (i : ℕ) (a : Phrase) : Type 0 where
  pub below : i < length ts
  pub tree : at ts i ≡ tree_of a
  pub starts : start a ≡ p

-- one subscript or field more, with which reading goes on whatever is read from there; or none; or where it is refused
pub record LinkOn (m : Parts) (v : Tokens) (p : Place) (ts : List Tree) (a : Phrase) (i x j : ℕ) : Type 0 where
  pub what : Phrase
  pub stands : LeftStands p ts x what
  pub goes : (r : Phrase → Reader Phrase) → peek 0 (left_by m r a) (ahead v i) ≡ r what (ahead v j)

abbrev pub Linked : Parts → Tokens → Place → List Tree → Phrase → ℕ → Result (Option (ℕ × ℕ)) Halt → Type 0
Linked m v p ts a i (Ok (Some x)) = LinkOn m v p ts a i x.0 x.1
Linked m v p ts a i (Ok None) = (r : Phrase → Reader Phrase) → peek 0 (left_by m r a) (ahead v i) ≡ Ok (a, ahead v i)
Linked m v p ts a i (Err e) = (r : Phrase → Reader Phrase) → Fails e (peek 0 (left_by m r a) (ahead v i))

-- ---- assignments, from the name of the first on
abbrev pub assignment_reader : Parts → ℕ → Reader (Phrase × (Place × Phrase))
assignment_reader m n = left_reader m n >>= λ l. a_mark tk.assigns >>= λ p. m.expr >>= λ e. gives (l, (p, e))

abbrev pub assignments_reader : Parts → ℕ → Reader Assignments
assignments_reader m n = a_word 0 >>= λ x. read_assignments m n (spelled.named x.0 x.1)

abbrev pub assignment_at : List Tree → Assignment → Tree × Tree
assignment_at ts a = (at ts a.left, at ts a.right)

abbrev pub first_assigned : Phrase × (Place × Phrase) → Tree × Tree
first_assigned z = (tree_of z.0, tree_of z.1.1)

abbrev pub all_assigned_at : List Tree → Vec Assignment Global → tree.Assignments
all_assigned_at ts ms = assignments_at ts ms.items

abbrev pub past_all_assigned : Vec Assignment Global → ℕ
past_all_assigned ms = greatest (map past_assignment ms.items)

-- ---- simple statements, from their first token on
abbrev pub simple_by : Parts → ℕ → Place → TokenView → Reader Simple
simple_by m n p (tk.word x) = skip (by_next (named_by m n (record { place = p; word = x })))
simple_by m n p (tk.reserved w) = pick w (simple_words m p) refuses
simple_by m n p k = refuses

abbrev pub simple_reader : Parts → ℕ → Reader Simple
simple_reader m n = by_next (simple_by m n)

-- after its first name, or by its first word
abbrev pub named_reader : Parts → ℕ → Reader Simple
named_reader m n = a_name >>= λ x. by_next (named_by m n x)

abbrev pub keyed_by : Parts → Place → TokenView → Reader Simple
keyed_by m p (tk.reserved w) = pick w (simple_words m p) refuses
keyed_by m p k = refuses

abbrev pub keyed_reader : Parts → Reader Simple
keyed_reader m = by_next (keyed_by m)
