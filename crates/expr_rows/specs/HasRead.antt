-- What is told of an expression that was read.
use Rattle.std.specs.Prelude.{◌≡◌, ℕ, ◌<◌, ◌≤◌, Bool, ◌&&◌, not, List, length, IfOk, Result, Ok, Err, Option, Some, None}
use Rattle.std.specs.Borrow.{MutBor}
use Rattle.tla_token.specs.declared.token.Tokens.{Tokens}
use Rattle.tla_tree.specs.Tree.{Tree, Word}
use Rattle.tla_tree.specs.Pool.{Keeps}
use Rattle.tla_token.specs.declared.place.Place.{Place}
use Rattle.tla_tree.specs.Lexical.{Mark, Token}
use Rattle.tla_tree.specs.Lexical as tk
use Rattle.tla_tree.specs.declared.op.Op.{Op}
use Rattle.tla_tree.specs.Spelling.{Phrase, takes_box, apply, select, brackets, call, tuple, prefix_of, functions, filter, cases, local}
use Rattle.tla_tree.specs.Reader.{Out, Reader, Readers, ◌>>=◌, gives, ended, next, take, bullet_of, is_mark, a_mark, a_key, a_field, free, under}
use Rattle.tla_tree.specs.Whole.{whole_in}
use Rattle.expr_nodes.specs.declared.cursor.Halt.{Halt}
use Rattle.expr_nodes.specs.declared.make.Read.{Read}
use Rattle.expr_nodes.specs.declared.shape.Context.{Context}
use Rattle.expr_nodes.specs.declared.spot.Spot.{Spot}
use Rattle.expr_nodes.specs.ShapeOf.{context_seen}
use Rattle.expr_nodes.specs.ReadIn.{IsIn, Told, Fails}
use Rattle.expr_nodes.specs.Ahead.{ahead}

-- it is in the pool as the phrase that the reader reads, and opens n forms at most; what is left begins no earlier
pub record HasRead (linked : Bool) (v : Tokens) (old new : List Tree) (from n : ℕ) (r : Result (Read × ℕ) Halt) (o : Out Phrase) : Type 0 where
  pub read : Told (λ (x : Read × ℕ) a. IsIn linked new x.0 a) (λ x. ahead v x.1) r o
  pub kept : Keeps old new
  pub within : IfOk r (λ x. x.0.id < length new)
  pub small : IfOk r (λ x. x.0.shape.nesting ≤ n)
  pub inside : IfOk r (λ x. x.1 ≤ length v.items.items)
  pub further : IfOk r (λ x. from ≤ x.1)

-- so is an expression there
abbrev pub ReadsThere : Tokens → List Tree → List Tree → Context → Spot → Result (Read × ℕ) Halt → Type 0
ReadsThere v old new c s r = HasRead s.linked v old new s.at s.left r ((whole_in s.linked (Some s.left)).expr s.edge (context_seen c) (ahead v s.at))

-- it may be called where fewer than n forms may open
abbrev pub CanRead : Tokens → ℕ → (MutBor (List Tree) → Context → Spot → Type 0) → Type 0
CanRead v n pre = (p : MutBor (List Tree)) (c : Context) (s : Spot) → s.left < n → s.at ≤ length v.items.items → pre p c s

-- and reads an expression then
abbrev pub ReadsBelow : Tokens → ℕ → (MutBor (List Tree) → Context → Spot → Result (Read × ℕ) Halt → MutBor (List Tree) → Type 0) → Type 0
ReadsBelow v n post = (p q : MutBor (List Tree)) (c : Context) (s : Spot) (r : Result (Read × ℕ) Halt) → s.left < n → s.at ≤ length v.items.items → post p c s r q → ReadsThere v p.now q.now c s r

-- ---- after an expression so far
-- where it has grown to, and from where it is read on
pub record GrowsTo (linked : Bool) (v : Tokens) (new : List Tree) (x : Read) (i : ℕ) (on : Phrase → Reader Phrase) (o : Out Phrase) : Type 0 where
  pub what : Phrase
  pub told : IsIn linked new x what
  pub is : o ≡ on what (ahead v i)

-- one step further, or none
abbrev pub Steps : Bool → Tokens → List Tree → (Phrase → Reader Phrase) → Phrase → List Token → Result (Option (Read × ℕ)) Halt → Out Phrase → Type 0
Steps linked v new on a ts (Ok (Some x)) o = GrowsTo linked v new x.0 x.1 on o
Steps linked v new on a ts (Ok None) o = o ≡ Ok (a, ts)
Steps linked v new on a ts (Err e) o = Fails e o

-- what is known of an expression whatever it was read of
abbrev pub Stands : Tokens → List Tree → ℕ → ℕ → Read × ℕ → Type 0
Stands v new from n x = (x.0.id < length new) × (x.0.shape.nesting ≤ n) × (x.1 ≤ length v.items.items) × (from ≤ x.1)

-- after an expression: `xs]` behind `[`, and `f` behind `.`
abbrev pub applied : Readers → ℕ → Phrase → Place → Reader Phrase
applied d e a p = d.phrases e >>= λ xs. a_mark e tk.close_square >>= λ q. gives (apply a p xs q)

abbrev pub selected : ℕ → Phrase → Place → Reader Phrase
selected e a p = a_field e >>= λ f. gives (select a p f)

-- ---- behind the first token of a form
abbrev pub bracketed : Readers → ℕ → Place → Reader Phrase
bracketed d e p = d.expr e free >>= λ a. a_mark e tk.close_bracket >>= λ q. gives (brackets p a q)

abbrev pub called : Readers → ℕ → Place → Word → Place → Reader Phrase
called d e p x q = d.phrases e >>= λ xs. ended e tk.close_bracket (λ s. call p x q xs s)

abbrev pub tupled : Readers → ℕ → Place → Reader Phrase
tupled d e p = d.phrases e >>= λ xs. ended e tk.close_tuple (λ s. tuple p xs s)

abbrev pub under_prefix : Readers → ℕ → Place → Op → Reader Phrase
under_prefix d e p q = d.expr e (under q) >>= λ a. gives (prefix_of p q a)

-- behind `->` after a set
abbrev pub mapped_to : Readers → ℕ → Place → Phrase → Place → Reader Phrase
mapped_to d e p a q = d.expr e free >>= λ b. ended e tk.close_square (λ s. functions p a q b s)

-- behind `:` after a name, `\in` and a set
abbrev pub filtered : Readers → ℕ → Place → Place → Word → Place → Phrase → Place → Reader Phrase
filtered d e p q x s a t = d.expr e free >>= λ b. ended e tk.close_brace (λ u. filter p q x s a t b u)

-- ---- in lists
-- an expression behind this mark
abbrev pub behind_mark : Readers → ℕ → Mark → Reader (Place × Phrase)
behind_mark d e m = a_mark e m >>= λ p. d.expr e free >>= λ a. gives (p, a)

-- a test, and behind `->` what is the value then
abbrev pub one_arm : Readers → ℕ → Reader (Phrase × Place × Phrase)
one_arm d e = d.expr e free >>= λ a. behind_mark d e tk.arrow >>= λ x. gives (a, x.0, x.1)

-- a `[]` is next, and no CASE in the phrase takes it
abbrev pub is_arm_next : ℕ → Phrase → List Token → Bool
is_arm_next e a ts = is_mark tk.box (next e ts).kind && not (takes_box (next e ts).place.col a)

-- a bullet in this column with its item
abbrev pub one_item : Readers → ℕ → Op → ℕ → Reader (Place × Phrase)
one_item d e o c = take e (bullet_of o c) >>= λ p. d.expr c free >>= λ a. gives (p, a)

-- ---- behind the first tokens of forms over lists
abbrev pub cased : Readers → ℕ → Place → Reader Phrase
cased d e p = d.arms e >>= λ xs. gives (cases p xs)

abbrev pub defined : Readers → ℕ → Place → Reader Phrase
defined d e p = d.locals e >>= λ ls. a_key e tk.in_key >>= λ q. d.expr e free >>= λ a. gives (local p ls q a)
