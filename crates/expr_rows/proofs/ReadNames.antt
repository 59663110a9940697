-- What a name begins: a call, a primed name, or itself.
use Rattle.std.proofs.Common.{Bool, ◌≡◌, ℕ, ◌≤◌, ◌<◌, true, List, IfOk, Result, Ok, Err, Some, length, sym, ap, ◌∙◌, arith}
use Rattle.tla_token.specs.declared.place.Place.{Place}
use Rattle.tla_token.specs.declared.token.Tokens.{Tokens}
use Rattle.tla_tree.specs.Tree.{Tree, Word}
use Rattle.tla_tree.specs.Lexical.{Mark, TokenView, Token}
use Rattle.tla_tree.specs.Lexical as tk
use Rattle.tla_tree.specs.Pool.{Keeps}
use Rattle.tla_tree.specs.Spelling.{Phrase, primed}
use Rattle.tla_tree.specs.Reader.{Out, Reader, then_read, next, tail, is_mark, room, named}
use Rattle.tla_tree.specs.Whole.{whole_in}
use Rattle.tla_tree.proofs.PoolNumbers.{Keeps-then}
use Rattle.tla_tree.proofs.SoundTokens.{mark_is}
use Rattle.expr_nodes.specs.declared.cursor.Halt.{Halt}
use Rattle.expr_nodes.specs.declared.make.Read.{Read}
use Rattle.expr_nodes.specs.ReadIn.{IsIn, Told}
use Rattle.expr_nodes.specs.Ahead.{ahead}
use Rattle.expr_rows.specs.HasRead.{HasRead, Stands}
use Rattle.expr_rows.proofs.ReadCode.{told_after}

-- ---- a primary, and then what comes after it
apart : (v : Tokens) (new : List Tree) (from i n : ℕ) (r : Result (Read × ℕ) Halt) → from ≤ i → IfOk r (λ y. Stands v new i n y)
    → IfOk r (λ y. y.0.id < length new) × IfOk r (λ y. y.0.shape.nesting ≤ n) × IfOk r (λ y. y.1 ≤ length v.items.items) × IfOk r (λ y. from ≤ y.1)
apart v new from i n (Ok y) l h = (h.0, h.1, h.2, omega (arith, l, h.3))
apart v new from i n (Err e) l h = (tt, tt, tt, tt)

pub read_on : {linked : Bool} (v : Tokens) (old mid new : List Tree) (from i n : ℕ) (x : Read) (r : Result (Read × ℕ) Halt) (o : Out Phrase) (f : Phrase → Reader Phrase) → HasRead linked v old mid from n (Ok (x, i)) o → Keeps mid new
    → ((a : Phrase) → IsIn linked mid x a → Told (λ (y : Read × ℕ) b. IsIn linked new y.0 b) (λ y. ahead v y.1) r (f a (ahead v i))) → IfOk r (λ y. Stands v new i n y) → HasRead linked v old new from n r (then_read o f)
read_on {linked} v old mid new from i n x r o f h k g s =
    let all = apart v new from i n r h.further s in
    record {
      read = told_after (λ (y : Read × ℕ) b. IsIn linked new y.0 b) (λ y. ahead v y.1) r o f h.read g;
      kept = Keeps-then _ _ _ h.kept k;
      within = all.0;
      small = all.1;
      inside = all.2;
      further = all.3;
    }

module _ (linked : Bool) (b e : ℕ) (p : Place) (x : Word) (ts : List Token) where
  abbrev pub from_here : Out Phrase
  from_here = named (room linked (whole_in linked) (Some b)) e p x (next e ts).place (next e ts).kind ts

  at_mark : (m : Mark) → is_mark m (next e ts).kind ≡ true → from_here ≡ named (room linked (whole_in linked) (Some b)) e p x (next e ts).place (tk.mark m) ts
  at_mark m h = ap (λ (k : TokenView). named (room linked (whole_in linked) (Some b)) e p x (next e ts).place k ts) (mark_is m (next e ts).kind h)

  pub prime_more : is_mark tk.prime (next e ts).kind ≡ true → (us : List Token) → us ≡ tail ts → from_here ≡ Ok (primed p x (next e ts).place, us)
  prime_more h us t = at_mark tk.prime h ∙ ap (λ (us : List Token). Ok (primed p x (next e ts).place, us)) (sym t)
