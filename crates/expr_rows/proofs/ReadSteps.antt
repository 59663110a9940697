-- The readers' steps, as the code takes them: by the next token, and by how many forms may still open.
use Rattle.std.proofs.Common.{◌≡◌, ℕ, suc, ◌-◌, ◌≤◌, Bool, true, false, ◌||◌, List, Option, Some, Ok, Err, refl, sym, ap, ◌∙◌}
use Rattle.tla_token.specs.declared.place.Place.{Place}
use Rattle.tla_token.specs.declared.rule.Rule.TheVariants.{TooDeep}
use Rattle.tla_tree.specs.declared.op.Op.{Op}
use Rattle.expr_nodes.specs.declared.shape.Context as code
use Rattle.expr_nodes.specs.declared.shape.Context.TheVariants as context
use Rattle.tla_tree.specs.Lexical.{TokenView, Token, token}
use Rattle.tla_tree.specs.Lexical as tk
use Rattle.tla_tree.specs.Nesting.{chain}
use Rattle.tla_tree.specs.Spelling.{Phrase, infix_of}
use Rattle.expr_nodes.specs.ShapeOf.{context_seen}
use Rattle.tla_tree.specs.Reader.{Reader, Room, room, then_read, next, tail, right_of, bound, goes_on, so_far, climb_by, climb_if, opened_after}
use Rattle.tla_tree.specs.Whole.{whole_in}
use Rattle.tla_tree.proofs.Whole.{climb_is}
use Rattle.tla_tree.proofs.Opened.{in_climb}
use Rattle.tla_tree.proofs.Rooms.{opened_is, opened_not}

-- ---- operators
or_true : (t : Bool) → t || true ≡ true
or_true true = refl
or_true false = refl

chain_only : (m : Room) (c : code.Context) (a : Phrase) (p : Place) (o : Op) → so_far m (context_seen c) a p o ≡ Some (chain a)
chain_only m context.Free a p o = rw (or_true (m.fits 0 a)) refl
chain_only m (context.RightOf q) a p o = rw (or_true (m.fits 0 a)) refl
chain_only m (context.Under q) a p o = rw (or_true (m.fits 0 a)) refl

module _ (linked : Bool) (b e : ℕ) (c : code.Context) (a : Phrase) (ts : List Token) where
  -- what is to be read, by the next token
  pub climb_at : (p : Place) (k : TokenView) → token p k ≡ next e ts → (whole_in linked (Some b)).climb e (context_seen c) a ts ≡ climb_by (room linked (whole_in linked) (Some b)) (whole_in linked (Some b)) e (context_seen c) a p k ts
  climb_at p k n = climb_is linked (Some b) e (context_seen c) a ts ∙ ap (λ (t : Token). climb_by (room linked (whole_in linked) (Some b)) (whole_in linked (Some b)) e (context_seen c) a t.place t.kind ts) (sym n)

  pub climb_stops : (p : Place) (o : Op) → token p (tk.sign o) ≡ next e ts → goes_on (bound (context_seen c)) a p o ≡ false → (whole_in linked (Some b)).climb e (context_seen c) a ts ≡ Ok (a, ts)
  climb_stops p o n g = climb_at p (tk.sign o) n ∙ ap (λ (t : Bool). climb_if t (room linked (whole_in linked) (Some b)) (whole_in linked (Some b)) e (context_seen c) a p o ts) g

  climb_goes : (p : Place) (o : Op) → token p (tk.sign o) ≡ next e ts → goes_on (bound (context_seen c)) a p o ≡ true
      → (whole_in linked (Some b)).climb e (context_seen c) a ts ≡ opened_after (room linked (whole_in linked) (Some b)) (Some (chain a)) (in_climb (whole_in linked (Some b)) e (context_seen c) a p o) ts
  climb_goes p o n g =
      climb_at p (tk.sign o) n ∙ ap (λ (t : Bool). climb_if t (room linked (whole_in linked) (Some b)) (whole_in linked (Some b)) e (context_seen c) a p o ts) g
      ∙ ap (λ (k : Option ℕ). opened_after (room linked (whole_in linked) (Some b)) k (in_climb (whole_in linked (Some b)) e (context_seen c) a p o) ts) (chain_only (room linked (whole_in linked) (Some b)) c a p o)

  pub climb_deep : (p : Place) (o : Op) → token p (tk.sign o) ≡ next e ts → goes_on (bound (context_seen c)) a p o ≡ true → b ≤ chain a → (whole_in linked (Some b)).climb e (context_seen c) a ts ≡ Err (TooDeep, ts)
  climb_deep p o n g h = climb_goes p o n g ∙ ap (λ (r : Reader Phrase). r ts) (opened_not linked (whole_in linked) (chain a) b (in_climb (whole_in linked (Some b)) e (context_seen c) a p o) h)

  pub climb_more : (p : Place) (o : Op) → token p (tk.sign o) ≡ next e ts → goes_on (bound (context_seen c)) a p o ≡ true → suc (chain a) ≤ b
      → (whole_in linked (Some b)).climb e (context_seen c) a ts ≡ then_read ((whole_in linked (Some (b - suc (chain a)))).expr e (right_of o) (tail ts)) (λ s. (whole_in linked (Some b)).climb e (context_seen c) (infix_of a p o s))
  climb_more p o n g h = climb_goes p o n g ∙ ap (λ (r : Reader Phrase). r ts) (opened_is linked (whole_in linked) (chain a) b h (in_climb (whole_in linked (Some b)) e (context_seen c) a p o))
