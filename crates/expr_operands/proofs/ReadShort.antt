-- Short forms are what is read to the right of an operator that binds the tightest, but for forms that begin with a key.
use Rattle.std.proofs.Common.{◌≡◌, ℕ, suc, ◌+◌, ◌-◌, ◌*◌, Bool, true, false, ◌||◌, nat_lt, nat_le, List, length, Option, Some, None, Ok, Err, option_map, refl, sym, ap, ◌∙◌, subst, arith}
use Rattle.tla_token.specs.declared.place.Place.{Place}
use Rattle.tla_token.specs.declared.rule.Rule.TheVariants.{Syntax}
use Rattle.tla_tree.specs.declared.op.Op.{Op}
use Rattle.tla_tree.specs.declared.op.Op.TheVariants as op
use Rattle.tla_tree.specs.Rank.{rank}
use Rattle.tla_tree.specs.Tree.{Word}
use Rattle.tla_tree.specs.Lexical.{TokenView, Token, token}
use Rattle.tla_tree.specs.Lexical as tk
use Rattle.tla_tree.specs.Spelling.{Phrase, prefix_of, infix_of, can_be_right}
use Rattle.tla_tree.specs.Nesting.{chain}
use Rattle.tla_tree.specs.Reader.{Out, Readers, Room, Context, within, less, read_by, then_read, ◌>>=◌, gives, skip, peek, next, tail, free, behind, right_of, goes_on, is_free, room, opened, operand, signed, under_by, short_by, short_signed, prefix_by, climb_by, climb_if}
use Rattle.tla_tree.specs.Whole.{whole_in}
use Rattle.tla_tree.proofs.Limited.{told_ok}
use Rattle.tla_tree.proofs.LimitedAll.{limited}
use Rattle.tla_tree.proofs.Opened.{in_signed}
use Rattle.tla_tree.proofs.SoundLists.{sound}
use Rattle.tla_tree.proofs.SpellAhead.{held}
use Rattle.tla_tree.proofs.Whole.{short_is, expr_is, climb_is}
use Rattle.expr_nodes.specs.declared.view.View.{View}
use Rattle.expr_nodes.specs.declared.view.View.TheVariants as view
use Rattle.expr_nodes.specs.declared.view.Key.{Key}
use Rattle.expr_nodes.specs.ViewSeen.{view_seen}
use Rattle.expr_operands.specs.ShortForms.{under_short}
use Rattle.expr_rows.proofs.ReadLinks.{open_at}

-- ---- nothing binds tighter
tightest : (o : Op) → nat_lt 13 (rank o).0 ≡ false
tightest op.Implies = refl
tightest o = refl

no_further : (a : Phrase) (p : Place) (o : Op) → goes_on 13 a p o ≡ false
no_further a p op.Implies = refl
no_further a p o = refl

module _ (linked : Bool) (b e : ℕ) where
  climb_none : (a : Phrase) (ts : List Token) → (whole_in linked (Some b)).climb e (right_of op.Times) a ts ≡ Ok (a, ts)
  climb_none a ts = climb_is linked (Some b) e (right_of op.Times) a ts ∙ by (next e ts).kind
    where
      by : (k : TokenView) → climb_by (room linked (whole_in linked) (Some b)) (whole_in linked (Some b)) e (right_of op.Times) a (next e ts).place k ts ≡ Ok (a, ts)
      by (tk.sign o) = ap (λ (t : Bool). climb_if t (room linked (whole_in linked) (Some b)) (whole_in linked (Some b)) e (right_of op.Times) a (next e ts).place o ts) (no_further a (next e ts).place o)
      by k = refl

  then_none : (o : Out Phrase) → then_read o (λ a. (whole_in linked (Some b)).climb e (right_of op.Times) a) ≡ o
  then_none (Ok x) = climb_none x.0 x.1
  then_none (Err s) = refl

-- ---- the operands are the same
module _ (m : Room) (r : Readers) (e : ℕ) (p : Place) where
  same_signed : (o : Op) (q : Option Op) (ts : List Token) → signed m r e (right_of op.Times) p o q ts ≡ short_signed m r e p o q ts
  same_signed o (Some q) ts = ap (λ (t : Bool). opened m 0 (λ i d. skip (under_by t d e q >>= λ a. gives (prefix_of p q a))) ts) (tightest q)
  same_signed o None ts = refl

  same_operand : (bytes : List ℕ) (v : View) → ((k : Key) → v ≡ view.Key k → ⊥) → (ts : List Token) → operand m r e (right_of op.Times) p (view_seen bytes v) ts ≡ short_by m r e p (view_seen bytes v) ts
  same_operand bytes (view.Key k) d ts = absurd (d k refl)
  same_operand bytes (view.Sign o) d ts = same_signed o (prefix_by o) ts
  same_operand bytes (view.Word s) d ts = refl
  same_operand bytes (view.Reserved s) d ts = refl
  same_operand bytes (view.Number k) d ts = refl
  same_operand bytes (view.BigNumber s) d ts = refl
  same_operand bytes (view.Quote s) d ts = refl
  same_operand bytes (view.Constant k) d ts = refl
  same_operand bytes (view.Mark k) d ts = refl
  same_operand bytes (view.Other s) d ts = refl

module _ (linked : Bool) (bytes : List ℕ) (b e : ℕ) (ts : List Token) (p : Place) (v : View) (n : token p (view_seen bytes v) ≡ next e ts) where
  pub short_is_expr : ((k : Key) → v ≡ view.Key k → ⊥) → (whole_in linked (Some b)).short e ts ≡ (whole_in linked (Some b)).expr e (right_of op.Times) ts
  short_is_expr d =
      let m = room linked (whole_in linked) (Some b) in
      let r = whole_in linked (Some b) in
      short_is linked (Some b) e ts
      ∙ ap (λ (t : Token). short_by m r e t.place t.kind ts) (sym n)
      ∙ sym (same_operand m r e p bytes v d ts)
      ∙ ap (λ (t : Token). operand m r e (right_of op.Times) t.place t.kind ts) n
      ∙ sym (then_none _ b e (operand m r e (right_of op.Times) (next e ts).place (next e ts).kind ts))
      ∙ sym (expr_is linked (Some b) e (right_of op.Times) ts)

  pub short_at_key : (k : Key) → v ≡ view.Key k → (whole_in linked (Some b)).short e ts ≡ Err (Syntax, ts)
  short_at_key k is =
      short_is linked (Some b) e ts
      ∙ ap (λ (t : Token). short_by (room linked (whole_in linked) (Some b)) (whole_in linked (Some b)) e t.place t.kind ts) (sym n)
      ∙ ap (λ (v : View). short_by (room linked (whole_in linked) (Some b)) (whole_in linked (Some b)) e p (view_seen bytes v) ts) is

  -- an operand behind `x \in` is read there too, where it is no prefix operator
  tight : (v : View) → token p (view_seen bytes v) ≡ next e ts → operand (room linked (whole_in linked) (Some b)) (whole_in linked (Some b)) e free p (view_seen bytes v) ts ≡ operand (room linked (whole_in linked) (Some b)) (whole_in linked (Some b)) e (right_of op.Times) p (view_seen bytes v) ts
      → peek e (operand (room linked (whole_in linked) (Some b)) (whole_in linked (Some b)) e free) ts ≡ (whole_in linked (Some b)).expr e (right_of op.Times) ts
  tight v n h =
      let m = room linked (whole_in linked) (Some b) in
      let r = whole_in linked (Some b) in
      ap (λ (t : Token). operand m r e free t.place t.kind ts) (sym n)
      ∙ h
      ∙ ap (λ (t : Token). operand m r e (right_of op.Times) t.place t.kind ts) n
      ∙ sym (then_none _ b e (operand m r e (right_of op.Times) (next e ts).place (next e ts).kind ts))
      ∙ sym (expr_is linked (Some b) e (right_of op.Times) ts)

  pub tight_other : ((o : Op) → v ≡ view.Sign o → ⊥) → peek e (operand (room linked (whole_in linked) (Some b)) (whole_in linked (Some b)) e free) ts ≡ (whole_in linked (Some b)).expr e (right_of op.Times) ts
  tight_other d = tight v n (by v d)
    where
      by : (v : View) → ((o : Op) → v ≡ view.Sign o → ⊥) → operand (room linked (whole_in linked) (Some b)) (whole_in linked (Some b)) e free p (view_seen bytes v) ts ≡ operand (room linked (whole_in linked) (Some b)) (whole_in linked (Some b)) e (right_of op.Times) p (view_seen bytes v) ts
      by (view.Sign o) d = absurd (d o refl)
      by (view.Word s) d = refl
      by (view.Reserved s) d = refl
      by (view.Number k) d = refl
      by (view.BigNumber s) d = refl
      by (view.Quote s) d = refl
      by (view.Constant k) d = refl
      by (view.Mark m) d = refl
      by (view.Key k) d = refl
      by (view.Other s) d = refl

  pub tight_sign : (o : Op) → v ≡ view.Sign o → prefix_by o ≡ None → peek e (operand (room linked (whole_in linked) (Some b)) (whole_in linked (Some b)) e free) ts ≡ (whole_in linked (Some b)).expr e (right_of op.Times) ts
  tight_sign o is h =
      let m = room linked (whole_in linked) (Some b) in
      let r = whole_in linked (Some b) in
      tight (view.Sign o) (subst (λ (v : View). token p (view_seen bytes v) ≡ next e ts) is n)
      (ap (λ (q : Option Op). signed m r e free p o q ts) h ∙ sym (ap (λ (q : Option Op). signed m r e (right_of op.Times) p o q ts) h))

-- ---- and such an operand groups nothing from the left
abbrev out_chain : Out Phrase → ℕ
out_chain (Ok x) = chain x.0
out_chain (Err s) = 0

pub plain_out : {o : Out Phrase} {a : Phrase} {us : List Token} → out_chain o ≡ 0 → o ≡ Ok (a, us) → chain a ≡ 0
plain_out h i = sym (ap out_chain i) ∙ h

fits_plain : (a : Phrase) → can_be_right op.Times a ≡ true → chain a ≡ 0
fits_plain (infix_of a p o b) h = (let no : false ≡ true = sym (ap (λ (t : Bool). t || (false || false)) (tightest o)) ∙ h in absurd cc)
fits_plain a h = refl

pub tight_plain : (linked : Bool) (b e : ℕ) (ts : List Token) → out_chain ((whole_in linked (Some b)).expr e (right_of op.Times) ts) ≡ 0
tight_plain linked b e ts = by ((whole_in linked (Some b)).expr e (right_of op.Times) ts) refl
  where
    by : (o : Out Phrase) → (whole_in linked (Some b)).expr e (right_of op.Times) ts ≡ o → out_chain o ≡ 0
    by (Ok x) h =
        let n = suc (suc (4 * length ts)) in
        let w = told_ok ((limited linked b n 0 b (omega arith)).expr e (right_of op.Times) refl (λ u. u) held ts) h in
        fits_plain x.0 ((sound n).expr e (right_of op.Times) ts x.0 x.1 w.0).1
    by (Err s) h = refl

pub signed_plain : (linked : Bool) (b e : ℕ) (c : Context) (p : Place) (o q : Op) (ts : List Token) → out_chain (signed (room linked (whole_in linked) (Some b)) (whole_in linked (Some b)) e c p o (Some q) ts) ≡ 0
signed_plain linked b e c p o q ts = by (nat_le 1 b)
  where
    after : (o : Out Phrase) → out_chain (then_read o (λ a. gives (prefix_of p q a))) ≡ 0
    after (Ok x) = refl
    after (Err s) = refl

    by : (t : Bool) → out_chain (read_by (option_map (whole_in linked) (less t b 1)) (in_signed e c p q (within 0 (room linked (whole_in linked) (Some b)))) ts) ≡ 0
    by true = after (under_by (is_free c q) (whole_in linked (Some (b - 1))) e q (tail ts))
    by false = refl

module _ (linked : Bool) (b e : ℕ) (ts : List Token) where
  plain_tight : out_chain (operand (room linked (whole_in linked) (Some b)) (whole_in linked (Some b)) e (right_of op.Times) (next e ts).place (next e ts).kind ts) ≡ 0
  plain_tight = ap out_chain (sym (then_none _ b e (operand (room linked (whole_in linked) (Some b)) (whole_in linked (Some b)) e (right_of op.Times) (next e ts).place (next e ts).kind ts)) ∙ sym (expr_is linked (Some b) e (right_of op.Times) ts)) ∙ tight_plain _ b e ts

  pub first_plain : out_chain (peek e (operand (room linked (whole_in linked) (Some b)) (whole_in linked (Some b)) e free) ts) ≡ 0
  first_plain = by (next e ts).kind refl
    where
      by_sign : (o : Op) → (next e ts).kind ≡ tk.sign o → (q : Option Op) → prefix_by o ≡ q → out_chain (signed (room linked (whole_in linked) (Some b)) (whole_in linked (Some b)) e free (next e ts).place o q ts) ≡ 0
      by_sign o h (Some q) g = signed_plain linked b e free (next e ts).place o q ts
      by_sign o h None g =
          ap (λ (q : Option Op). out_chain (signed (room linked (whole_in linked) (Some b)) (whole_in linked (Some b)) e (right_of op.Times) (next e ts).place o q ts)) (sym g)
          ∙ ap (λ (k : TokenView). out_chain (operand (room linked (whole_in linked) (Some b)) (whole_in linked (Some b)) e (right_of op.Times) (next e ts).place k ts)) (sym h)
          ∙ plain_tight

      by : (k : TokenView) → (next e ts).kind ≡ k → out_chain (operand (room linked (whole_in linked) (Some b)) (whole_in linked (Some b)) e free (next e ts).place k ts) ≡ 0
      by (tk.sign o) h = by_sign o h (prefix_by o) refl
      by k h = ap (λ (k : TokenView). out_chain (operand (room linked (whole_in linked) (Some b)) (whole_in linked (Some b)) e (right_of op.Times) (next e ts).place k ts)) (sym h) ∙ plain_tight

  -- behind `x \in` an operand is as a free one
  pub behind_is : (p : Place) (x : Word) (q : Place) → (whole_in linked (Some b)).expr e (behind p x q) ts ≡ then_read (peek e (operand (room linked (whole_in linked) (Some b)) (whole_in linked (Some b)) e free) ts) (λ a. (whole_in linked (Some b)).climb e (behind p x q) a)
  behind_is p x q = expr_is linked (Some b) e (behind p x q) ts ∙ ap (λ (o : Out Phrase). then_read o (λ a. (whole_in linked (Some b)).climb e (behind p x q) a)) (by (next e ts).kind)
    where
      by_sign : (o : Op) (s : Option Op) → signed (room linked (whole_in linked) (Some b)) (whole_in linked (Some b)) e (behind p x q) (next e ts).place o s ts ≡ signed (room linked (whole_in linked) (Some b)) (whole_in linked (Some b)) e free (next e ts).place o s ts
      by_sign o (Some s) = refl
      by_sign o None = refl

      by : (k : TokenView) → operand (room linked (whole_in linked) (Some b)) (whole_in linked (Some b)) e (behind p x q) (next e ts).place k ts ≡ operand (room linked (whole_in linked) (Some b)) (whole_in linked (Some b)) e free (next e ts).place k ts
      by (tk.sign o) = by_sign o (prefix_by o)
      by k = refl

pub short_more : (linked : Bool) (b e : ℕ) (c : Context) (p : Place) (q : Op) (ts us : List Token) (d : ℕ) → is_free c q ≡ false → d + 1 ≡ b → us ≡ tail ts
    → signed (room linked (whole_in linked) (Some b)) (whole_in linked (Some b)) e c p q (Some q) ts ≡ under_short (whole_in linked (Some d)) e p q us
short_more linked b e c p q ts us d f l t =
    open_at d 0 b l (in_signed e c p q) ts
    ∙ ap (λ (free : Bool). then_read (under_by free (whole_in linked (Some d)) e q (tail ts)) (λ a. gives (prefix_of p q a))) f
    ∙ ap (under_short (whole_in linked (Some d)) e p q) (sym t)
