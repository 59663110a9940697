-- Which token ends a phrase where it is.
use Rattle.std.proofs.Common.{◌≡◌, ℕ, ◌<◌, ◌≤◌, ◌⊎◌, nat_eq, Bool, true, false, not, ◌&&◌, ◌||◌, nat_lt, zero, suc, List, [], ◌∷◌, Option, Some, None, refl, sym, ap, ◌∙◌, arith, MatchBool, inl, inr}
use Rattle.std.proofs.lemmas.Bool.{and_parts, or_cases, both_ways, eqb-true, ltb-true, le-ltb, lt-ltb, not-true}
use Rattle.tla_token.specs.declared.place.Place.{Place}
use Rattle.tla_tree.specs.declared.op.Op.{Op}
use Rattle.tla_tree.specs.declared.op.Op.TheVariants as op
use Rattle.tla_tree.specs.Rank.{rank, is_prefix, is_associative, same_op, number_of}
use Rattle.tla_tree.specs.Lexical.{TokenView, Token, token, sign_of}
use Rattle.tla_tree.specs.Lexical as tk
use Rattle.tla_tree.specs.Spelling.{Phrase, list, quantified, if_then_else, cases, local, infix_of, prefix_of}
use Rattle.tla_tree.specs.Spelling.{Bullets, last_bullet, bullet, Arms, last_arm, other_arm, arm}
use Rattle.tla_tree.specs.Spelling.{Good, GoodBullets, GoodArms, first_bullet, takes_box, last_takes_box, Right, head, is_above, is_applied, is_short, ends_open, end_list, is_behind, can_be_left, applied, primary, open_form, Head}
use Rattle.tla_tree.specs.Reader.{next, end, is_sign, Context, free, right_of, under, behind, bound, fits, is_free}
pub use Rattle.tla_tree.specs.laws.Following.{is_calm, Calm}
use Rattle.tla_tree.proofs.ReadSoon.{is_tail, NoTail, Stays, goes_by}

-- None: a short form
abbrev pub free_in : Option Context → Op → Bool
free_in None q = false
free_in (Some c) q = is_free c q

abbrev pub is_box : TokenView → Bool
is_box (tk.mark tk.box) = true
is_box k = false

-- no further bullet of this list
abbrev pub ListEnds : ℕ → Op → ℕ → List Token → Type 0
ListEnds e o c ts = (is_sign o (next e ts).kind && nat_eq c (next e ts).place.col) ≡ false

-- before these tokens nothing within the phrase goes on
abbrev mutual
  pub Stops : ℕ → Option Context → Phrase → List Token → Type 0
  Stops e d (quantified b p bs q a) ts = Stops e (Some free) a ts × Stays e 0 a ts
  Stops e d (if_then_else p a q b r c) ts = Stops e (Some free) c ts × Stays e 0 c ts
  Stops e d (local p ls q a) ts = Stops e (Some free) a ts × Stays e 0 a ts
  Stops e d (infix_of a p o b) ts = Stops e (Some (right_of o)) b ts × Stays e (rank o).1 b ts
  Stops e d (prefix_of p o a) ts = MatchBool (free_in d o) (Stops e (Some (under o)) a ts × Stays e (rank o).1 a ts) (Stops e None a ts)
  Stops e d (list o bs) ts = NoTail e ts × ListEnds e o (first_bullet bs).col ts × BulletsStop (first_bullet bs).col bs ts
  Stops e d (cases p xs) ts = ArmsStop e xs ts
  Stops e d a ts = NoTail e ts

  pub BulletsStop : ℕ → Bullets → List Token → Type 0
  BulletsStop c (last_bullet p a) ts = Stops c (Some free) a ts × Stays c 0 a ts
  BulletsStop c (bullet p a bs) ts = BulletsStop c bs ts

  pub ArmsStop : ℕ → Arms → List Token → Type 0
  ArmsStop e (last_arm a p b) ts = Stops e (Some free) b ts × Stays e 0 b ts × (is_box (next e ts).kind ≡ false)
  ArmsStop e (other_arm a p b q r s c) ts = Stops e (Some free) c ts × Stays e 0 c ts
  ArmsStop e (arm a p b q xs) ts = ArmsStop e xs ts

calm_tail : (k : TokenView) → is_calm k ≡ true → is_tail k ≡ false
calm_tail (tk.sign o) h = refl
calm_tail (tk.mark tk.box) h = refl
calm_tail k h = not-true (is_tail k) h

calm_by : (b : ℕ) (a : Phrase) (p : Place) (k : TokenView) → is_calm k ≡ true → goes_by b a p k ≡ false
calm_by b a p (tk.sign o) h = absurd cc
calm_by b a p k h = refl

calm_bullet : (o : Op) (b : Bool) (k : TokenView) → is_calm k ≡ true → (is_sign o k && b) ≡ false
calm_bullet o b (tk.sign q) h = absurd cc
calm_bullet o b k h = refl

calm_box : (k : TokenView) → is_calm k ≡ true → is_box k ≡ false
calm_box (tk.mark tk.box) h = absurd cc
calm_box k h = refl

pub calm_stays : (e b : ℕ) (a : Phrase) (ts : List Token) → Calm e ts → Stays e b a ts
calm_stays e b a ts h = calm_by b a (next e ts).place (next e ts).kind h

either : {P Q : Type 0} (b : Bool) → P → Q → MatchBool b P Q
either true p q = p
either false p q = q

-- further right, less is seen
pub calm_right : (e c : ℕ) (ts : List Token) → nat_lt e c ≡ true → Calm e ts → Calm c ts
calm_right e c [] l h = refl
calm_right e c (t ∷ ts) l h = by (nat_lt c t.place.col) refl
  where
    by : (b : Bool) → nat_lt c t.place.col ≡ b → Calm c (t ∷ ts)
    by false g = rw g refl
    by true g =
        let low : nat_lt e t.place.col ≡ true = (let x = ltb-true e c l in let y = ltb-true c t.place.col g in lt-ltb e t.place.col (omega arith)) in
        let seen : is_calm t.kind ≡ true = rw low at h in
        rw g seen

mutual
  pub calm_stops : (e : ℕ) (d : Option Context) (a : Phrase) (ts : List Token) → Good e a → Calm e ts → Stops e d a ts
  calm_stops e d (quantified b p bs q a) ts g h = (calm_stops e (Some free) a ts g.3 h, calm_stays e 0 a ts h)
  calm_stops e d (if_then_else p a q b r c) ts g h = (calm_stops e (Some free) c ts g.5 h, calm_stays e 0 c ts h)
  calm_stops e d (local p ls q a) ts g h = (calm_stops e (Some free) a ts g.3 h, calm_stays e 0 a ts h)
  calm_stops e d (infix_of a p o b) ts g h = (calm_stops e (Some (right_of o)) b ts g.5 h, calm_stays e (rank o).1 b ts h)
  calm_stops e d (prefix_of p o a) ts g h = either (free_in d o) (calm_stops e (Some (under o)) a ts g.3 h, calm_stays e (rank o).1 a ts h) (calm_stops e None a ts g.3 h)
  calm_stops e d (list o bs) ts g h = (calm_tail (next e ts).kind h, calm_bullet o (nat_eq (first_bullet bs).col (next e ts).place.col) (next e ts).kind h, calm_bullets (first_bullet bs).col bs ts g.2 (calm_right e (first_bullet bs).col ts g.1 h))
  calm_stops e d (cases p xs) ts g h = calm_arms e xs ts g.1 h
  calm_stops e d a ts g h = calm_tail (next e ts).kind h

  pub calm_bullets : (c : ℕ) (bs : Bullets) (ts : List Token) → GoodBullets c bs → Calm c ts → BulletsStop c bs ts
  calm_bullets c (last_bullet p a) ts g h = (calm_stops c (Some free) a ts g.1 h, calm_stays c 0 a ts h)
  calm_bullets c (bullet p a bs) ts g h = calm_bullets c bs ts g.2 h

  calm_arms : (e : ℕ) (xs : Arms) (ts : List Token) → GoodArms e xs → Calm e ts → ArmsStop e xs ts
  calm_arms e (last_arm a p b) ts g h = (calm_stops e (Some free) b ts g.2 h, calm_stays e 0 b ts h, calm_box (next e ts).kind h)
  calm_arms e (other_arm a p b q r s c) ts g h = (calm_stops e (Some free) c ts g.7 h, calm_stays e 0 c ts h)
  calm_arms e (arm a p b q xs) ts g h = calm_arms e xs ts g.5 h

-- a token that is at the column or left of it is not seen in an item
pub behind_end : (e c : ℕ) (ts : List Token) (p : Place) (k : TokenView) → nat_lt e c ≡ true → next e ts ≡ token p k → nat_lt c p.col ≡ false → next c ts ≡ end
behind_end e c [] p k l s h = refl
behind_end e c (t ∷ ts) p k l s h = by (nat_lt c t.place.col) refl
  where
    by : (b : Bool) → nat_lt c t.place.col ≡ b → next c (t ∷ ts) ≡ end
    by false g = rw g refl
    by true g =
        let low : nat_lt e t.place.col ≡ true = (let x = ltb-true e c l in let y = ltb-true c t.place.col g in lt-ltb e t.place.col (omega arith)) in
        let it : t ≡ token p k = rw low at s in
        let col : nat_lt c t.place.col ≡ nat_lt c p.col = ap (λ (u : Token). nat_lt c u.place.col) it in
        absurd (both_ways (nat_lt c p.col) h (sym col ∙ g))

pub bullets_behind : (e c : ℕ) (bs : Bullets) (ts : List Token) (p : Place) (k : TokenView) → GoodBullets c bs → nat_lt e c ≡ true → next e ts ≡ token p k → nat_lt c p.col ≡ false → BulletsStop c bs ts
bullets_behind e c bs ts p k g l s h = calm_bullets c bs ts g (rw (behind_end e c ts p k l s h) refl)

-- ---- `[]` after a phrase in which no CASE takes it
box_right : (e c : ℕ) (ts : List Token) (p : Place) → nat_lt e c ≡ true → next e ts ≡ token p (tk.mark tk.box) → (nat_lt c p.col ≡ false × Calm c ts) ⊎ (nat_lt c p.col ≡ true × (next c ts ≡ token p (tk.mark tk.box)))
box_right e c ts p l s = by (nat_lt c p.col) refl
  where
    at_right : (us : List Token) → next e us ≡ token p (tk.mark tk.box) → nat_lt c p.col ≡ true → next c us ≡ token p (tk.mark tk.box)
    at_right [] s g = absurd (both_ways (is_box (tk.mark tk.box)) (sym (ap (λ (u : Token). is_box u.kind) s)) refl)
    at_right (t ∷ us) s g = inner (nat_lt e t.place.col) refl
      where
        inner : (b : Bool) → nat_lt e t.place.col ≡ b → next c (t ∷ us) ≡ token p (tk.mark tk.box)
        inner false f = (let bad : end ≡ token p (tk.mark tk.box) = rw f at s in absurd (both_ways (is_box (tk.mark tk.box)) (sym (ap (λ (u : Token). is_box u.kind) bad)) refl))
        inner true f =
            let it : t ≡ token p (tk.mark tk.box) = rw f at s in
            let col : nat_lt c t.place.col ≡ true = ap (λ (u : Token). nat_lt c u.place.col) it ∙ g in
            rw col it

    by : (b : Bool) → nat_lt c p.col ≡ b → (nat_lt c p.col ≡ false × Calm c ts) ⊎ (nat_lt c p.col ≡ true × (next c ts ≡ token p (tk.mark tk.box)))
    by false g = inl (g, rw (behind_end e c ts p (tk.mark tk.box) l s g) refl)
    by true g = inr (g, at_right ts s g)

pub box_stays : (e b : ℕ) (a : Phrase) (ts : List Token) (p : Place) → next e ts ≡ token p (tk.mark tk.box) → Stays e b a ts
box_stays e b a ts p s = rw s refl

mutual
  pub box_stops : (e : ℕ) (d : Option Context) (a : Phrase) (ts : List Token) (p : Place) → Good e a → takes_box p.col a ≡ false → next e ts ≡ token p (tk.mark tk.box) → Stops e d a ts
  box_stops e d (quantified b r bs q a) ts p g h s = (box_stops e (Some free) a ts p g.3 h s, box_stays e 0 a ts p s)
  box_stops e d (if_then_else r a q b t c) ts p g h s = (box_stops e (Some free) c ts p g.5 h s, box_stays e 0 c ts p s)
  box_stops e d (local r ls q a) ts p g h s = (box_stops e (Some free) a ts p g.3 h s, box_stays e 0 a ts p s)
  box_stops e d (infix_of a r o b) ts p g h s = (box_stops e (Some (right_of o)) b ts p g.5 h s, box_stays e (rank o).1 b ts p s)
  box_stops e d (prefix_of r o a) ts p g h s = either (free_in d o) (box_stops e (Some (under o)) a ts p g.3 h s, box_stays e (rank o).1 a ts p s) (box_stops e None a ts p g.3 h s)
  box_stops e d (list o bs) ts p g h s = (rw s refl, rw s refl, box_bullets (first_bullet bs).col bs ts p g.2 h (box_right e (first_bullet bs).col ts p g.1 s))
  box_stops e d (cases r xs) ts p g h s = absurd cc
  box_stops e d a ts p g h s = rw s refl

  box_bullets : (c : ℕ) (bs : Bullets) (ts : List Token) (p : Place) → GoodBullets c bs → (nat_lt c p.col && last_takes_box p.col bs) ≡ false → ((nat_lt c p.col ≡ false × Calm c ts) ⊎ (nat_lt c p.col ≡ true × (next c ts ≡ token p (tk.mark tk.box)))) → BulletsStop c bs ts
  box_bullets c bs ts p g h (inl k) = calm_bullets c bs ts g k.1
  box_bullets c (last_bullet q a) ts p g h (inr k) = (box_stops c (Some free) a ts p g.1 (rw k.0 at h) k.1, box_stays c 0 a ts p k.1)
  box_bullets c (bullet q a bs) ts p g h (inr k) = box_bullets c bs ts p g.2 h (inr k)

-- ---- ranks
pub low_high : (o : Op) → (rank o).0 ≤ (rank o).1
low_high op.Implies = omega arith
low_high op.Equivalent = omega arith
low_high op.And = omega arith
low_high op.Or = omega arith
low_high op.Not = omega arith
low_high op.Equal = omega arith
low_high op.NotEqual = omega arith
low_high op.Less = omega arith
low_high op.Greater = omega arith
low_high op.AtMost = omega arith
low_high op.AtLeast = omega arith
low_high op.In = omega arith
low_high op.NotIn = omega arith
low_high op.SubsetEq = omega arith
low_high op.Override = omega arith
low_high op.MapsTo = omega arith
low_high op.Cup = omega arith
low_high op.Cap = omega arith
low_high op.Without = omega arith
low_high op.Subset = omega arith
low_high op.Union = omega arith
low_high op.Range = omega arith
low_high op.Domain = omega arith
low_high op.Plus = omega arith
low_high op.Modulo = omega arith
low_high op.Minus = omega arith
low_high op.Negate = omega arith
low_high op.Times = omega arith
low_high op.Concat = omega arith
low_high op.Divide = omega arith

some_low : (o : Op) → 0 < (rank o).0
some_low op.Implies = omega arith
some_low op.Equivalent = omega arith
some_low op.And = omega arith
some_low op.Or = omega arith
some_low op.Not = omega arith
some_low op.Equal = omega arith
some_low op.NotEqual = omega arith
some_low op.Less = omega arith
some_low op.Greater = omega arith
some_low op.AtMost = omega arith
some_low op.AtLeast = omega arith
some_low op.In = omega arith
some_low op.NotIn = omega arith
some_low op.SubsetEq = omega arith
some_low op.Override = omega arith
some_low op.MapsTo = omega arith
some_low op.Cup = omega arith
some_low op.Cap = omega arith
some_low op.Without = omega arith
some_low op.Subset = omega arith
some_low op.Union = omega arith
some_low op.Range = omega arith
some_low op.Domain = omega arith
some_low op.Plus = omega arith
some_low op.Modulo = omega arith
some_low op.Minus = omega arith
some_low op.Negate = omega arith
some_low op.Times = omega arith
some_low op.Concat = omega arith
some_low op.Divide = omega arith

nth_op : List Op → ℕ → Op
nth_op [] n = op.Implies
nth_op (o ∷ os) zero = o
nth_op (o ∷ os) (suc n) = nth_op os n

ops : List Op
ops = op.Implies ∷ op.Equivalent ∷ op.And ∷ op.Or ∷ op.Not ∷ op.Equal ∷ op.NotEqual ∷ op.Less ∷ op.Greater ∷ op.AtMost ∷ op.AtLeast ∷ op.In ∷ op.NotIn ∷ op.SubsetEq ∷ op.Override ∷ op.MapsTo ∷ op.Cup ∷ op.Cap ∷ op.Without ∷ op.Subset ∷ op.Union ∷ op.Range ∷ op.Domain ∷ op.Plus ∷ op.Modulo ∷ op.Minus ∷ op.Negate ∷ op.Times ∷ op.Concat ∷ op.Divide ∷ []

op_back : (o : Op) → nth_op ops (number_of o) ≡ o
unfolding nth_op ops
op_back op.Implies = refl
op_back op.Equivalent = refl
op_back op.And = refl
op_back op.Or = refl
op_back op.Not = refl
op_back op.Equal = refl
op_back op.NotEqual = refl
op_back op.Less = refl
op_back op.Greater = refl
op_back op.AtMost = refl
op_back op.AtLeast = refl
op_back op.In = refl
op_back op.NotIn = refl
op_back op.SubsetEq = refl
op_back op.Override = refl
op_back op.MapsTo = refl
op_back op.Cup = refl
op_back op.Cap = refl
op_back op.Without = refl
op_back op.Subset = refl
op_back op.Union = refl
op_back op.Range = refl
op_back op.Domain = refl
op_back op.Plus = refl
op_back op.Modulo = refl
op_back op.Minus = refl
op_back op.Negate = refl
op_back op.Times = refl
op_back op.Concat = refl
op_back op.Divide = refl

pub same_is : (o q : Op) → same_op o q ≡ true → o ≡ q
same_is o q h = sym (op_back o) ∙ ap (λ (n : ℕ). nth_op ops n) (eqb-true (number_of o) (number_of q) h) ∙ op_back q

-- ---- an operator that is seen
pub record Seen (e : ℕ) (p : Place) (o : Op) (ts : List Token) : Type 0 where
  pub seen : next e ts ≡ token p (tk.sign o)
  pub between : is_prefix o ≡ false

pub sign_infix : (o : Op) → is_prefix o ≡ false → sign_of o ≡ tk.sign o
sign_infix op.Negate h = absurd cc
sign_infix o h = refl

pub seen_sign : (e : ℕ) (p : Place) (o : Op) (ts : List Token) → Right e p → is_prefix o ≡ false → Seen e p o (token p (sign_of o) ∷ ts)
seen_sign e p o ts r h = record { seen = rw (r, sign_infix o h) refl; between = h }

low_stays : (e b : ℕ) (a : Phrase) (p : Place) (o : Op) (ts : List Token) → Seen e p o ts → (rank o).0 ≤ b → Stays e b a ts
low_stays e b a p o ts s l = rw (s.seen, s.between, le-ltb b (rank o).0 l) refl

seen_tail : (e : ℕ) (p : Place) (o : Op) (ts : List Token) → Seen e p o ts → NoTail e ts
seen_tail e p o ts s = rw s.seen refl

abbrev pub Fine : Context → Type 0
Fine (under r) = is_prefix r ≡ true
Fine c = Unit {0}

-- above the rank of its place
pub above_bound : (c : Context) → Fine c → (a : Phrase) (p : Place) (q : Op) (b : Phrase) → is_prefix q ≡ false → fits c (infix_of a p q b) ≡ true → bound c < (rank q).0
above_bound free f a p q b n h = some_low q
above_bound (behind s x t) f a p q b n h = some_low q
above_bound (right_of r) f a p q b n h = elim (or_cases (nat_lt (rank r).1 (rank q).0) false h) [ inl k ↦ ltb-true (rank r).1 (rank q).0 k | inr k ↦ absurd cc ]
above_bound (under r) f a p q b n h = elim (or_cases (nat_lt (rank r).1 (rank q).0) (same_op r q || false) h) [
  | inl k ↦ ltb-true (rank r).1 (rank q).0 k
  | inr k ↦ elim (or_cases (same_op r q) false k) [ inl m ↦ absurd (both_ways (is_prefix q) n (sym (ap is_prefix (same_is r q m)) ∙ f)) | inr m ↦ absurd cc ]
]

free_above : (c : Context) (q : Op) → is_free c q ≡ true → bound c ≤ (rank q).1
free_above free q e = omega arith
free_above (behind s x t) q e = omega arith
free_above (right_of r) q e = (let k = ltb-true (rank r).1 (rank q).0 e in let l = low_high q in omega arith)
free_above (under r) q e = elim (or_cases (nat_lt (rank r).1 (rank q).0) (same_op r q) e) [
  | inl k ↦ (let m = ltb-true (rank r).1 (rank q).0 k in let l = low_high q in omega arith)
  | inr k ↦ (let m : (rank r).1 ≡ (rank q).1 = ap (λ (o : Op). (rank o).1) (same_is r q k) in omega arith)
]

free_from : (c : Context) (q : Op) → bound c < (rank q).0 → is_free c q ≡ true
free_from free q l = refl
free_from (behind s x t) q l = refl
free_from (right_of r) q l = lt-ltb (rank r).1 (rank q).0 l
free_from (under r) q l = rw (lt-ltb (rank r).1 (rank q).0 l) refl

pub fits_short : (c : Context) (p : Place) (q : Op) (a : Phrase) → is_free c q ≡ false → fits c (prefix_of p q a) ≡ true → is_short a ≡ true
fits_short free p q a e h = absurd cc
fits_short (behind s x t) p q a e h = absurd cc
fits_short (right_of r) p q a e h = rw e at h
fits_short (under r) p q a e h = elim (or_cases (nat_lt (rank r).1 (rank q).0) (same_op r q || is_short a) h) [
  | inl k ↦ absurd (both_ways (nat_lt (rank r).1 (rank q).0 || same_op r q) e (rw k refl))
  | inr k ↦ elim (or_cases (same_op r q) (is_short a) k) [ inl m ↦ absurd (both_ways (nat_lt (rank r).1 (rank q).0 || same_op r q) e (or_right (nat_lt (rank r).1 (rank q).0) (same_op r q) m)) | inr m ↦ m ]
]
  where
    or_right : (x y : Bool) → y ≡ true → (x || y) ≡ true
    or_right true y h = refl
    or_right false y h = h

-- after a list
list_stops : (e : ℕ) (q : Op) (bs : Bullets) (p : Place) (o : Op) (ts : List Token) → Right e (first_bullet bs) → GoodBullets (first_bullet bs).col bs → is_behind (Some (q, (first_bullet bs).col)) o p ≡ true → Seen e p o ts → NoTail e ts × ListEnds e q (first_bullet bs).col ts × BulletsStop (first_bullet bs).col bs ts
list_stops e q bs p o ts r g h s =
    let c = (first_bullet bs).col in
    let w = and_parts (not (nat_lt c p.col)) (not (same_op q o && nat_eq c p.col)) h in
    (seen_tail e p o ts s, rw s.seen (not-true (same_op q o && nat_eq c p.col) w.1), bullets_behind e c bs ts p (tk.sign o) g r s.seen (not-true (nat_lt c p.col) w.0))

short_stops : (e : ℕ) (a : Phrase) (p : Place) (o : Op) (ts : List Token) → Good e a → is_behind (end_list a) o p ≡ true → is_short a ≡ true → Seen e p o ts → Stops e None a ts
short_stops e (prefix_of r q a) p o ts g z h s = short_stops e a p o ts g.3 z h s
short_stops e (infix_of a r q b) p o ts g z h s = absurd cc
short_stops e (quantified b r bs q a) p o ts g z h s = absurd cc
short_stops e (if_then_else r a q b t c) p o ts g z h s = absurd cc
short_stops e (local r ls q a) p o ts g z h s = absurd cc
short_stops e (cases r xs) p o ts g z h s = absurd cc
short_stops e (list q bs) p o ts g z h s = list_stops e q bs p o ts g.1 g.2 z s
short_stops e a p o ts g z h s = seen_tail e p o ts s

-- an operator that is not above its place stops all that is there
pub low_stops : (e : ℕ) (c : Context) (a : Phrase) (p : Place) (o : Op) (ts : List Token) → Good e a → Fine c → (ends_open a ≡ false) × (is_behind (end_list a) o p ≡ true) → fits c a ≡ true → (rank o).0 ≤ bound c → Seen e p o ts → Stops e (Some c) a ts
low_stops e c (infix_of a r q b) p o ts (n, l, m, ga, gr, gb) f w t le s =
    let d = above_bound c f a r q b (not-true _ n) t in
    let k = low_high q in
    (low_stops e (right_of q) b p o ts gb tt w m (omega arith) s, low_stays e (rank q).1 b p o ts s (omega arith))
low_stops e c (prefix_of r q a) p o ts (n, m, gr, ga) f w t le s = by (is_free c q) refl (λ l. low_stops e (under q) a p o ts ga n w m l s)
  where
    by : (b : Bool) → is_free c q ≡ b → ((rank o).0 ≤ (rank q).1 → Stops e (Some (under q)) a ts) → MatchBool b (Stops e (Some (under q)) a ts × Stays e (rank q).1 a ts) (Stops e None a ts)
    by true h i = (let k = free_above c q h in (i (omega arith), low_stays e (rank q).1 a p o ts s (omega arith)))
    by false h i = short_stops e a p o ts ga w.1 (fits_short c r q a h t) s
low_stops e c (quantified b r bs q a) p o ts g f w t le s = absurd (both_ways true w.0 refl)
low_stops e c (if_then_else r a q b k d) p o ts g f w t le s = absurd (both_ways true w.0 refl)
low_stops e c (local r ls q a) p o ts g f w t le s = absurd (both_ways true w.0 refl)
low_stops e c (cases r xs) p o ts g f w t le s = absurd (both_ways true w.0 refl)
low_stops e c (list q bs) p o ts g f w t le s = list_stops e q bs p o ts g.1 g.2 w.1 s
low_stops e c a p o ts g f w t le s = seen_tail e p o ts s

-- what may be to the left of an operator
pub record Left (o : Op) (h : Head) : Type 0 where
  pub above : (r : Op) → (rank r).1 < (rank o).0 → is_above r h ≡ true
  pub own : (q : Op) → h ≡ applied q → ((rank o).0 ≤ (rank q).0) × ((rank o).0 ≤ (rank q).1)

left_head : (o : Op) (h : Head) → (is_above o h || (is_associative o && is_applied o h)) ≡ true → Left o h
left_head o primary l = record { above = λ r k. refl; own = λ q k. absurd cc }
left_head o open_form l = absurd (both_ways (is_associative o && false) (and_false (is_associative o)) l)
  where
    and_false : (b : Bool) → (b && false) ≡ false
    and_false true = refl
    and_false false = refl
left_head o (applied q) l = elim (or_cases (nat_lt (rank o).1 (rank q).0) (is_associative o && same_op o q) l) [
  | inl k ↦ high (ltb-true (rank o).1 (rank q).0 k)
  | inr k ↦ rw (sym (same_is o q (and_parts (is_associative o) (same_op o q) k).1)) own_level
]
  where
    is_same : (p q : Op) → ◌≡◌ {A = Head} (applied p) (applied q) → p ≡ q
    is_same p q h = cc

    high : (rank o).1 < (rank q).0 → Left o (applied q)
    high d = record {
      above = λ r k. (let m = low_high o in lt-ltb (rank r).1 (rank q).0 (omega arith));
      own = λ t k. (let m = low_high o in let n = low_high q in let i : (rank q).1 ≡ (rank t).1 = ap (λ (x : Op). (rank x).1) (is_same q t k) in let j : (rank q).0 ≡ (rank t).0 = ap (λ (x : Op). (rank x).0) (is_same q t k) in (omega arith, omega arith));
    }

    own_level : Left o (applied o)
    own_level = record {
      above = λ r k. lt-ltb (rank r).1 (rank o).0 k;
      own = λ t k. (let m = low_high o in let i : (rank o).1 ≡ (rank t).1 = ap (λ (x : Op). (rank x).1) (is_same o t k) in let j : (rank o).0 ≡ (rank t).0 = ap (λ (x : Op). (rank x).0) (is_same o t k) in (omega arith, omega arith));
    }

pub left_parts : (a : Phrase) (p : Place) (o : Op) → can_be_left a p o ≡ true → Left o (head a) × ((ends_open a ≡ false) × (is_behind (end_list a) o p ≡ true))
left_parts a p o h =
    let w = and_parts (is_above o (head a) || (is_associative o && is_applied o (head a))) (not (ends_open a) && is_behind (end_list a) o p) h in
    let v = and_parts (not (ends_open a)) (is_behind (end_list a) o p) w.1 in
    (left_head o (head a) w.0, (not-true (ends_open a) v.0, v.1))

-- it may be where the operator may
pub fits_left : (c : Context) (a : Phrase) (o : Op) → Left o (head a) → bound c < (rank o).0 → fits c a ≡ true
fits_left free a o l k = refl
fits_left (behind s x t) a o l k = refl
fits_left (right_of r) a o l k = rw (l.above r k) refl
fits_left (under r) a o l k = rw (l.above r k) refl

pub left_stops : (e : ℕ) (c : Context) (a : Phrase) (p : Place) (o : Op) (ts : List Token) → Good e a → (ends_open a ≡ false) × (is_behind (end_list a) o p ≡ true) → Left o (head a) → bound c < (rank o).0 → Seen e p o ts → Stops e (Some c) a ts
left_stops e c (infix_of a r q b) p o ts (n, l, m, ga, gr, gb) w h le s =
    (low_stops e (right_of q) b p o ts gb tt w m (h.own q refl).1 s, low_stays e (rank q).1 b p o ts s (h.own q refl).1)
left_stops e c (prefix_of r q a) p o ts (n, m, gr, ga) w h le s =
    rw (free_from c q (let k = (h.own q refl).0 in omega arith)) (low_stops e (under q) a p o ts ga n w m (h.own q refl).1 s, low_stays e (rank q).1 a p o ts s (h.own q refl).1)
left_stops e c (quantified b r bs q a) p o ts g w h le s = absurd (both_ways true w.0 refl)
left_stops e c (if_then_else r a q b k d) p o ts g w h le s = absurd (both_ways true w.0 refl)
left_stops e c (local r ls q a) p o ts g w h le s = absurd (both_ways true w.0 refl)
left_stops e c (cases r xs) p o ts g w h le s = absurd (both_ways true w.0 refl)
left_stops e c (list q bs) p o ts g w h le s = list_stops e q bs p o ts g.1 g.2 w.1 s
left_stops e c a p o ts g w h le s = seen_tail e p o ts s
