-- Phrases that begin with a name and `\in`: what is after these two tokens is one phrase, and the element is put together from it.
use Rattle.std.proofs.Common.{◌≡◌, ℕ, ◌≤◌, Bool, true, false, ◌||◌, ◌&&◌, not, nat_lt, List, [], ◌∷◌, Some, refl, sym, ap, ◌∙◌, arith, inl, inr}
use Rattle.std.proofs.lemmas.Bool.{and_parts, or_cases, both_ways, ltb-true, le-ltb, lt-ltb, not-true}
use Rattle.std.proofs.Math.Bool.{or-false, and-false}
use Rattle.tla_token.specs.declared.place.Place.{Place}
use Rattle.tla_tree.specs.declared.op.Op.{Op}
use Rattle.tla_tree.specs.declared.op.Op.TheVariants as op
use Rattle.tla_tree.specs.Tree.{Word}
use Rattle.tla_tree.specs.Rank.{rank, is_prefix, is_associative, same_op}
use Rattle.tla_tree.specs.Lexical.{Token, sign_of}
use Rattle.tla_tree.specs.Lexical as tk
use Rattle.tla_tree.specs.Spelling.{Phrase, name, apply, select, list, quantified, if_then_else, cases, local, infix_of, prefix_of, primed, call, last_bullet, bullet, mark, sign, word, field_token, spell, spell_all, is_word, is_in, is_bind, Right, Good, head, applied, is_above, is_applied, ends_open, end_list, is_behind, can_be_left, can_be_right, can_be_head}
use Rattle.tla_tree.specs.Reader.{element}
use Rattle.tla_tree.proofs.ReadStops.{same_is, left_parts}

abbrev pub is_name : Phrase → Bool
is_name (name p x) = true
is_name a = false

-- an element `x \in S`, with operators after it or not
abbrev pub is_member : Phrase → Bool
is_member (infix_of a q o b) = is_member a || (is_name a && is_in (sign_of o))
is_member a = false

-- what is after `x \in`
abbrev pub cut : Phrase → Phrase
cut (infix_of (name p x) q o b) = b
cut (infix_of a q o b) = infix_of (cut a) q o b
cut a = a

-- ---- the tokens tell it
abbrev pub first_in : List Token → Bool
first_in [] = false
first_in (t ∷ ts) = is_in t.kind

pub name_bind : (p : Place) (x : Word) (ts : List Token) → is_bind (word p x ts) ≡ first_in ts
name_bind p x [] = refl
name_bind p x (t ∷ ts) = refl

pub primary_member : (a : Phrase) (p : Place) → can_be_head a p ≡ true → is_member a ≡ false
primary_member (infix_of a q o b) p h = absurd cc
primary_member a p h = refl

abbrev begins_word : List Token → Bool
begins_word [] = false
begins_word (t ∷ ts) = is_word t.kind

pub word_bind : (ts : List Token) → begins_word ts ≡ false → is_bind ts ≡ false
word_bind [] h = refl
word_bind (t ∷ []) h = refl
word_bind (t ∷ u ∷ ts) h = rw h refl

pub sign_no_word : (o : Op) → is_word (sign_of o) ≡ false
sign_no_word op.Negate = refl
sign_no_word o = refl

bind_by : (e : ℕ) (a : Phrase) → Good e a → (ts : List Token) → is_bind (spell a ts) ≡ (is_member a || (is_name a && first_in ts))
bind_by e (name p x) g ts = name_bind p x ts
bind_by e (infix_of a q o b) g ts = bind_by e a g.3 (sign q o (spell b ts)) ∙ sym (or-false (is_member a || (is_name a && is_in (sign_of o))))
bind_by e (apply a p xs q) g ts = bind_by e a g.0 (mark p tk.open_square (spell_all xs (mark q tk.close_square ts))) ∙ rw (primary_member a p g.1) (and-false (is_name a))
bind_by e (select a p f) g ts = bind_by e a g.0 (mark p tk.dot (field_token f ts)) ∙ rw (primary_member a p g.1) (and-false (is_name a))
bind_by e (primed p x q) g ts = refl
bind_by e (call p x q xs r) g ts = refl
bind_by e (prefix_of p o a) g ts = word_bind (sign p o (spell a ts)) (sign_no_word o)
bind_by e (list o (last_bullet p a)) g ts = word_bind (sign p o (spell a ts)) (sign_no_word o)
bind_by e (list o (bullet p a bs)) g ts = word_bind (spell (list o (bullet p a bs)) ts) (sign_no_word o)
bind_by e a g ts = word_bind (spell a ts) refl

pub bind_member : (e : ℕ) (a : Phrase) → Good e a → is_bind (spell a []) ≡ is_member a
bind_member e a g = bind_by e a g [] ∙ rw (and-false (is_name a)) (or-false (is_member a))

-- ---- what is after `x \in` may be where the whole may
low_infix : (o : Op) → is_prefix o ≡ false → nat_lt (rank o).1 5 ≡ true → nat_lt (rank o).1 4 ≡ true
low_infix op.Implies h l = refl
low_infix op.Equivalent h l = refl
low_infix op.And h l = refl
low_infix op.Or h l = refl
low_infix o h l = absurd cc

prefix_high : (q : Op) → is_prefix q ≡ true → 4 ≤ (rank q).0
prefix_high op.Not h = omega arith
prefix_high op.Subset h = omega arith
prefix_high op.Union h = omega arith
prefix_high op.Domain h = omega arith
prefix_high op.Negate h = omega arith
prefix_high o h = absurd cc

above_right : (e : ℕ) (u : Op) (b : Phrase) → Good e b → can_be_right op.In b ≡ true → ends_open b ≡ false → is_prefix u ≡ false
    → nat_lt (rank u).1 5 ≡ true → is_above u (head b) ≡ true
above_right e u (infix_of a p o c) g m w n l =
    let i = ltb-true 5 (rank o).0 (sym (or-false (nat_lt 5 (rank o).0)) ∙ m) in
    let j = ltb-true (rank u).1 5 l in
    lt-ltb (rank u).1 (rank o).0 (omega arith)
above_right e u (prefix_of p o c) g m w n l =
    let i = prefix_high o g.0 in
    let j = ltb-true (rank u).1 4 (low_infix u n l) in
    lt-ltb (rank u).1 (rank o).0 (omega arith)
above_right e u (quantified b p bs q a) g m w n l = absurd cc
above_right e u (if_then_else p a q b r d) g m w n l = absurd cc
above_right e u (cases p xs) g m w n l = absurd cc
above_right e u (local p ls q a) g m w n l = absurd cc
above_right e u a g m w n l = refl

below_in : (u : Op) → (is_above u (applied op.In) || (is_associative u && is_applied u (applied op.In))) ≡ true → nat_lt (rank u).1 5 ≡ true
below_in u h = elim (or_cases (nat_lt (rank u).1 5) (is_associative u && same_op u op.In) h) [
  | inl k ↦ k
  | inr k ↦ (let w = and_parts (is_associative u) (same_op u op.In) k in absurd (both_ways (is_associative u) (ap is_associative (same_is u op.In w.1)) w.0))
]

-- ---- the name, `\in`, and what is after
pub record Member (e : ℕ) (d : Phrase) : Type 0 where
  pub place : Place
  pub word_of : Word
  pub place_in : Place
  pub same_as : (ts : List Token) → spell d ts ≡ word place word_of (sign place_in op.In (spell (cut d) ts))
  pub right : Right e place
  pub right_in : Right e place_in
  pub good : Good e (cut d)
  pub joins : element place word_of place_in (cut d) ≡ Some d
  pub left : (p : Place) (o : Op) → is_prefix o ≡ false → can_be_left d p o ≡ true → can_be_left (cut d) p o ≡ true
  pub low : (p : Place) (o : Op) → can_be_left d p o ≡ true → (rank o).0 ≤ 5

one_member : (e : ℕ) (p : Place) (x : Word) (q : Place) (b : Phrase) → Good e (infix_of (name p x) q op.In b) → Member e (infix_of (name p x) q op.In b)
one_member e p x q b (n, l, m, ga, gq, gb) = record {
  place = p;
  word_of = x;
  place_in = q;
  same_as = λ ts. refl;
  right = ga;
  right_in = gq;
  good = gb;
  joins = joins b m;
  left = left;
  low = λ r u k. ((left_parts (infix_of (name p x) q op.In b) r u k).0.own op.In refl).0;
}
  where
    joins : (b : Phrase) → can_be_right op.In b ≡ true → element p x q b ≡ Some (infix_of (name p x) q op.In b)
    joins (infix_of a r o c) m = rw m refl
    joins (prefix_of r o c) m = rw m refl
    joins b m = refl

    left : (r : Place) (u : Op) → is_prefix u ≡ false → can_be_left (infix_of (name p x) q op.In b) r u ≡ true → can_be_left b r u ≡ true
    left r u h k =
        let w = and_parts (is_above u (applied op.In) || (is_associative u && is_applied u (applied op.In))) (not (ends_open b) && is_behind (end_list b) u r) k in
        let v = and_parts (not (ends_open b)) (is_behind (end_list b) u r) w.1 in
        rw (above_right e u b gb m (not-true (ends_open b) v.0) h (below_in u w.0)) w.1

more_member : (e : ℕ) (a : Phrase) (r : Place) (u : Op) (b : Phrase) (q : Place) (o : Op) (d : Phrase) → Good e (infix_of (infix_of a r u b) q o d)
    → Member e (infix_of a r u b) → Member e (infix_of (infix_of a r u b) q o d)
more_member e a r u b q o d (n, l, m, ga, gq, gd) v = record {
  place = v.place;
  word_of = v.word_of;
  place_in = v.place_in;
  same_as = λ ts. v.same_as (sign q o (spell d ts));
  right = v.right;
  right_in = v.right_in;
  good = (n, v.left q o (not-true (is_prefix o) n) l, m, v.good, gq, gd);
  joins = joins;
  left = λ s i n k. k;
  low = low;
}
  where
    joins : element v.place v.word_of v.place_in (infix_of (cut (infix_of a r u b)) q o d) ≡ Some (infix_of (infix_of a r u b) q o d)
    joins = rw (le-ltb 5 (rank o).0 (v.low q o l), v.joins, l) refl

    low : (s : Place) (i : Op) → can_be_left (infix_of (infix_of a r u b) q o d) s i ≡ true → (rank i).0 ≤ 5
    low s i k =
        let j = ((left_parts (infix_of (infix_of a r u b) q o d) s i k).0.own o refl).0 in
        let w = v.low q o l in
        omega arith

pub member : (e : ℕ) (d : Phrase) → Good e d → is_member d ≡ true → Member e d
member e (infix_of (name p x) q op.In b) g h = one_member e p x q b g
member e (infix_of (infix_of a r u b) q o d) g h = more_member e a r u b q o d g (member e (infix_of a r u b) g.3 (sym (or-false (is_member (infix_of a r u b))) ∙ h))
member e d g h = absurd cc
