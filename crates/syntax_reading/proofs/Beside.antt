-- Reading within the limits beside reading without: how that goes from readers to those that are made of them.
use Rattle.std.proofs.Common.{◌≡◌, ◌⊎◌, ℕ, suc, ◌+◌, ◌≤◌, ◌&&◌, Bool, true, false, nat_le, List, [], ◌∷◌, ◌++◌, length, Option, Some, None, inl, inr, refl, sym, ap, ◌∙◌, subst, append_assoc, length-append, arith}
use Rattle.std.specs.List.{list_all}
use Rattle.std.proofs.lemmas.List.Folds.{list_all-append}
use Rattle.std.proofs.lemmas.Bool.{and_parts}
use Rattle.tla_token.specs.declared.place.Place.{Place}
use Rattle.tla_token.specs.Limits.{deepest_statement}
use Rattle.tla_tree.specs.Tree.{Word, Name}
use Rattle.tla_tree.specs.Lexical.{Mark, TokenView, Token, token}
use Rattle.tla_tree.specs.Lexical as tk
use Rattle.tla_tree.specs.Reader.{Out, Reader, ◌>>=◌, gives, refuses, if_fits, skip, took, tail, next, peek, take, is_mark, place_if}
use Rattle.tla_tree.specs.Reader as expression
use Rattle.tla_tree.proofs.SoundTokens as edge
use Rattle.tla_tree.specs.FirstStop.{Open, is_within}
use Rattle.tla_tree.proofs.Limited.{Limited, limited_gives, limited_refuses, limited_bind, limited_next, limited_past}
use Rattle.pcal_tree.specs.OpenForms.{here}
use Rattle.syntax_reading.specs.TokenReaders.{first, by_next, past, is_reserved, name_of, a_key, a_mark, a_name, name_if, name_within, pick}
use Rattle.syntax_reading.proofs.Sound.{is_other, seen}
use Rattle.syntax_reading.proofs.Fair.{Both, pick_both}

-- ---- counts within the limits, and one that isn't, with so many after it
abbrev pub Fit : List Open → Type 0
Fit x = list_all is_within x ≡ true

abbrev pub Deep : List Open → ℕ → Type 0
Deep [] m = ⊥
Deep (o ∷ os) m = ((is_within o ≡ false) × (m ≤ length os)) ⊎ Deep os m

-- with t tokens to come, one of the counts is too great already, where j tokens were still to come after it
abbrev pub Late : List Open → ℕ → ℕ → Type 0
Late x j t = (r : List Open) (m : ℕ) → m + t ≤ j + length r → Deep (x ++ r) m

-- so many forms of statements may be open, if all before is within the limits
pub record Sits (d : ℕ) (x : List Open) : Type 0 where
  pub is : Fit x → nat_le d deepest_statement ≡ true

pub sits : {x : List Open} → Sits 0 x
sits = record { is = λ f. refl }

pub fit_both : (x y : List Open) → Fit x → Fit y → Fit (x ++ y)
fit_both x y f g = list_all-append is_within x y ∙ ap (λ (b : Bool). b && list_all is_within y) f ∙ g

pub fit_front : (x y : List Open) → Fit (x ++ y) → Fit x
fit_front x y f = (and_parts (list_all is_within x) (list_all is_within y) (sym (list_all-append is_within x y) ∙ f)).0

pub fit_back : (x y : List Open) → Fit (x ++ y) → Fit y
fit_back x y f = (and_parts (list_all is_within x) (list_all is_within y) (sym (list_all-append is_within x y) ∙ f)).1

pub sits_on : {d : ℕ} {x : List Open} (y : List Open) → Sits d x → Sits d (x ++ y)
sits_on {d} {x} y s = record { is = λ f. s.is (fit_front x y f) }

pub fit_here : (d : ℕ) → nat_le d deepest_statement ≡ true → Fit (here d)
fit_here d e = rw e refl

-- at a token where they are open
pub sits_here : (d : ℕ) (x : List Open) → Sits d (x ++ here d)
sits_here d x = record { is = λ f. (and_parts (nat_le d deepest_statement) true (fit_back x (here d) f)).0 }

pub deep_after : (x y : List Open) (m : ℕ) → Deep y m → Deep (x ++ y) m
deep_after [] y m d = d
deep_after (o ∷ x) y m d = inr (deep_after x y m d)

-- as many more tokens as counts
pub late_on : (x y : List Open) (j t u : ℕ) → t ≡ length y + u → Late x j t → Late (x ++ y) j u
late_on x y j t u e l r m h = subst (λ (z : List Open). Deep z m) (sym (append_assoc x y r)) (l (y ++ r) m (let n = length-append y r in omega (arith, e, h, n)))

-- ---- both readers, after tokens with the counts x: Q says all counts of what they read and of x
pub record Beside {A : Type 0} (x : List Open) (Q : A → List Open) (r q : Reader A) : Type 0 where
  pub is : (ts : List Token) → Limited (Fit x) (Late x) (λ a. Fit (Q a)) (λ a. Late (Q a)) ts (r ts) (q ts)

pub record BesideAt {A : Type 0} (p : Place) (k : TokenView) (x : List Open) (Q : A → List Open) (r q : Reader A) : Type 0 where
  pub is : (ts : List Token) → first ts ≡ token p k → Limited (Fit x) (Late x) (λ a. Fit (Q a)) (λ a. Late (Q a)) ts (r ts) (q ts)

pub beside_gives : {A : Type 0} {x : List Open} {Q : A → List Open} (a : A) → Q a ≡ x → Beside x Q (gives a) (gives a)
beside_gives {A} {x} {Q} a e = record { is = λ ts. subst (λ (z : List Open). Limited (Fit z) (Late z) (λ b. Fit (Q b)) (λ b. Late (Q b)) ts (gives a ts) (gives a ts)) e (limited_gives a ts) }

pub beside_refuses : {A : Type 0} {x : List Open} {Q : A → List Open} → Beside x Q (refuses {A = A}) (refuses {A = A})
beside_refuses = record { is = λ ts. limited_refuses ts }

pub beside_bind : {A B : Type 0} {x : List Open} {P : A → List Open} {Q : B → List Open} {r q : Reader A} {f g : A → Reader B} → Beside x P r q → ((a : A) → Beside (P a) Q (f a) (g a)) → Beside x Q (r >>= f) (q >>= g)
beside_bind h i = record { is = λ ts. limited_bind (h.is ts) (λ a us e. (i a).is us) }

pub beside_then : {A B : Type 0} {p : Place} {k : TokenView} {x : List Open} {P : A → List Open} {Q : B → List Open} {r q : Reader A} {f g : A → Reader B} → BesideAt p k x P r q → ((a : A) → Beside (P a) Q (f a) (g a)) → BesideAt p k x Q (r >>= f) (q >>= g)
beside_then h i = record { is = λ ts s. limited_bind (h.is ts s) (λ a us e. (i a).is us) }

pub beside_next : {A : Type 0} {x : List Open} {Q : A → List Open} {f g : Place → TokenView → Reader A} → ((p : Place) (k : TokenView) → BesideAt p k x Q (f p k) (g p k)) → Beside x Q (by_next f) (by_next g)
beside_next h = record { is = λ ts. (h (first ts).place (first ts).kind).is ts refl }

pub beside_stays : {A : Type 0} {p : Place} {k : TokenView} {x : List Open} {Q : A → List Open} {r q : Reader A} → Beside x Q r q → BesideAt p k x Q r q
beside_stays h = record { is = λ ts s. h.is ts }

-- the same counts in other words
pub beside_same : {A : Type 0} {p : Place} {k : TokenView} {x y : List Open} {Q : A → List Open} {r q : Reader A} → y ≡ x → BesideAt p k y Q r q → BesideAt p k x Q r q
beside_same {A} {p} {k} {x} {y} {Q} {r} {q} e h = subst (λ (z : List Open). BesideAt p k z Q r q) e h

late_one : (x : List Open) (o : Open) (j t : ℕ) → Late x j (suc t) → Late (x ++ o ∷ []) j t
late_one x o j t = late_on x (o ∷ []) j (suc t) t (omega arith)

pub fit_one : (x : List Open) (o : Open) → (Fit x → is_within o ≡ true) → Fit x → Fit (x ++ o ∷ [])
fit_one x o h f = fit_both x (o ∷ []) f (rw (h f) refl)

-- past a token
pub beside_skip : {A : Type 0} {p : Place} {k : TokenView} {x : List Open} {Q : A → List Open} {r q : Reader A} (d : ℕ) → Sits d x → is_other k ≡ false → Beside (x ++ here d) Q r q → BesideAt p k x Q (skip r) (skip q)
beside_skip {A} {p} {k} {x} d s o h = record { is = λ ts e. limited_next (seen ts p k e o) (fit_one x (record { expressions = 0; statements = d }) s.is) (λ j. late_one x (record { expressions = 0; statements = d }) j (length (tail ts))) (h.is (tail ts)) }

-- past one at which a form opens, if it may
pub beside_opened : {A : Type 0} {p : Place} {k : TokenView} {x : List Open} {Q : A → List Open} {r q : Reader A} (d : ℕ) → is_other k ≡ false → Beside (x ++ here d) Q r q → BesideAt p k x Q (if_fits (nat_le d deepest_statement) (skip r)) (skip q)
beside_opened {A} {p} {k} {x} {Q} {r} {q} d o h = by (nat_le d deepest_statement) refl
  where
    by : (b : Bool) → nat_le d deepest_statement ≡ b → BesideAt p k x Q (if_fits b (skip r)) (skip q)
    by true e = beside_skip d (record { is = λ f. e }) o h
    by false e = record {
      is = λ ts s.
          limited_past {F' = Fit (x ++ here d)} {G' = λ a. Fit (Q a)} (seen ts p k s o) (λ j. late_one x (record { expressions = 0; statements = d }) j (length (tail ts)))
          (λ t m i. subst (λ (z : List Open). Deep z m) (sym (append_assoc x (here d) t)) (deep_after x (here d ++ t) m (inl (e, omega (arith, i)))))
          (h.is (tail ts));
    }

-- ---- single tokens
beside_took : {A : Type 0} {p : Place} {k : TokenView} {x : List Open} (d : ℕ) → Sits d x → (o : Option A) → ((a : A) → o ≡ Some a → is_other k ≡ false) → BesideAt p k x (λ a. x ++ here d) (took o) (took o)
beside_took {A} {p} {k} {x} d s (Some a) h = beside_skip {r = gives a} {q = gives a} d s (h a refl) (beside_gives a refl)
beside_took d s None h = beside_stays beside_refuses

pub beside_past : {A : Type 0} {x : List Open} (d : ℕ) → Sits d x → (f : Place → TokenView → Option A) → ((p : Place) (k : TokenView) (a : A) → f p k ≡ Some a → is_other k ≡ false) → Beside x (λ a. x ++ here d) (past f) (past f)
beside_past d s f h = beside_next (λ p k. beside_took d s (f p k) (h p k))

key_other : (w : Word) (p : Place) (k : TokenView) (q : Place) → place_if (is_reserved w) p k ≡ Some q → is_other k ≡ false
key_other w p (tk.other z) q e = absurd cc
key_other w p k q e = refl

mark_other : (m : Mark) (p : Place) (k : TokenView) (q : Place) → place_if (is_mark m) p k ≡ Some q → is_other k ≡ false
mark_other m p (tk.other z) q e = absurd cc
mark_other m p k q e = refl

name_other : (p : Place) (k : TokenView) (x : Name) → name_of p k ≡ Some x → is_other k ≡ false
name_other p (tk.other z) x e = absurd cc
name_other p k x e = refl

pub beside_key : {x : List Open} (d : ℕ) → Sits d x → (w : Word) → Beside x (λ p. x ++ here d) (a_key w) (a_key w)
beside_key d s w = beside_past d s (place_if (is_reserved w)) (key_other w)

pub beside_mark : {x : List Open} (d : ℕ) → Sits d x → (m : Mark) → Beside x (λ p. x ++ here d) (a_mark m) (a_mark m)
beside_mark d s m = beside_past d s (place_if (is_mark m)) (mark_other m)

pub beside_name : {x : List Open} (d : ℕ) → Sits d x → Beside x (λ y. x ++ here d) a_name a_name
beside_name d s = beside_past d s name_of name_other

-- a name at which a form opens, if it may
pub beside_name_within : {x : List Open} (d : ℕ) → Beside x (λ y. x ++ here d) (name_within (nat_le d deepest_statement)) (name_within true)
beside_name_within {x} d = by (nat_le d deepest_statement) refl
  where
    at : nat_le d deepest_statement ≡ false → (p : Place) (k : TokenView) → BesideAt p k x (λ y. x ++ here d) (name_if false p k) (name_if true p k)
    at e p (tk.word w) = record {
      is = λ ts s.
          (let there = seen ts p (tk.word w) s refl in
          let name : Name = record { place = (first ts).place; word = w } in
          let one = limited_past {F' = Fit (x ++ here d)} {G' = λ (y : Name). Fit (x ++ here d)} there (λ j. late_one x (record { expressions = 0; statements = d }) j (length (tail ts)))
          (λ t m i. subst (λ (z : List Open). Deep z m) (sym (append_assoc x (here d) t)) (deep_after x (here d ++ t) m (inl (e, omega (arith, i)))))
          (limited_gives {G = λ (y : Name). Fit (x ++ here d)} {M = λ (y : Name). Late (x ++ here d)} (record { place = p; word = w }) (tail ts)) in
          subst (λ (u : Token). Limited (Fit x) (Late x) (λ (y : Name). Fit (x ++ here d)) (λ (y : Name). Late (x ++ here d)) ts (name_if false p (tk.word w) ts) (took (name_of u.place u.kind) ts)) (sym s) one);
    }
    at e p k = record {
      is = λ ts s. subst (λ (u : Token). Limited (Fit x) (Late x) (λ (y : Name). Fit (x ++ here d)) (λ (y : Name). Late (x ++ here d)) ts (name_if false p k ts) (took (name_of u.place u.kind) ts)) (sym s) (limited_refuses ts);
    }

    by : (b : Bool) → nat_le d deepest_statement ≡ b → Beside x (λ y. x ++ here d) (name_within b) (name_within true)
    by true e = beside_name d (record { is = λ f. e })
    by false e = beside_next (at e)

-- ---- what a word stands for
abbrev pub BothAt : {A : Type 0} → Place → Word → List Open → (A → List Open) → List (Word × Reader A) → List (Word × Reader A) → Type 0
BothAt p w x Q rs qs = Both (λ r q. BesideAt p (tk.reserved w) x Q r q) rs qs

pub beside_pick : {A : Type 0} {p : Place} {x : List Open} {Q : A → List Open} (w : Word) (rs qs : List (Word × Reader A)) (d e : Reader A)
    → BothAt p w x Q rs qs → BesideAt p (tk.reserved w) x Q d e → BesideAt p (tk.reserved w) x Q (pick w rs d) (pick w qs e)
beside_pick {A} {p} {x} {Q} w rs qs d e h i = pick_both (λ r q. BesideAt p (tk.reserved w) x Q r q) w rs qs d e h i

-- ---- tokens of expressions, right of the edge
pub record BesideRight {A : Type 0} (p : Place) (k : TokenView) (x : List Open) (Q : A → List Open) (r q : Reader A) : Type 0 where
  pub is : (ts : List Token) → next 0 ts ≡ token p k → Limited (Fit x) (Late x) (λ a. Fit (Q a)) (λ a. Late (Q a)) ts (r ts) (q ts)

pub beside_peek : {A : Type 0} {x : List Open} {Q : A → List Open} {f g : Place → TokenView → Reader A} → ((p : Place) (k : TokenView) → BesideRight p k x Q (f p k) (g p k)) → Beside x Q (peek 0 f) (peek 0 g)
beside_peek h = record { is = λ ts. (h (next 0 ts).place (next 0 ts).kind).is ts refl }

pub beside_in_place : {A : Type 0} {p : Place} {k : TokenView} {x : List Open} {Q : A → List Open} {r q : Reader A} → Beside x Q r q → BesideRight p k x Q r q
beside_in_place h = record { is = λ ts s. h.is ts }

-- past a token with these counts
pub beside_right : {A : Type 0} {p : Place} {k : TokenView} {x : List Open} {Q : A → List Open} {r q : Reader A} (o : Open) → (Fit x → is_within o ≡ true) → is_other k ≡ false → Beside (x ++ o ∷ []) Q r q → BesideRight p k x Q (skip r) (skip q)
beside_right {A} {p} {k} {x} o s i h = record { is = λ ts e. limited_next (edge.seen 0 ts p k e i).1 (fit_one x o s) (λ j. late_one x o j (length (tail ts))) (h.is (tail ts)) }

right_took : {A : Type 0} {p : Place} {k : TokenView} {x : List Open} (o : Open) → (Fit x → is_within o ≡ true) → (v : Option A) → ((a : A) → v ≡ Some a → is_other k ≡ false) → BesideRight p k x (λ a. x ++ o ∷ []) (took v) (took v)
right_took {A} {p} {k} {x} o s (Some a) h = beside_right {r = gives a} {q = gives a} o s (h a refl) (beside_gives a refl)
right_took o s None h = beside_in_place beside_refuses

pub beside_take : {A : Type 0} {x : List Open} (o : Open) → (Fit x → is_within o ≡ true) → (f : Place → TokenView → Option A) → ((p : Place) (k : TokenView) (a : A) → f p k ≡ Some a → is_other k ≡ false) → Beside x (λ a. x ++ o ∷ []) (take 0 f) (take 0 f)
beside_take o s f h = beside_peek (λ p k. right_took o s (f p k) (h p k))

pub beside_mark_right : {x : List Open} (o : Open) → (Fit x → is_within o ≡ true) → (m : Mark) → Beside x (λ p. x ++ o ∷ []) (expression.a_mark 0 m) (expression.a_mark 0 m)
beside_mark_right o s m = beside_take o s (place_if (is_mark m)) (mark_other m)

-- the same counts in other words
pub beside_moved : {A : Type 0} {x y : List Open} {Q : A → List Open} {r q : Reader A} → y ≡ x → Beside y Q r q → Beside x Q r q
beside_moved {A} {x} {y} {Q} {r} {q} e h = subst (λ (z : List Open). Beside z Q r q) e h
