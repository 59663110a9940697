-- What is read is spelled, and what is spelled is read: lists of forms, each after its bullet.
use Rattle.std.proofs.Common.{eq-eqb, ◌≡◌, ℕ, zero, suc, ◌≤◌, nat_lt, nat_eq, Bool, true, false, ◌&&◌, List, [], ◌∷◌, length, Ok, refl, sym, ap, subst, ◌∙◌, arith}
use Rattle.std.proofs.lemmas.Bool.{and_parts, eqb-true}
use Rattle.tla_token.specs.declared.place.Place.{Place}
use Rattle.tla_tree.specs.declared.op.Op.{Op}
use Rattle.tla_tree.specs.Rank.{same_op, number_of}
use Rattle.tla_tree.specs.Lexical.{TokenView, Token, token, sign}
use Rattle.tla_tree.specs.Lexical as tk
use Rattle.tla_tree.specs.Spelling.{Right}
use Rattle.tla_tree.specs.Reader.{Reader, next, take, bullet_of, is_sign}
use Rattle.tla_tree.proofs.ReadStops.{is_calm}
use Rattle.tla_tree.proofs.SoundTokens.{then_ok, given, taken, take_ok, if_some, sign_is}
use Rattle.module_tree.specs.Grammar.{Tokens, see, spell_bullets, GoodBullets, GoodSome}
use Rattle.region_reading.specs.Bound.{Bound, unbounded, opened_if}
use Rattle.region_reading.specs.NameReader.{is_bullet_in, bulleted_if, bulleted, bulleted_from, bulleted_in}

-- ---- one bullet

pub bullet_ok : (e : ℕ) (o : Op) (c : ℕ) (ts : List Token) (p : Place) (us : List Token) → take e (bullet_of o c) ts ≡ Ok (p, us) → Right e p × (p.col ≡ c) × (see p (sign o) us ≡ ts)
bullet_ok e o c ts p us i =
    let w = take_ok e (bullet_of o c) ts p us i in
    let v = if_some (is_sign o (next e ts).kind && nat_eq c (next e ts).place.col) (next e ts).place p w.0 in
    let x = and_parts (is_sign o (next e ts).kind) (nat_eq c (next e ts).place.col) v.0 in
    let z = taken e ts p (tk.sign o) us (λ j. token (v.1 j) (sign_is o (next e ts).kind x.0 j)) refl w.1 in
    (z.0, ap (λ (q : Place). q.col) (sym v.1) ∙ sym (eqb-true c (next e ts).place.col x.1), z.1)

pub same_sign : (o : Op) → same_op o o ≡ true
same_sign o = eq-eqb (number_of o) (number_of o) refl

-- a bullet in its column is right of the edge, and is one
pub in_column : (e c : ℕ) (p : Place) → nat_lt e c ≡ true → p.col ≡ c → (Right e p) × (nat_eq c p.col ≡ true)
in_column e c p l h = (ap (λ (n : ℕ). nat_lt e n) h ∙ l, eq-eqb c p.col (sym h))

pub bullet_read : (e : ℕ) (o : Op) (c : ℕ) (p : Place) (r : List Token) → nat_lt e c ≡ true → p.col ≡ c → take e (bullet_of o c) (see p (sign o) r) ≡ Ok (p, r)
bullet_read e o c p r l h = (let w = in_column e c p l h in rw (w.0, same_sign o, w.1) refl)

pub bullet_seen : (e : ℕ) (o : Op) (c : ℕ) (p : Place) (r : List Token) → nat_lt e c ≡ true → p.col ≡ c
    → is_bullet_in o c (next e (see p (sign o) r)).place (next e (see p (sign o) r)).kind ≡ true
bullet_seen e o c p r l h = (let w = in_column e c p l h in rw (w.0, same_sign o, w.1) refl)

pub no_bullet : (o : Op) (b : Bool) (k : TokenView) → is_calm k ≡ true → (is_sign o k && b) ≡ false
no_bullet o b (tk.sign q) h = absurd cc
no_bullet o b k h = refl

-- ---- lists of forms

abbrev pub FirstRight : {A : Type 0} → List (Place × A) → Type 0
FirstRight [] = ⊥
FirstRight (x ∷ xs) = Right 1 x.0

-- f reads, right of an edge, what is so and spelled so
abbrev pub IsSound : {A : Type 0} → (ℕ → A → Type 0) → (A → Tokens) → (ℕ → Reader A) → Type 0
IsSound {A} P S f = (e : ℕ) (ts : List Token) (a : A) (us : List Token) → f e ts ≡ Ok (a, us) → P e a × (S a us ≡ ts)

module _ {A : Type 0} (o : Op) (P : ℕ → A → Type 0) (S : A → Tokens) (f : ℕ → Reader A) where
  abbrev AreBullets : ℕ → List Token → List (Place × A) → List Token → Type 0
  AreBullets c ts xs us = FirstRight xs × GoodBullets P c xs × (spell_bullets (sign o) S xs us ≡ ts)

  bulleted_if_ok : (c : ℕ) (more : Reader (List (Place × A))) → ((ts : List Token) (xs : List (Place × A)) (us : List Token) → more ts ≡ Ok (xs, us) → AreBullets c ts xs us)
      → (p : Place) → Right 1 p → p.col ≡ c → (a : A) → P c a → (b : Bool) (ts : List Token) (xs : List (Place × A)) (us : List Token)
      → bulleted_if b more p a ts ≡ Ok (xs, us) → AreBullets c (see p (sign o) (S a ts)) xs us
  bulleted_if_ok c more go p g h a k true ts xs us i =
      let v = then_ok i in
      let w = go ts v.0 v.1 v.2 in
      given (λ d vs. AreBullets c (see p (sign o) (S a ts)) d vs) v.3 (g, (h, k, w.1), rw w.2 refl)
  bulleted_if_ok c more go p g h a k false ts xs us i = given (λ d vs. AreBullets c (see p (sign o) (S a ts)) d vs) i (g, (h, k, tt), refl)

  bulleted_ok : IsSound P S f → (n c : ℕ) (ts : List Token) (xs : List (Place × A)) (us : List Token) → bulleted n o f c ts ≡ Ok (xs, us) → AreBullets c ts xs us
  bulleted_ok s zero c ts xs us i = absurd cc
  bulleted_ok s (suc n) c ts xs us i =
      let v = then_ok i in
      let m = bullet_ok 1 o c ts v.0 v.1 v.2 in
      let u = then_ok v.3 in
      let w = s c v.1 u.0 u.1 u.2 in
      let z = bulleted_if_ok c (bulleted n o f c) (bulleted_ok s n c) v.0 m.0 m.1 u.0 w.0 (is_bullet_in o c (next 1 u.1).place (next 1 u.1).kind) u.1 xs us u.3 in
      (z.0, z.1, z.2 ∙ rw (w.1, m.2) refl)

  are_some : (c : ℕ) (xs : List (Place × A)) → FirstRight xs → GoodBullets P c xs → GoodSome P xs
  are_some c [] g h = absurd g
  are_some c (x ∷ xs) g h = (g, subst (λ (n : ℕ). GoodBullets P n (x ∷ xs)) (sym h.0) h)

  bulleted_from_ok : IsSound P S f → (c : ℕ) (ts : List Token) (xs : List (Place × A)) (us : List Token) → bulleted_from o f c ts ≡ Ok (xs, us) → GoodSome P xs × (spell_bullets (sign o) S xs us ≡ ts)
  bulleted_from_ok s c ts xs us i = (let w = bulleted_ok s (length ts) c ts xs us i in (are_some c xs w.0 w.1, w.2))

module _ {A : Type 0} (o : Op) (P : ℕ → A → Type 0) (S : A → Tokens) (f : Bound → ℕ → Reader A) where
  pub bulleted_in_ok : IsSound P S (f unbounded) → (ts : List Token) (xs : List (Place × A)) (us : List Token) → bulleted_in unbounded o f ts ≡ Ok (xs, us) → GoodSome P xs × (spell_bullets (sign o) S xs us ≡ ts)
  bulleted_in_ok s ts xs us i = by (is_sign o (next 1 ts).kind) i
    where
      by : (b : Bool) → opened_if b unbounded (λ n. bulleted_from o (f n) (next 1 ts).place.col) ts ≡ Ok (xs, us) → GoodSome P xs × (spell_bullets (sign o) S xs us ≡ ts)
      by true i = bulleted_from_ok o P S (f unbounded) s (next 1 ts).place.col ts xs us i
      by false i = absurd cc

first_column : (p : Place) (k : TokenView) (r : List Token) → Right 1 p → (next 1 (see p k r)).place.col ≡ p.col
first_column p k r g = rw g refl

first_sign : (o : Op) (p : Place) (r : List Token) → Right 1 p → is_sign o (next 1 (see p (sign o) r)).kind ≡ true
first_sign o p r g = rw (g, same_sign o) refl

-- before tokens of which K holds, f reads what is spelled
abbrev pub IsComplete : {A : Type 0} → (ℕ → List Token → Type 0) → (ℕ → A → Type 0) → (A → Tokens) → (ℕ → Reader A) → Type 0
IsComplete {A} K P S f = (e : ℕ) (a : A) → P e a → (r : List Token) → K e r → f e (S a r) ≡ Ok (a, r)

-- K holds before a bullet in the column of the edge, and at the end
pub record Ends (o : Op) (K : ℕ → List Token → Type 0) : Type 0 where
  pub before : (c : ℕ) (p : Place) (r : List Token) → p.col ≡ c → K c (see p (sign o) r)
  pub ended : (c : ℕ) → K c []

module _ {A : Type 0} (o : Op) (K : ℕ → List Token → Type 0) (P : ℕ → A → Type 0) (S : A → Tokens) (f : ℕ → Reader A) where
  abbrev bullets : List (Place × A) → List Token
  bullets xs = spell_bullets (sign o) S xs []

  bulleted_read : Ends o K → IsComplete K P S f → ((a : A) (r : List Token) → length r ≤ length (S a r)) → (n c : ℕ) → nat_lt 1 c ≡ true
      → (x : Place × A) (xs : List (Place × A)) → GoodBullets P c (x ∷ xs) → length (bullets (x ∷ xs)) ≤ n → bulleted n o f c (bullets (x ∷ xs)) ≡ Ok (x ∷ xs, [])
  bulleted_read d s m zero c l x xs g h = absurd (omega (arith, h))
  bulleted_read d s m (suc n) c l x [] g h = rw (bullet_read 1 o c x.0 (S x.1 []) l g.0, s c x.1 g.1 [] (d.ended c)) refl
  bulleted_read d s m (suc n) c l x (y ∷ xs) g h =
      let t = bullet_read 1 o c x.0 (S x.1 (bullets (y ∷ xs))) l g.0 in
      let u = s c x.1 g.1 (bullets (y ∷ xs)) (d.before c y.0 (S y.1 (bullets xs)) g.2.0) in
      let b = bullet_seen 1 o c y.0 (S y.1 (bullets xs)) l g.2.0 in
      let z = bulleted_read d s m n c l y xs g.2 (omega (arith, h, m x.1 (bullets (y ∷ xs)))) in
      rw (t, u, b, z) refl

  bulleted_from_read : Ends o K → IsComplete K P S f → ((a : A) (r : List Token) → length r ≤ length (S a r)) → (x : Place × A) (xs : List (Place × A)) → GoodSome P (x ∷ xs)
      → bulleted_from o f (next 1 (bullets (x ∷ xs))).place.col (bullets (x ∷ xs)) ≡ Ok (x ∷ xs, [])
  bulleted_from_read d s m x xs g =
      let z = bulleted_read d s m (length (bullets (x ∷ xs))) x.0.col g.0 x xs g.1 (omega arith) in
      ap (λ (c : ℕ). bulleted (length (bullets (x ∷ xs))) o f c (bullets (x ∷ xs))) (first_column x.0 (sign o) (S x.1 (bullets xs)) g.0) ∙ z

module _ {A : Type 0} (o : Op) (K : ℕ → List Token → Type 0) (P : ℕ → A → Type 0) (S : A → Tokens) (f : Bound → ℕ → Reader A) where
  pub bulleted_in_read : Ends o K → IsComplete K P S (f unbounded) → ((a : A) (r : List Token) → length r ≤ length (S a r)) → (xs : List (Place × A)) → GoodSome P xs
      → bulleted_in unbounded o f (spell_bullets (sign o) S xs []) ≡ Ok (xs, [])
  bulleted_in_read d s m [] g = absurd g
  bulleted_in_read d s m (x ∷ xs) g =
      let ts = spell_bullets (sign o) S (x ∷ xs) [] in
      ap (λ (b : Bool). opened_if b unbounded (λ n. bulleted_from o (f n) (next 1 ts).place.col) ts) (first_sign o x.0 (S x.1 (spell_bullets (sign o) S xs [])) g.0)
      ∙ bulleted_from_read o K P S (f unbounded) d s m x xs g
