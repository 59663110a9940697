-- Reading within a bound beside reading without: where it goes on, both read the same, and so many forms are open at most at the tokens so far; what is refused by `Syntax` is refused by both;
-- and where it is too deep, what is read without a bound opens more.
use Rattle.std.proofs.Common.{◌≡◌, ◌⊎◌, ℕ, zero, suc, ◌+◌, ◌-◌, ◌≤◌, ◌<◌, max, nat_le, Bool, true, false, if◌then◌else◌, List, Option, Some, None, Ok, Err, inl, inr, refl, sym, ap, ◌∙◌, subst, arith}
use Rattle.std.proofs.lemmas.Bool.Decides.{leb_tells}
use Rattle.tla_token.specs.declared.place.Place.{Place}
use Rattle.tla_token.specs.declared.rule.Rule.{Rule}
use Rattle.tla_token.specs.declared.rule.Rule.TheVariants.{TooDeep, Syntax}
use Rattle.tla_tree.specs.Lexical.{TokenView, Token}
use Rattle.tla_tree.specs.Spelling.{Phrase}
use Rattle.tla_tree.specs.Reader.{Out, Reader, then_read, gives, refuses, too_deep, next, took, take, read}
use Rattle.tla_tree.proofs.SoundTokens.{then_ok, ok_is}
use Rattle.region_reading.specs.Bound.{Bound, bounded, deeper, phrase_by, a_phrase, if_room, opened, token_by, opening, OnlyRefuses, ReadsWithin}

-- ---- what is told of both

abbrev pub Refused : {A : Type 0} → Out A → Type 0
Refused {A} q = (a : A) (us : List Token) → q ≡ Ok (a, us) → ⊥

abbrev pub Deep : {A : Type 0} → ℕ → (A → ℕ) → Out A → Type 0
Deep {A} l opens q = (a : A) (us : List Token) → q ≡ Ok (a, us) → l < opens a

abbrev pub Told : {A : Type 0} → ℕ → ℕ → (A → ℕ) → Out A → Out A → Type 0
Told l c opens (Ok x) q = (q ≡ Ok x) × (c ≤ l → opens x.0 ≤ l)
Told l c opens (Err s) q = ((s.0 ≡ Syntax) × Refused q) ⊎ ((s.0 ≡ TooDeep) × Deep l opens q)

-- l forms may be open; c are open at most at the tokens so far, and then as many as opens tells of what is read
pub record Bounded {A : Type 0} (l c : ℕ) (opens : A → ℕ) (o q : Out A) : Type 0 where
  pub told : Told l c opens o q
  pub grows : (a : A) (us : List Token) → q ≡ Ok (a, us) → c ≤ opens a

-- ---- what is given, and what is refused

pub bounded_gives : {A : Type 0} {l c : ℕ} {opens : A → ℕ} (a : A) (ts : List Token) → c ≡ opens a → Bounded l c opens (gives a ts) (gives a ts)
bounded_gives {A} {l} {c} {opens} a ts e = record {
  told = (refl, λ h. omega (arith, e, h));
  grows = λ b us i. (let w = ok_is i in subst (λ (d : A). c ≤ opens d) w.0 (omega (arith, e)));
}

pub bounded_refuses : {A : Type 0} {l c : ℕ} {opens : A → ℕ} (ts : List Token) → Bounded l c opens (refuses ts) (refuses ts)
bounded_refuses ts = record { told = inl (refl, λ a us i. absurd cc); grows = λ a us i. absurd cc }

-- ---- one after the other

module _ {A B : Type 0} (l c : ℕ) (before : A → ℕ) (opens : B → ℕ) (f g : A → Reader B) where
  abbrev Then : Type 0
  Then = (a : A) (us : List Token) → Bounded l (before a) opens (f a us) (g a us)

  refused_then : (q : Out A) → Refused q → Refused (then_read q g)
  refused_then q r b vs i = (let v = then_ok i in r v.0 v.1 v.2)

  deep_then : Then → (q : Out A) → Deep l before q → Deep l opens (then_read q g)
  deep_then h q d b vs i =
      let v = then_ok i in
      let over = d v.0 v.1 v.2 in
      let more = (h v.0 v.1).grows b vs v.3 in
      omega (arith, over, more)

  told_on : (o q : Out B) (n : ℕ) → (c ≤ l → n ≤ l) → Told l n opens o q → Told l c opens o q
  told_on (Ok x) q n k (e, h) = (e, λ m. h (k m))
  told_on (Err s) q n k h = h

  told_then : Then → (o q : Out A) → Told l c before o q → Told l c opens (then_read o f) (then_read q g)
  told_then h (Ok x) q (e, k) = rw e (told_on (f x.0 x.1) (g x.0 x.1) (before x.0) k (h x.0 x.1).told)
  told_then h (Err s) q (inl (e, r)) = inl (e, refused_then q r)
  told_then h (Err s) q (inr (e, d)) = inr (e, deep_then h q d)

pub bounded_bind : {A B : Type 0} {l c : ℕ} {before : A → ℕ} {opens : B → ℕ} {f g : A → Reader B} {o q : Out A}
    → Bounded l c before o q → ((a : A) (us : List Token) → Bounded l (before a) opens (f a us) (g a us)) → Bounded l c opens (then_read o f) (then_read q g)
bounded_bind {A} {B} {l} {c} {before} {opens} {f} {g} {o} {q} k h = record {
  told = told_then l c before opens f g h o q k.told;
  grows = λ b vs i. (let v = then_ok i in let x = k.grows v.0 v.1 v.2 in let y = (h v.0 v.1).grows b vs v.3 in omega (arith, x, y));
}

-- ---- a part by itself, after others

abbrev pub with_part : {A : Type 0} → ℕ → (A → ℕ) → A → ℕ
with_part c opens a = max c (opens a)

pub bounded_part : {A : Type 0} {l n c : ℕ} {opens : A → ℕ} {o q : Out A} → n ≤ c → Bounded l n opens o q → Bounded l c (λ a. max c (opens a)) o q
bounded_part {A} {l} {n} {c} {opens} {o} {q} k h = record { told = by o h.told; grows = λ a us i. omega arith }
  where
    by : (o : Out A) → Told l n opens o q → Told l c (λ a. max c (opens a)) o q
    by (Ok x) (e, f) = (e, λ m. (let low = f (omega (arith, k, m)) in omega (arith, low, m)))
    by (Err s) (inl r) = inl r
    by (Err s) (inr (e, d)) = inr (e, λ a us i. (let over = d a us i in omega (arith, over)))

pub then_part : {A B : Type 0} {l n c : ℕ} {part : A → ℕ} {opens : B → ℕ} {f g : A → Reader B} {o q : Out A}
    → n ≤ c → Bounded l n part o q → ((a : A) (us : List Token) → Bounded l (max c (part a)) opens (f a us) (g a us)) → Bounded l c opens (then_read o f) (then_read q g)
then_part k p h = bounded_bind (bounded_part k p) h

-- ---- what opens no form and is refused by `Syntax` alone

abbrev pub IsPlain : {A : Type 0} → Out A → Type 0
IsPlain (Ok x) = Unit {0}
IsPlain (Err s) = s.0 ≡ Syntax

pub plain_took : {A : Type 0} (o : Option A) (ts : List Token) → IsPlain (took o ts)
plain_took (Some a) ts = tt
plain_took None ts = refl

pub plain_then : {A B : Type 0} (o : Out A) (f : A → Reader B) → IsPlain o → ((a : A) (us : List Token) → IsPlain (f a us)) → IsPlain (then_read o f)
plain_then (Ok x) f p h = h x.0 x.1
plain_then (Err s) f p h = p

pub bounded_plain : {A : Type 0} {l c : ℕ} (o : Out A) → IsPlain o → Bounded l c (λ (a : A). c) o o
bounded_plain {A} {l} {c} (Ok x) p = record { told = (refl, λ h. h); grows = λ a us i. omega arith }
bounded_plain {A} {l} {c} (Err s) p = record { told = inl (p, λ a us i. absurd cc); grows = λ a us i. omega arith }

pub then_plain : {A B : Type 0} {l c : ℕ} {opens : B → ℕ} {f g : A → Reader B} (o : Out A) → IsPlain o → ((a : A) (us : List Token) → Bounded l c opens (f a us) (g a us)) → Bounded l c opens (then_read o f) (then_read o g)
then_plain o p h = bounded_bind (bounded_plain o p) h

-- past a token
pub then_token : {A B : Type 0} {l c : ℕ} {opens : B → ℕ} {f g : A → Reader B} (e : ℕ) (t : Place → TokenView → Option A) (ts : List Token)
    → ((a : A) (us : List Token) → Bounded l c opens (f a us) (g a us)) → Bounded l c opens (then_read (take e t ts) f) (then_read (take e t ts) g)
then_token e t ts h = then_plain (take e t ts) (plain_took (t (next e ts).place (next e ts).kind) ts) h

-- ---- the bound itself

-- where so many forms are open
abbrev pub within : (ℕ → ℕ → Reader Phrase) → ℕ → ℕ → Bound
within x l zero = bounded x l
within x l (suc d) = deeper (within x l d)

within_is : (x : ℕ → ℕ → Reader Phrase) (l d k : ℕ) → within x l d k ≡ bounded x l (d + k)
within_is x l zero k = ap (bounded x l) (omega arith)
within_is x l (suc d) k = within_is x l d (suc k) ∙ ap (bounded x l) (omega arith)

-- whether so many may be open
pub room_is : (x : ℕ → ℕ → Reader Phrase) (l d k : ℕ) → ((within x l d k ≡ Some (x (l - (d + k)))) × (d + k ≤ l)) ⊎ ((within x l d k ≡ None) × (l < d + k))
room_is x l d k = by (leb_tells (d + k) l)
  where
    by : ((nat_le (d + k) l ≡ true) × (d + k ≤ l)) ⊎ ((nat_le (d + k) l ≡ false) × (l < d + k))
        → ((within x l d k ≡ Some (x (l - (d + k)))) × (d + k ≤ l)) ⊎ ((within x l d k ≡ None) × (l < d + k))
    by (inl (e, h)) = inl (within_is x l d k ∙ ap (λ (b : Bool). if b then Some (x (l - (d + k))) else None) e, h)
    by (inr (e, h)) = inr (within_is x l d k ∙ ap (λ (b : Bool). if b then Some (x (l - (d + k))) else None) e, h)

-- too deep, beside what opens more
pub bounded_deep : {A : Type 0} {l c : ℕ} {opens : A → ℕ} (ts : List Token) (q : Out A) → l < c → ((a : A) (us : List Token) → q ≡ Ok (a, us) → c ≤ opens a) → Bounded l c opens (too_deep ts) q
bounded_deep ts q h g = record { told = inr (refl, λ a us i. (let m = g a us i in omega (arith, h, m))); grows = g }

module _ (x : ℕ → ℕ → Reader Phrase) (l d : ℕ) where
  -- with one form more open
  pub bounded_opened : {A : Type 0} {opens : A → ℕ} {q : Out A} (f : Bound → Reader A) (ts : List Token) → Bounded l (suc d) opens (f (within x l (suc d)) ts) q → Bounded l d opens (opened (within x l d) f ts) q
  bounded_opened {A} {opens} {q} f ts h = by (room_is x l d 1)
    where
      up : (o : Out A) → Told l (suc d) opens o q → suc d ≤ l → Told l d opens o q
      up (Ok y) (e, k) m = (e, λ z. k m)
      up (Err s) k m = k

      grows : (a : A) (us : List Token) → q ≡ Ok (a, us) → d ≤ opens a
      grows a us i = (let m = h.grows a us i in omega (arith, m))

      at : (o : Option (ℕ → Reader Phrase)) → within x l d 1 ≡ o → Bounded l d opens (if_room o (f (deeper (within x l d))) ts) q → Bounded l d opens (opened (within x l d) f ts) q
      at o e = subst (λ (o : Option (ℕ → Reader Phrase)). Bounded l d opens (if_room o (f (deeper (within x l d))) ts) q) (sym e)

      by : ((within x l d 1 ≡ Some (x (l - (d + 1)))) × (d + 1 ≤ l)) ⊎ ((within x l d 1 ≡ None) × (l < d + 1)) → Bounded l d opens (opened (within x l d) f ts) q
      by (inl (e, m)) = at (Some (x (l - (d + 1)))) e (record { told = up (f (within x l (suc d)) ts) h.told (omega (arith, m)); grows = grows })
      by (inr (e, m)) = at None e (record { told = inr (refl, λ a us i. (let z = h.grows a us i in omega (arith, z, m))); grows = grows })

  -- past a token that opens a form
  pub bounded_opening : {A : Type 0} (c : ℕ) (p : Reader A) (ts : List Token) → IsPlain (p ts) → Bounded l c (λ (a : A). max c (suc d)) (opening (within x l d) p ts) (p ts)
  bounded_opening {A} c p ts plain = by (room_is x l d 1)
    where
      at : (o : Option (ℕ → Reader Phrase)) → within x l d 1 ≡ o → Bounded l c (λ (a : A). max c (suc d)) (token_by o p ts) (p ts) → Bounded l c (λ (a : A). max c (suc d)) (opening (within x l d) p ts) (p ts)
      at o e = subst (λ (o : Option (ℕ → Reader Phrase)). Bounded l c (λ (a : A). max c (suc d)) (token_by o p ts) (p ts)) (sym e)

      there : (o : Out A) → IsPlain o → suc d ≤ l → Told l c (λ (a : A). max c (suc d)) o o
      there (Ok y) k m = (refl, λ z. omega (arith, z, m))
      there (Err s) k m = inl (k, λ a us i. absurd cc)

      shut : (o : Out A) → IsPlain o → l < suc d → Told l c (λ (a : A). max c (suc d)) (then_read o (λ a us. too_deep ts)) o
      shut (Ok y) k m = inr (refl, λ a us i. omega (arith, m))
      shut (Err s) k m = inl (k, λ a us i. absurd cc)

      by : ((within x l d 1 ≡ Some (x (l - (d + 1)))) × (d + 1 ≤ l)) ⊎ ((within x l d 1 ≡ None) × (l < d + 1)) → Bounded l c (λ (a : A). max c (suc d)) (opening (within x l d) p ts) (p ts)
      by (inl (e, m)) = at (Some (x (l - (d + 1)))) e (record { told = there (p ts) plain (omega (arith, m)); grows = λ a us i. omega arith })
      by (inr (e, m)) = at None e (record { told = shut (p ts) plain (omega (arith, m)); grows = λ a us i. omega arith })

  pub then_opening : {A B : Type 0} {c : ℕ} {opens : B → ℕ} {f g : A → Reader B} (e : ℕ) (t : Place → TokenView → Option A) (ts : List Token)
      → ((a : A) (us : List Token) → Bounded l (max c (suc d)) opens (f a us) (g a us)) → Bounded l c opens (then_read (opening (within x l d) (take e t) ts) f) (then_read (take e t ts) g)
  then_opening {A} {B} {c} e t ts h = bounded_bind (bounded_opening c (take e t) ts (plain_took (t (next e ts).place (next e ts).kind) ts)) h

-- ---- what only refuses

module _ {A : Type 0} (l d : ℕ) (opens : A → ℕ) where
  -- where d forms are open round it
  pub bounded_from : (o q : Out A) → d ≤ l → OnlyRefuses (l - d) opens o q → Bounded l d (λ a. d + opens a) o q
  bounded_from o q k h = record { told = by o h; grows = λ a us i. omega arith }
    where
      by : (o : Out A) → OnlyRefuses (l - d) opens o q → Told l d (λ a. d + opens a) o q
      by (Ok (a, us)) h = (let w = h.same a us refl in (w.0, λ z. (let low = w.1 in omega (arith, low, k))))
      by (Err (r, us)) h = elim (h.rule r us refl) [
        | inl e ↦ inl (e, h.none us (ap (λ (s : Rule). Err (s, us)) e))
        | inr e ↦ inr (e, λ a vs i. (let over = h.deep us (ap (λ (s : Rule). Err (s, us)) e) a vs i in omega (arith, over, k)))
      ]

-- where none is open round it
module _ {A : Type 0} (l : ℕ) (opens : A → ℕ) (o q : Out A) (h : Bounded l 0 (λ a. 0 + opens a) o q) where
  abbrev Nothing : Rule → Type 0
  Nothing r = ((r ≡ Syntax) × Refused q) ⊎ ((r ≡ TooDeep) × Deep l (λ a. 0 + opens a) q)

  none_is : Nothing Syntax → Refused q
  none_is (inl w) = w.1
  none_is (inr w) = absurd (let e = w.0 in cc)

  deep_is : Nothing TooDeep → Deep l opens q
  deep_is (inl w) = absurd (let e = w.0 in cc)
  deep_is (inr w) = λ a us i. (let over = w.1 a us i in omega (arith, over))

  rule_is : (r : Rule) → Nothing r → (r ≡ Syntax) ⊎ (r ≡ TooDeep)
  rule_is r (inl w) = inl w.0
  rule_is r (inr w) = inr w.0

  abbrev told_of : Out A → Type 0
  told_of o = Told l 0 (λ a. 0 + opens a) o q

  pub only_refuses : OnlyRefuses l opens o q
  only_refuses = record {
    same = λ a us e. (let w = subst told_of e h.told in (w.0, (let low = w.1 (omega arith) in omega (arith, low))));
    none = λ us e. none_is (subst told_of e h.told);
    deep = λ us e. deep_is (subst told_of e h.told);
    rule = λ r us e. rule_is r (subst told_of e h.told);
  }

-- what opens no more than may be open is read
module _ {A : Type 0} (l : ℕ) (opens : A → ℕ) (q : Out A) (a : A) (us : List Token) (e : q ≡ Ok (a, us)) (low : opens a ≤ l) where
  pub what_fits_is_read : (o : Out A) → OnlyRefuses l opens o q → o ≡ Ok (a, us)
  what_fits_is_read (Ok (b, vs)) h = sym (h.same b vs refl).0 ∙ e
  what_fits_is_read (Err (r, vs)) h = elim (h.rule r vs refl) [
    | inl i ↦ absurd (h.none vs (ap (λ (s : Rule). Err (s, vs)) i) a us e)
    | inr i ↦ absurd (let over = h.deep vs (ap (λ (s : Rule). Err (s, vs)) i) a us e in omega (arith, over, low))
  ]

-- ---- expressions

module _ (x : ℕ → ℕ → Reader Phrase) (bare : Phrase → ℕ) (w : ReadsWithin x bare) (l d : ℕ) where
  pub bounded_phrase : (e : ℕ) (ts : List Token) → Bounded l d (λ a. d + bare a) (a_phrase (within x l d) e ts) (read e ts)
  bounded_phrase e ts = by (room_is x l d 0)
    where
      at : (o : Option (ℕ → Reader Phrase)) → within x l d 0 ≡ o → Bounded l d (λ a. d + bare a) (phrase_by o e ts) (read e ts) → Bounded l d (λ a. d + bare a) (a_phrase (within x l d) e ts) (read e ts)
      at o h = subst (λ (o : Option (ℕ → Reader Phrase)). Bounded l d (λ a. d + bare a) (phrase_by o e ts) (read e ts)) (sym h)

      same : (n : ℕ) → n ≡ l - d → OnlyRefuses (l - d) bare (x n e ts) (read e ts)
      same n h = subst (λ (m : ℕ). OnlyRefuses (l - d) bare (x m e ts) (read e ts)) (sym h) (w (l - d) e ts)

      by : ((within x l d 0 ≡ Some (x (l - (d + 0)))) × (d + 0 ≤ l)) ⊎ ((within x l d 0 ≡ None) × (l < d + 0)) → Bounded l d (λ a. d + bare a) (a_phrase (within x l d) e ts) (read e ts)
      by (inl (h, m)) = at (Some (x (l - (d + 0)))) h (bounded_from l d bare (x (l - (d + 0)) e ts) (read e ts) (omega (arith, m)) (same (l - (d + 0)) (omega arith)))
      by (inr (h, m)) = at None h (bounded_deep ts (read e ts) (omega (arith, m)) (λ a us i. omega arith))
