-- Reading within a limit beside reading without: where it goes on, both read the same, and what was read is within the limit; a token that can't come is refused by
-- both; and a token at which too many forms would be open is passed without the limit, and then what is read is too deep there or before.
use Rattle.std.proofs.Common.{◌≡◌, ◌⊎◌, ℕ, suc, ◌+◌, ◌≤◌, Bool, true, List, [], ◌∷◌, ◌++◌, length, Option, Some, None, Ok, Err, inl, inr, refl, sym, ap, ◌∙◌, subst, append_assoc, arith}
use Rattle.tla_token.specs.declared.place.Place.{Place}
use Rattle.tla_token.specs.declared.rule.Rule.{Rule}
use Rattle.tla_token.specs.declared.rule.Rule.TheVariants.{TooDeep, Syntax}
use Rattle.tla_tree.specs.declared.op.Op.{Op}
use Rattle.tla_tree.specs.Lexical.{Mark, Key, TokenView, Token}
use Rattle.tla_tree.specs.Reader.{Stop, Out, Reader, then_read, gives, refuses, too_deep, next, took, take, place_if, is_mark, is_key, is_sign, a_mark, a_key, a_sign, word_of, field_of, a_word, a_field}
use Rattle.tla_tree.proofs.Alike.{rest_of, Within}
use Rattle.tla_tree.proofs.SoundTokens.{ok_is, mark_ok, key_ok, sign_ok, word_ok, field_ok}
use Rattle.tla_tree.proofs.DeepCounts.{Fit, Deep}

-- where there is a limit, what is put before counts that fit fits
abbrev pub Fitting : Bool → ℕ → (List ℕ → List ℕ) → Type 0
Fitting l b x = l ≡ true → (r : List ℕ) → Fit b r → Fit b (x r)

-- with t tokens to come, one of the counts is too great already, where j tokens were still to come after it
abbrev pub Late : ℕ → (List ℕ → List ℕ) → ℕ → ℕ → Type 0
Late b x j t = (r : List ℕ) (m : ℕ) → m + t ≤ j + length r → Deep b (x r) m

-- both refuse a token
abbrev pub Plain : {A : Type 0} → Stop → Out A → Type 0
Plain s q = (s.0 ≡ Syntax) × ((v : Rule) × (q ≡ Err (v, s.1)))

-- too deep at a token, which is passed without the limit
abbrev pub Past : {A : Type 0} → (A → ℕ → ℕ → Type 0) → Stop → Out A → Type 0
Past {A} M s q = (t : Token) × (u : List Token) × (s.0 ≡ TooDeep) × (s.1 ≡ t ∷ u) × Within u q × ((a : A) (us : List Token) → q ≡ Ok (a, us) → M a (length u) (length us))

abbrev pub Told : {A : Type 0} → Type 0 → (A → Type 0) → (A → ℕ → ℕ → Type 0) → Out A → Out A → Type 0
Told F G M (Ok x) q = (q ≡ Ok x) × (F → G x.0)
Told F G M (Err s) q = Plain s q ⊎ Past M s q

-- F and L are said of what was read before, G and M of it with what is read here: that it fits, and that it is late
pub record Limited {A : Type 0} (F : Type 0) (L : ℕ → ℕ → Type 0) (G : A → Type 0) (M : A → ℕ → ℕ → Type 0) (ts : List Token) (o q : Out A) : Type 0 where
  pub told : Told F G M o q
  pub on : (a : A) (us : List Token) → q ≡ Ok (a, us) → (j : ℕ) → L j (length ts) → M a j (length us)
  pub within : Within ts q
  pub left : length (rest_of o) ≤ length ts

-- with what was put before, and then
abbrev pub On : {A : Type 0} → Bool → ℕ → (List ℕ → List ℕ) → (A → List ℕ → List ℕ) → List Token → Out A → Out A → Type 0
On l b x y ts o q = Limited (Fitting l b x) (Late b x) (λ a. Fitting l b (y a)) (λ a. Late b (y a)) ts o q

-- ---- what was read
pub told_ok : {A : Type 0} {F : Type 0} {L : ℕ → ℕ → Type 0} {G : A → Type 0} {M : A → ℕ → ℕ → Type 0} {ts : List Token} {o q : Out A} {a : A} {us : List Token} → Limited F L G M ts o q → o ≡ Ok (a, us) → (q ≡ Ok (a, us)) × (F → G a)
told_ok {A} {F} {L} {G} {M} {ts} {o} {q} {a} {us} h e = subst (λ (x : Out A). Told F G M x q) e h.told

pub told_err : {A : Type 0} {F : Type 0} {L : ℕ → ℕ → Type 0} {G : A → Type 0} {M : A → ℕ → ℕ → Type 0} {ts : List Token} {o q : Out A} {s : Stop} → Limited F L G M ts o q → o ≡ Err s → Plain s q ⊎ Past M s q
told_err {A} {F} {L} {G} {M} {ts} {o} {q} {s} h e = subst (λ (x : Out A). Told F G M x q) e h.told

pub limited_gives : {A : Type 0} {G : A → Type 0} {M : A → ℕ → ℕ → Type 0} (a : A) (ts : List Token) → Limited (G a) (M a) G M ts (gives a ts) (gives a ts)
limited_gives {A} {G} {M} a ts = record {
  told = (refl, λ f. f);
  on = λ c us e j l. (let w = ok_is e in subst (λ (us : List Token). M c j (length us)) w.1 (subst (λ (d : A). M d j (length ts)) w.0 l));
  within = ([], refl);
  left = omega arith;
}

pub limited_refuses : {A : Type 0} {F : Type 0} {L : ℕ → ℕ → Type 0} {G : A → Type 0} {M : A → ℕ → ℕ → Type 0} (ts : List Token) → Limited F L G M ts (refuses ts) (refuses ts)
limited_refuses ts = record {
  told = inl (refl, (Syntax, refl));
  on = λ c us e j l. absurd cc;
  within = ([], refl);
  left = omega arith;
}

-- ---- one after the other
within_then : {A B : Type 0} (g : A → Reader B) (r : List Token) (q : Out A) → Within r q → ((a : A) (us : List Token) → q ≡ Ok (a, us) → Within us (g a us)) → Within r (then_read q g)
within_then g r (Ok (a, u)) (x, e) h = (let w = h a u refl in (x ++ w.0, e ∙ ap (λ (v : List Token). x ++ v) w.1 ∙ sym (append_assoc x w.0 (rest_of (g a u)))))
within_then g r (Err u) w h = w

plain_then : {A B : Type 0} (g : A → Reader B) (s : Stop) (q : Out A) → Plain s q → Plain s (then_read q g)
plain_then g s q (d, (v, e)) = (d, (v, rw e refl))

module _ {A B : Type 0} (F : Type 0) (L : ℕ → ℕ → Type 0) (G : A → Type 0) (M : A → ℕ → ℕ → Type 0) (H : B → Type 0) (N : B → ℕ → ℕ → Type 0) (f g : A → Reader B) where
  abbrev Then : Out A → Type 0
  Then q = (a : A) (us : List Token) → q ≡ Ok (a, us) → Limited (G a) (M a) H N us (f a us) (g a us)

  past_then : (s : Stop) (q : Out A) → Then q → Past M s q → Past N s (then_read q g)
  past_then s (Ok (a, us)) h (t, u, d, e, w, late) = (t, u, d, e, within_then g u (Ok (a, us)) w (λ c vs i. (h c vs i).within), λ c vs i. (h a us refl).on c vs i (length u) (late a us refl))
  past_then s (Err v) h (t, u, d, e, w, late) = (t, u, d, e, w, λ a us i. absurd cc)

  told_then : (o q : Out A) → Told F G M o q → Then q → Told F H N (then_read o f) (then_read q g)
  told_then (Ok (a, us)) q (e, fit) h = (let w = h a us e in rw e (by (f a us) w.told))
    where
      by : (p : Out B) → Told (G a) H N p (g a us) → Told F H N p (g a us)
      by (Ok y) (i, k) = (i, λ x. k (fit x))
      by (Err s) k = k
  told_then (Err s) q (inl p) h = inl (plain_then g s q p)
  told_then (Err s) q (inr p) h = inr (past_then s q h p)

  on_then : (ts : List Token) (q : Out A) → ((a : A) (us : List Token) → q ≡ Ok (a, us) → (j : ℕ) → L j (length ts) → M a j (length us)) → Then q → (b : B) (vs : List Token) → then_read q g ≡ Ok (b, vs) → (j : ℕ) → L j (length ts) → N b j (length vs)
  on_then ts (Ok (a, us)) on h b vs e j l = (h a us refl).on b vs e j (on a us refl j l)
  on_then ts (Err s) on h b vs e j l = absurd cc

left_then : {A B : Type 0} (f : A → Reader B) (n : ℕ) (o : Out A) → length (rest_of o) ≤ n → ((a : A) (us : List Token) → o ≡ Ok (a, us) → length (rest_of (f a us)) ≤ length us) → length (rest_of (then_read o f)) ≤ n
left_then f n (Ok (a, us)) h i = (let w = i a us refl in omega (arith, w, h))
left_then f n (Err s) h i = h

pub limited_bind : {A B : Type 0} {F : Type 0} {L : ℕ → ℕ → Type 0} {G : A → Type 0} {M : A → ℕ → ℕ → Type 0} {H : B → Type 0} {N : B → ℕ → ℕ → Type 0} {f g : A → Reader B} {ts : List Token} {o q : Out A}
    → Limited F L G M ts o q → ((a : A) (us : List Token) → q ≡ Ok (a, us) → Limited (G a) (M a) H N us (f a us) (g a us)) → Limited F L H N ts (then_read o f) (then_read q g)
limited_bind {A} {B} {F} {L} {G} {M} {H} {N} {f} {g} {ts} {o} {q} k h = record {
  told = told_then F L G M H N f g o q k.told h;
  on = on_then F L G M H N f g ts q k.on h;
  within = within_then g ts q k.within (λ a us e. (h a us e).within);
  left = left_then f (length ts) o k.left (λ a us e. (h a us (told_ok k e).0).left);
}

-- ---- said in other words
pub limited_as : {A : Type 0} {F F' : Type 0} {L L' : ℕ → ℕ → Type 0} {G G' : A → Type 0} {M M' : A → ℕ → ℕ → Type 0} {ts : List Token} {o q : Out A}
    → (F' → F) → ((j t : ℕ) → L' j t → L j t) → ((a : A) → F' → G a → G' a) → ((a : A) (us : List Token) → q ≡ Ok (a, us) → (j : ℕ) → M a j (length us) → M' a j (length us)) → Limited F L G M ts o q → Limited F' L' G' M' ts o q
limited_as {A} {F} {F'} {L} {L'} {G} {G'} {M} {M'} {ts} {o} {q} f l g m h = record {
  told = by o h.told;
  on = λ a us e j k. m a us e j (h.on a us e j (l j (length ts) k));
  within = h.within;
  left = h.left;
}
  where
    by : (p : Out A) → Told F G M p q → Told F' G' M' p q
    by (Ok x) (e, k) = (e, λ z. g x.0 z (k (f z)))
    by (Err s) (inl p) = inl p
    by (Err s) (inr (t, u, d, e, w, late)) = inr (t, u, d, e, w, λ a us i. m a us i (length u) (late a us i))

-- ---- past a token
within_more : {A : Type 0} (t : Token) (ts : List Token) (q : Out A) → Within ts q → Within (t ∷ ts) q
within_more t ts q w = (t ∷ w.0, ap (λ (u : List Token). t ∷ u) w.1)

pub late_more : (b : ℕ) (x : List ℕ → List ℕ) (c j t : ℕ) → Late b x j (suc t) → Late b (λ r. x (c ∷ r)) j t
late_more b x c j t l = λ r m h. l (c ∷ r) m (omega (arith, h))

pub fitting_more : (l : Bool) (b : ℕ) (x : List ℕ → List ℕ) (c : ℕ) → (l ≡ true → c ≤ b) → Fitting l b x → Fitting l b (λ r. x (c ∷ r))
fitting_more l b x c h f = λ e r k. f e (c ∷ r) (h e, k)

pub limited_next : {A : Type 0} {F F' : Type 0} {L L' : ℕ → ℕ → Type 0} {G : A → Type 0} {M : A → ℕ → ℕ → Type 0} {t : Token} {ts us : List Token} {o q : Out A}
    → t ∷ us ≡ ts → (F → F') → ((j : ℕ) → L j (suc (length us)) → L' j (length us)) → Limited F' L' G M us o q → Limited F L G M ts o q
limited_next {A} {F} {F'} {L} {L'} {G} {M} {t} {ts} {us} {o} {q} s f l h = rw (sym s) (record {
  told = by o h.told;
  on = λ a vs e j k. h.on a vs e j (l j k);
  within = within_more t us q h.within;
  left = (let w = h.left in omega (arith, w));
})
  where
    by : (p : Out A) → Told F' G M p q → Told F G M p q
    by (Ok y) (e, k) = (e, λ z. k (f z))
    by (Err s) k = k

-- a token with its count
pub limited_skip : {A : Type 0} (l : Bool) (b : ℕ) (x : List ℕ → List ℕ) (c : ℕ) {G : A → Type 0} {M : A → ℕ → ℕ → Type 0} {t : Token} {ts us : List Token} {o q : Out A}
    → t ∷ us ≡ ts → (l ≡ true → c ≤ b) → Limited (Fitting l b (λ r. x (c ∷ r))) (Late b (λ r. x (c ∷ r))) G M us o q → Limited (Fitting l b x) (Late b x) G M ts o q
limited_skip {A} l b x c {G} {M} {t} {ts} {us} {o} {q} s low h = limited_next s (fitting_more l b x c low) (λ j. late_more b x c j (length us)) h

-- it is too deep there, and passed without the limit
pub limited_past : {A : Type 0} {F F' : Type 0} {L L' : ℕ → ℕ → Type 0} {G G' : A → Type 0} {M : A → ℕ → ℕ → Type 0} {t : Token} {ts us : List Token} {o q : Out A}
    → t ∷ us ≡ ts → ((j : ℕ) → L j (suc (length us)) → L' j (length us)) → L' (length us) (length us) → Limited F' L' G' M us o q → Limited F L G M ts (too_deep ts) q
limited_past {A} {F} {F'} {L} {L'} {G} {G'} {M} {t} {ts} {us} {o} {q} s l here h = rw (sym s) (record {
  told = inr (t, us, refl, refl, h.within, λ a vs e. h.on a vs e (length us) here);
  on = λ a vs e j k. h.on a vs e j (l j k);
  within = within_more t us q h.within;
  left = omega arith;
})

-- ---- a token that is taken
took_same : {A : Type 0} (F : Type 0) (G : A → Type 0) (M : A → ℕ → ℕ → Type 0) (o : Option A) (ts : List Token) → ((a : A) → F → G a) → Told F G M (took o ts) (took o ts)
took_same F G M (Some a) ts h = (refl, h a)
took_same F G M None ts h = inl (refl, (Syntax, refl))

pub limited_take : {A : Type 0} (l : Bool) (b c : ℕ) (x : List ℕ → List ℕ) (e : ℕ) (f : Place → TokenView → Option A) → (l ≡ true → c ≤ b) → ((ts : List Token) (a : A) (us : List Token) → take e f ts ≡ Ok (a, us) → (t : Token) × (t ∷ us ≡ ts))
    → (ts : List Token) → On l b x (λ a r. x (c ∷ r)) ts (take e f ts) (take e f ts)
limited_take {A} l b c x e f low shape ts = record {
  told = took_same (Fitting l b x) (λ a. Fitting l b (λ r. x (c ∷ r))) (λ a. Late b (λ r. x (c ∷ r))) (f (next e ts).place (next e ts).kind) ts (λ a. fitting_more l b x c low);
  on = λ a us i j k. (let w = shape ts a us i in late_more b x c j (length us) (subst (λ (n : ℕ). Late b x j n) (ap length (sym w.1)) k));
  within = by (f (next e ts).place (next e ts).kind) ts;
  left = few (f (next e ts).place (next e ts).kind) ts;
}
  where
    few : (o : Option A) (ts : List Token) → length (rest_of (took o ts)) ≤ length ts
    few (Some a) [] = omega arith
    few (Some a) (t ∷ ts) = omega arith
    few None ts = omega arith

    by : (o : Option A) (ts : List Token) → Within ts (took o ts)
    by (Some a) [] = ([], refl)
    by (Some a) (t ∷ ts) = (t ∷ [], refl)
    by None ts = ([], refl)

module _ (l : Bool) (b c : ℕ) (low : l ≡ true → c ≤ b) (x : List ℕ → List ℕ) (e : ℕ) where
  pub limited_mark : (m : Mark) (ts : List Token) → On l b x (λ p r. x (c ∷ r)) ts (a_mark e m ts) (a_mark e m ts)
  limited_mark m = limited_take l b c x e (place_if (is_mark m)) low (λ ts p us h. (_, (mark_ok e m ts p us h).1))

  pub limited_key : (k : Key) (ts : List Token) → On l b x (λ p r. x (c ∷ r)) ts (a_key e k ts) (a_key e k ts)
  limited_key k = limited_take l b c x e (place_if (is_key k)) low (λ ts p us h. (_, (key_ok e k ts p us h).1))

  pub limited_sign : (o : Op) (ts : List Token) → On l b x (λ p r. x (c ∷ r)) ts (a_sign e o ts) (a_sign e o ts)
  limited_sign o = limited_take l b c x e (place_if (is_sign o)) low (λ ts p us h. (_, (sign_ok e o ts p us h).1))

  pub limited_word : (ts : List Token) → On l b x (λ y r. x (c ∷ r)) ts (a_word e ts) (a_word e ts)
  limited_word = limited_take l b c x e word_of low (λ ts p us h. (_, (word_ok e ts p us h).1))

  pub limited_field : (ts : List Token) → On l b x (λ y r. x (c ∷ r)) ts (a_field e ts) (a_field e ts)
  limited_field = limited_take l b c x e field_of low (λ ts p us h. (_, (field_ok e ts p us h).1))
