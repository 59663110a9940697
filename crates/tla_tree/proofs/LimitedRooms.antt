-- The claims of reading within a limit, for all readers; and a form that opens, in a room.
use Rattle.std.proofs.Common.{◌≡◌, ◌⊎◌, ℕ, suc, ◌+◌, ◌<◌, ◌≤◌, Bool, true, false, List, [], ◌∷◌, length, Option, Some, None, inl, refl, sym, subst, arith}
use Rattle.tla_token.specs.declared.place.Place.{Place}
use Rattle.tla_tree.specs.declared.op.Op.{Op}
use Rattle.tla_tree.specs.Tree.{Word}
use Rattle.tla_tree.specs.Lexical.{Mark, Token}
use Rattle.tla_tree.specs.Spelling.{Field, Phrase}
use Rattle.tla_tree.specs.Nesting.{counts_in, all_in, binds_in, fields_in, settings_in, path_in, bullets_in, arms_in, locals_in}
use Rattle.tla_tree.specs.Reader.{Out, Reader, next, tail, skip, bullet_of, Context, behind, is_behind_in, element, Readers, Room, within, any, read_by, opened}
use Rattle.tla_tree.proofs.SpellAhead.{Ahead}
use Rattle.tla_tree.proofs.DeepCounts.{Fit, Deep, fit_front, fit_both, deep_fewer, lift}
use Rattle.tla_tree.proofs.Limited.{Fitting, Late, Limited, On, late_more, limited_skip, limited_past}

-- ---- behind `x \in`, the set for x or the element
-- it fits as one of them
abbrev pub Alive : Bool → Bool → ℕ → ℕ → Place → Word → Place → Phrase → Type 0
Alive linked l b k p y q a = Fitting l b (counts_in linked k a) ⊎ ((c : Phrase) × (element p y q a ≡ Some c) × Fitting l b (counts_in linked k c))

abbrev pub BothFit : Bool → Bool → ℕ → ℕ → Place → Word → Place → (List ℕ → List ℕ) → Phrase → Type 0
BothFit linked l b k p y q x a = Fitting l b x × Alive linked l b k p y q a

-- as both it is late
abbrev pub BothLate : Bool → ℕ → ℕ → Place → Word → Place → (List ℕ → List ℕ) → Phrase → ℕ → ℕ → Type 0
BothLate linked b k p y q x a j t = Late b (λ s. x (k ∷ k ∷ counts_in linked k a s)) j t × ((c : Phrase) → element p y q a ≡ Some c → Late b (λ s. x (counts_in linked k c s)) j t)

-- after `x \in` alone
abbrev pub InLate : ℕ → ℕ → (List ℕ → List ℕ) → ℕ → ℕ → Type 0
InLate b k x j t = Late b (λ s. x (k ∷ k ∷ s)) j t × Late b (λ s. x (k ∷ (k + 0 + 1) ∷ s)) j t

-- ---- the claims, where k forms are open and b may be
pub record AreLimited (linked l : Bool) (b k : ℕ) (r q : Readers) : Type 0 where
  pub low : l ≡ true → k ≤ b
  pub expr : (e : ℕ) (c : Context) → is_behind_in c ≡ false → (x : List ℕ → List ℕ) → Ahead x → (ts : List Token) → On l b x (λ a s. x (counts_in linked k a s)) ts (r.expr e c ts) (q.expr e c ts)
  pub set : (e : ℕ) (p : Place) (y : Word) (s : Place) (x : List ℕ → List ℕ) → Ahead x → (ts : List Token) → Limited (Fitting l b x) (InLate b k x) (BothFit linked l b k p y s x) (BothLate linked b k p y s x) ts (r.expr e (behind p y s) ts) (q.expr e (behind p y s) ts)
  pub short : (e : ℕ) (x : List ℕ → List ℕ) → Ahead x → (ts : List Token) → On l b x (λ a s. x (counts_in linked k a s)) ts (r.short e ts) (q.short e ts)
  pub postfix : (e : ℕ) (a : Phrase) (x : List ℕ → List ℕ) → Ahead x → (ts : List Token) → On l b (λ s. x (counts_in linked k a s)) (λ d s. x (counts_in linked k d s)) ts (r.postfix e a ts) (q.postfix e a ts)
  pub climb : (e : ℕ) (c : Context) → is_behind_in c ≡ false → (a : Phrase) (x : List ℕ → List ℕ) → Ahead x → (ts : List Token) → On l b (λ s. x (counts_in linked k a s)) (λ d s. x (counts_in linked k d s)) ts (r.climb e c a ts) (q.climb e c a ts)
  pub climb_set : (e : ℕ) (p : Place) (y : Word) (s : Place) (a : Phrase) (x : List ℕ → List ℕ) → Ahead x → (ts : List Token) → Limited (BothFit linked l b k p y s x a) (BothLate linked b k p y s x a) (BothFit linked l b k p y s x) (BothLate linked b k p y s x) ts (r.climb e (behind p y s) a ts) (q.climb e (behind p y s) a ts)
  pub phrases : (e : ℕ) (x : List ℕ → List ℕ) → Ahead x → (ts : List Token) → On l b x (λ xs s. x (all_in linked k xs s)) ts (r.phrases e ts) (q.phrases e ts)
  pub binds : (e : ℕ) (p : Place) (y : Word) (x : List ℕ → List ℕ) → Ahead x → (ts : List Token) → On l b (λ s. x (k ∷ s)) (λ bs s. x (binds_in linked k bs s)) ts (r.binds e p y ts) (q.binds e p y ts)
  pub fields : (e : ℕ) (m : Mark) (f : Field) (x : List ℕ → List ℕ) → Ahead x → (ts : List Token) → On l b (λ s. x (k ∷ s)) (λ fs s. x (fields_in linked k fs s)) ts (r.fields e m f ts) (q.fields e m f ts)
  pub settings : (e : ℕ) (x : List ℕ → List ℕ) → Ahead x → (ts : List Token) → On l b x (λ ss s. x (settings_in linked k ss s)) ts (r.settings e ts) (q.settings e ts)
  pub path : (e : ℕ) (x : List ℕ → List ℕ) → Ahead x → (ts : List Token) → On l b x (λ path s. x (path_in linked k path s)) ts (r.path e ts) (q.path e ts)
  pub bullets : (e : ℕ) (o : Op) (c : ℕ) (x : List ℕ → List ℕ) → Ahead x → (ts : List Token) (p : Place) → bullet_of o c (next e ts).place (next e ts).kind ≡ Some p → On l b x (λ bs s. x (bullets_in linked k bs s)) ts (r.bullets e o c ts) (q.bullets e o c ts)
  pub arms : (e : ℕ) (x : List ℕ → List ℕ) → Ahead x → (ts : List Token) → On l b x (λ xs s. x (arms_in linked k xs s)) ts (r.arms e ts) (q.arms e ts)
  pub locals : (e : ℕ) (x : List ℕ → List ℕ) → Ahead x → (ts : List Token) → On l b x (λ ls s. x (locals_in linked k ls s)) ts (r.locals e ts) (q.locals e ts)

-- ---- rooms
abbrev pub ReadersFit : Bool → Bool → ℕ → ℕ → Readers → Option Readers → Type 0
ReadersFit linked l b k q (Some d) = AreLimited linked l b k d q
ReadersFit linked l b k q None = b < k

-- a phrase fits, or one of its own counts is too great
abbrev pub PhraseFits : Bool → Bool → ℕ → ℕ → Phrase → Bool → Type 0
PhraseFits linked l b k a true = Fitting l b (counts_in linked k a)
PhraseFits linked l b k a false = (s : List ℕ) → Deep b (counts_in linked k a s) (length s)

pub record IsRoom (linked l : Bool) (b k : ℕ) (m : Room) (q : Readers) : Type 0 where
  pub at : (j c : ℕ) → (l ≡ true → c ≡ k + j) → ReadersFit linked l b c q (m.at j)
  pub fits : (j c : ℕ) → (l ≡ true → c ≡ k + j) → (l ≡ true → c ≤ b) → (a : Phrase) → PhraseFits linked l b c a (m.fits j a)
  pub unlimited : (c : ℕ) → AreLimited linked false b c q q
  pub links : l ≡ true → m.linked ≡ linked

pub inner_room : (linked l : Bool) (b k : ℕ) (m : Room) (q : Readers) → IsRoom linked l b k m q → (j c : ℕ) → (l ≡ true → c ≡ k + suc j) → IsRoom linked l b c (within j m) q
inner_room linked l b k m q v j c e = record {
  at = λ i d f. v.at (suc j + i) d (moved i d f);
  fits = λ i d f w a. v.fits (suc j + i) d (moved i d f) w a;
  unlimited = v.unlimited;
  links = v.links;
}
  where
    moved : (i d : ℕ) → (l ≡ true → d ≡ c + i) → l ≡ true → d ≡ k + (suc j + i)
    moved i d f z = (let h = e z in let g = f z in omega (arith, h, g))

pub any_room : (linked : Bool) (b k : ℕ) (q : Readers) → ((c : ℕ) → AreLimited linked false b c q q) → IsRoom linked false b k (any q) q
any_room linked b k q h = record {
  at = λ j c e. h c;
  fits = λ j c e w a. λ i s f. absurd cc;
  unlimited = h;
  links = λ z. absurd cc;
}

-- ---- a form that opens at a token, read by f
module _ {A : Type 0} (linked l : Bool) (b k : ℕ) (m : Room) (r q : Readers) (h : AreLimited linked l b k r q) (v : IsRoom linked l b k m q) where
  pub limited_opened_by : (j c : ℕ) → (l ≡ true → c ≡ k + suc j) → (x : List ℕ → List ℕ) → Ahead x → (G : Bool → A → Type 0) (M : A → ℕ → ℕ → Type 0) (f : Readers → Room → Readers → Reader A) (g : Room → Readers → Reader A) (o : Out A)
      → {t : Token} {ts us : List Token} → t ∷ us ≡ ts → ((i : Room) (d : Readers) → g i d ts ≡ f r i d us) → o ≡ f q (any q) q us
      → ((l' : Bool) (r' : Readers) (i : Room) (d : Readers) → AreLimited linked l' b k r' q → IsRoom linked l' b c i q → AreLimited linked l' b c d q → Limited (Fitting l' b (λ s. x (c ∷ s))) (Late b (λ s. x (c ∷ s))) (G l') M us (f r' i d us) (f q (any q) q us))
      → Limited (Fitting l b x) (Late b x) (G l) M ts (opened m j g ts) o
  limited_opened_by j c e x ax G M f g o {t} {ts} {us} s u w body = rw w (by (m.at (suc j)) (v.at (suc j) c e))
    where
      by : (z : Option Readers) → ReadersFit linked l b c q z → Limited (Fitting l b x) (Late b x) (G l) M ts (read_by z (g (within j m)) ts) (f q (any q) q us)
      by (Some d) a = rw (u (within j m) d) (limited_skip l b x c s a.low (body l r (within j m) d h (inner_room linked l b k m q v j c e) a))
      by None late = limited_past s (λ n. late_more b x c n (length us)) (λ s n i. lift ax b (c ∷ s) n (inl (late, omega (arith, i))))
          (body false q (any q) q (v.unlimited k) (any_room linked b c q v.unlimited) (v.unlimited c))

  pub limited_opened : (j c : ℕ) → (l ≡ true → c ≡ k + suc j) → (x : List ℕ → List ℕ) → Ahead x → (G : Bool → A → Type 0) (M : A → ℕ → ℕ → Type 0) (f : Readers → Room → Readers → Reader A)
      → {t : Token} {ts : List Token} → t ∷ tail ts ≡ ts
      → ((l' : Bool) (r' : Readers) (i : Room) (d : Readers) → AreLimited linked l' b k r' q → IsRoom linked l' b c i q → AreLimited linked l' b c d q → Limited (Fitting l' b (λ s. x (c ∷ s))) (Late b (λ s. x (c ∷ s))) (G l') M (tail ts) (f r' i d (tail ts)) (f q (any q) q (tail ts)))
      → Limited (Fitting l b x) (Late b x) (G l) M ts (opened m j (λ i d. skip (f r i d)) ts) (skip (f q (any q) q) ts)
  limited_opened j c e x ax G M f {t} {ts} s body = limited_opened_by j c e x ax G M f (λ i d. skip (f r i d)) (f q (any q) q (tail ts)) s (λ i d. refl) refl body

-- ---- what is too deep in itself, and what fits
pub dead_late : (b : ℕ) (x : List ℕ → List ℕ) → Ahead x → (z : List ℕ → List ℕ) → ((s : List ℕ) → Deep b (z s) (length s)) → (j t : ℕ) → j ≤ t → Late b (λ s. x (z s)) j t
dead_late b x ax z d j t h = λ s n i. lift ax b (z s) n (deep_fewer b (z s) (length s) n (omega (arith, i, h)) (d s))

pub fitting_less : (l : Bool) (b : ℕ) (x : List ℕ → List ℕ) → Ahead x → (c : ℕ) → Fitting l b (λ s. x (c ∷ s)) → Fitting l b x
fitting_less l b x ax c f = λ e s i.
    (let front = fit_front b (x []) (c ∷ []) (subst (λ (r : List ℕ). Fit b r) (ax.is [] (c ∷ [])) (f e [] tt)) in
    subst (λ (r : List ℕ). Fit b r) (sym (ax.is [] s)) (fit_both b (x []) s front i))
