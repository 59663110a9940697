-- Lists in memory that are made member by member, as the pool grows: each member stands before what the rest stands for.
use Rattle.std.proofs.Common.{◌≡◌, ℕ, ◌+◌, ◌<◌, ◌≤◌, List, [], ◌∷◌, ◌++◌, length, map, take, get_or, refl, sym, ap, ◌∙◌, arith}
use Rattle.std.proofs.lemmas.List.{take_more, take_all}
use Rattle.tla_tree.specs.Tree.{Tree}
use Rattle.tla_tree.specs.Pool.{Keeps}
use Rattle.tla_tree.specs.Nesting.{greatest}
use Rattle.pcal_tree.proofs.InMemoryEach.{past_one_more}

-- all members, before the rest
abbrev pub onto : {A B : Type 0} → (A → B → B) → B → List A → B
onto f b [] = b
onto f b (x ∷ xs) = f x (onto f b xs)

onto_push : {A B : Type 0} (f : A → B → B) (b : B) (xs : List A) (y : A) → onto f b (xs ++ y ∷ []) ≡ onto f (f y b) xs
onto_push f b [] y = refl
onto_push f b (x ∷ xs) y = ap (f x) (onto_push f b xs y)

-- what a member stands for stays as the pool grows
abbrev pub Grows : {A B : Type 0} → (A → ℕ) → (List Tree → A → B → B) → Type 0
Grows past f = (ts us : List Tree) → Keeps ts us → (a : _) → past a ≤ length ts → f us a ≡ f ts a

-- the numbers of xs are of the pool, and xs stands there for what P makes of zs in the old one, before what P makes of any rest
pub record Made {A B : Type 0} (past : A → ℕ) (f : List Tree → A → B → B) (P : B → B) (old ts : List Tree) (xs zs : List A) : Type 0 where
  pub within : greatest (map past xs) ≤ length ts
  pub stand : (b : B) → onto (f ts) (P b) xs ≡ P (onto (f old) b zs)

module _ {A B : Type 0} (past : A → ℕ) (f : List Tree → A → B → B) (P : B → B) where
  onto_kept : Grows past f → (ts us : List Tree) → Keeps ts us → (b : B) (xs : List A) → greatest (map past xs) ≤ length ts → onto (f us) b xs ≡ onto (f ts) b xs
  onto_kept grows ts us k b [] h = refl
  onto_kept grows ts us k b (x ∷ xs) h = λ j. grows ts us k x (omega (arith, h)) j (onto_kept grows ts us k b xs (omega (arith, h)) j)

  -- one member more
  pub made_more : Grows past f → (old ts us : List Tree) → Keeps ts us → (xs zs : List A) (i : ℕ) (z r : A) → Made past f P old ts xs (take i zs) → z ≡ get_or zs i z → i < length zs → past r ≤ length us
      → ((b : B) → f us r (P b) ≡ P (f old z b)) → (ys : List A) → ys ≡ xs ++ r ∷ [] → Made past f P old us ys (take (i + 1) zs)
  made_more grows old ts us k xs zs i z r m here less within same ys e = record {
    within = let past_all = past_one_more past xs r in let all = ap (λ (l : List A). greatest (map past l)) e in omega (arith, all, past_all, m.within, k.longer, within);
    stand = λ b.
        ap (onto (f us) (P b)) e
        ∙ onto_push (f us) (P b) xs r
        ∙ ap (λ (c : B). onto (f us) c xs) (same b)
        ∙ onto_kept grows ts us k (P (f old z b)) xs m.within
        ∙ m.stand (f old z b)
        ∙ ap P (sym (onto_push (f old) b (take i zs) z) ∙ ap (onto (f old) b) (sym (take_more zs i z less ∙ ap (λ (y : A). take i zs ++ y ∷ []) (sym here))));
  }

  -- all members
  pub made_all : (old ts : List Tree) (xs zs : List A) (i : ℕ) → length zs ≤ i → Made past f P old ts xs (take i zs) → Made past f P old ts xs zs
  made_all old ts xs zs i less m = record { within = m.within; stand = λ b. m.stand b ∙ ap (λ (l : List A). P (onto (f old) b l)) (take_all i zs less) }
