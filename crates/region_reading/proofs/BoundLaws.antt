-- What a bound is where so many forms may open: a form deeper it is the bound of one form less, so code that counts down what may open reads within it.
use Rattle.std.proofs.Common.{◌≡◌, ℕ, suc, ◌-◌, ◌≤◌, nat_le, Bool, true, false, if◌then◌else◌, List, length, Option, Some, None, refl, ap, ◌∙◌, subst, arith}
use Rattle.std.proofs.Math.Dec.{leb-suc-suc, leb-zero}
use Rattle.std.proofs.lemmas.Option.{none-some, same_Some}
use Rattle.tla_tree.specs.Lexical.{Token}
use Rattle.tla_tree.specs.Spelling.{Phrase}
use Rattle.tla_tree.specs.Reader.{Reader, too_deep}
use Rattle.region_reading.specs.Bound.{Bound, bounded, deeper, phrase_by, a_phrase, if_room, opened, deep_at, token_by, opening, rest, Shortens}

module _ (x : ℕ → ℕ → Reader Phrase) where
  abbrev room : Bool → ℕ → Option (ℕ → Reader Phrase)
  room b n = if b then Some (x n) else None

  deeper_at : (l k : ℕ) → bounded x (suc l) (suc k) ≡ bounded x l k
  deeper_at l k = ap (λ (b : Bool). room b (suc l - suc k)) (leb-suc-suc k l) ∙ ap (room (nat_le k l)) (omega arith)

  here : (l : ℕ) → bounded x l 0 ≡ Some (x l)
  here l = ap (λ (b : Bool). room b (l - 0)) (leb-zero l) ∙ ap (room true) (omega arith)

  -- one form deeper
  pub deeper_is : (l : ℕ) → deeper (bounded x (suc l)) ≡ bounded x l
  deeper_is l = λ i k. deeper_at l k i

  pub phrase_is : (l e : ℕ) (ts : List Token) → a_phrase (bounded x l) e ts ≡ x l e ts
  phrase_is l e ts = ap (λ (o : Option (ℕ → Reader Phrase)). phrase_by o e ts) (here l)

  pub opened_is : {A : Type 0} (l : ℕ) (f : Bound → Reader A) (ts : List Token) → opened (bounded x (suc l)) f ts ≡ f (bounded x l) ts
  opened_is l f ts = ap (λ (o : Option (ℕ → Reader Phrase)). if_room o (f (deeper (bounded x (suc l)))) ts) (deeper_at l 0 ∙ here l) ∙ ap (λ (m : Bound). f m ts) (deeper_is l)

  pub none_opened : {A : Type 0} (f : Bound → Reader A) (ts : List Token) → opened (bounded x 0) f ts ≡ too_deep ts
  none_opened f ts = refl

  pub opening_is : {A : Type 0} (l : ℕ) (p : Reader A) (ts : List Token) → opening (bounded x (suc l)) p ts ≡ p ts
  opening_is l p ts = ap (λ (o : Option (ℕ → Reader Phrase)). token_by o p ts) (deeper_at l 0 ∙ here l)

  pub none_opening : {A : Type 0} (p : Reader A) (ts : List Token) → opening (bounded x 0) p ts ≡ deep_at p ts
  none_opening p ts = refl

  -- readers that leave no more tokens than they were given make such a bound
  pub bounded_shortens : ((l e : ℕ) (ts : List Token) → length (rest (x l e ts)) ≤ length ts) → (l : ℕ) → Shortens (bounded x l)
  bounded_shortens h l k f i e ts = by (nat_le k l) i
    where
      by : (b : Bool) → room b (l - k) ≡ Some f → length (rest (f e ts)) ≤ length ts
      by true i = subst (λ (g : ℕ → Reader Phrase). length (rest (g e ts)) ≤ length ts) (same_Some (x (l - k)) f i) (h (l - k) e ts)
      by false i = absurd (none-some f i)
