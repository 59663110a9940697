-- Offences behind those that were found, and what of a list is still to be looked at.
use Rattle.std.proofs.Common.{◌≡◌, ℕ, ◌+◌, ◌<◌, ◌≤◌, List, ◌∷◌, ◌++◌, length, drop, map, get_or, refl, sym, ap, ◌∙◌, append_assoc, append-nil}
use Rattle.std.specs.List.{flat_map}
use Rattle.std.proofs.lemmas.List.{drop_more, drop_all}
use Rattle.tla_token.specs.declared.rule.Refusal.{Refusal}
use Rattle.label_jumps.proofs.FoundLaws.{flat_mapped}

-- one list after another
pub added_then : (a b c xs ys : List Refusal) → b ≡ a ++ xs → c ≡ b ++ ys → c ≡ a ++ (xs ++ ys)
added_then a b c xs ys h k = k ∙ ap (λ (o : List Refusal). o ++ ys) h ∙ append_assoc a xs ys

-- one list before another
pub added_before : (a b xs ys : List Refusal) → b ≡ a ++ xs → b ++ ys ≡ a ++ (xs ++ ys)
added_before a b xs ys h = added_then a b (b ++ ys) xs ys h refl

-- of a list of things, what is left of it
module _ {X : Type 0} (f : X → List Refusal) (xs : List X) where
  pub added_more : (a b : List Refusal) (i : ℕ) (x : X) → x ≡ get_or xs i x → i < length xs → b ≡ a ++ f x → b ++ flat_map f (drop (i + 1) xs) ≡ a ++ flat_map f (drop i xs)
  added_more a b i x e l h =
      added_before a b (f x) (flat_map f (drop (i + 1) xs)) h
      ∙ ap (λ (ys : List X). a ++ flat_map f ys) (ap (λ (y : X). y ∷ drop (i + 1) xs) e ∙ sym (drop_more xs i x l))

  pub added_all : (a : List Refusal) (i : ℕ) → length xs ≤ i → a ++ flat_map f (drop i xs) ≡ a
  added_all a i l = ap (λ (ys : List X). a ++ flat_map f ys) (drop_all i xs l) ∙ append-nil a

pub added_mapped : {X Y : Type 0} (f : Y → List Refusal) (h : X → Y) (xs : List X) (i : ℕ) (a b : List Refusal) → length xs ≤ i
    → b ++ flat_map (λ x. f (h x)) (drop i xs) ≡ a ++ flat_map (λ x. f (h x)) xs → b ≡ a ++ flat_map f (map h xs)
added_mapped f h xs i a b l e =
    sym (added_all (λ x. f (h x)) xs b i l) ∙ e ∙ ap (λ (rs : List Refusal). a ++ rs) (flat_mapped f h xs)
