-- The first offence of a list of things, found from the first of them on.
use Rattle.std.proofs.Common.{◌≡◌, ℕ, ◌+◌, ◌<◌, ◌≤◌, List, [], ◌∷◌, ◌++◌, length, take, map, get_or, Option, refl, sym, ap, ◌∙◌}
use Rattle.std.specs.List.{flat_map}
use Rattle.std.proofs.lemmas.Grind.{flat_map-append}
use Rattle.std.proofs.lemmas.List.{take_more, take_all, append-nil}
use Rattle.tla_token.specs.declared.rule.Refusal.{Refusal}
use Rattle.pcal_tree.specs.Offences.{first}
use Rattle.algorithm_answer.specs.Joined.{joined}
use Rattle.algorithm_answer.proofs.Joins.{joined_assoc, joined_none, first_append}

-- what was found at the start, with the offences of those that were passed
abbrev pub Found : {X : Type 0} → (X → List Refusal) → List X → ℕ → Option Refusal → Option Refusal → Type 0
Found f xs i start found = found ≡ joined start (first (flat_map f (take i xs)))

pub found_none : {X : Type 0} (f : X → List Refusal) (xs : List X) (start : Option Refusal) → Found f xs 0 start start
found_none f xs start = sym (joined_none start)

pub found_more : {X : Type 0} (f : X → List Refusal) (xs : List X) (i : ℕ) (x : X) (start found next : Option Refusal) → x ≡ get_or xs i x → i < length xs → next ≡ joined found (first (f x))
    → Found f xs i start found → Found f xs (i + 1) start next
found_more f xs i x start found next e l n h =
    n ∙ ap (λ (o : Option Refusal). joined o (first (f x))) h ∙ joined_assoc start (first (flat_map f (take i xs))) (first (f x))
    ∙ ap (joined start) (sym (first_append (flat_map f (take i xs)) (f x)) ∙ ap first (sym more))
  where
    more : flat_map f (take (i + 1) xs) ≡ flat_map f (take i xs) ++ f x
    more = ap (flat_map f) (take_more xs i x l) ∙ flat_map-append f (take i xs) (get_or xs i x ∷ []) ∙ (λ k. flat_map f (take i xs) ++ append-nil (f (sym e k)) k)

pub found_all : {X : Type 0} (f : X → List Refusal) (xs : List X) (i : ℕ) (start found : Option Refusal) → length xs ≤ i → Found f xs i start found → found ≡ joined start (first (flat_map f xs))
found_all f xs i start found l h = h ∙ ap (λ (ys : List _). joined start (first (flat_map f ys))) (take_all i xs l)

-- of things in memory, each with what it stands for
pub flat_mapped : {X Y Z : Type 0} (f : Y → List Z) (h : X → Y) (xs : List X) → flat_map (λ x. f (h x)) xs ≡ flat_map f (map h xs)
flat_mapped f h [] = refl
flat_mapped f h (x ∷ xs) = ap (λ (ys : List _). f (h x) ++ ys) (flat_mapped f h xs)
