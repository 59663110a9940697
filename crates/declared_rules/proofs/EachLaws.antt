-- Facts of each element of lists that are joined, mapped and flattened, and of lists in which no element passes a test.
use Rattle.std.proofs.Common.{◌≡◌, List, [], ◌∷◌, ◌++◌, map, Bool, true, false, refl, sym}
use Rattle.std.specs.List.{list_any, flat_map, AllByRecursion}
use Rattle.pcal_tree.proofs.SetLaws.{none_of_both, none_together}
use Rattle.pcal_tree.proofs.OneStand.{every_both}

pub both_false : (a b : Bool) → (a ≡ false → b ≡ false) → (b ≡ false → a ≡ false) → a ≡ b
both_false true true h k = refl
both_false true false h k = k refl
both_false false true h k = sym (h refl)
both_false false false h k = refl

pub every_split : {X : Type 0} (P : X → Type 0) (xs ys : List X) → AllByRecursion P (xs ++ ys) → AllByRecursion P xs × AllByRecursion P ys
every_split P [] ys h = (tt, h)
every_split P (x ∷ xs) ys h = let q = every_split P xs ys h.1 in ((h.0, q.0), q.1)

pub every_map : {X : Type 0} (P Q : X → Type 0) → ((x : X) → P x → Q x) → (xs : List X) → AllByRecursion P xs → AllByRecursion Q xs
every_map P Q g [] h = tt
every_map P Q g (x ∷ xs) h = (g x h.0, every_map P Q g xs h.1)

pub every_pair : {X : Type 0} (P Q : X → Type 0) (xs : List X) → AllByRecursion P xs → AllByRecursion Q xs → AllByRecursion (λ x. P x × Q x) xs
every_pair P Q [] h k = tt
every_pair P Q (x ∷ xs) h k = ((h.0, k.0), every_pair P Q xs h.1 k.1)

pub mapped : {X Y : Type 0} (P : Y → Type 0) (g : X → Y) (xs : List X) → AllByRecursion P (map g xs) → AllByRecursion (λ x. P (g x)) xs
mapped P g [] h = tt
mapped P g (x ∷ xs) h = (h.0, mapped P g xs h.1)

pub unmapped : {X Y : Type 0} (P : Y → Type 0) (g : X → Y) (xs : List X) → AllByRecursion (λ x. P (g x)) xs → AllByRecursion P (map g xs)
unmapped P g [] h = tt
unmapped P g (x ∷ xs) h = (h.0, unmapped P g xs h.1)

pub flattened : {X Y : Type 0} (P : Y → Type 0) (g : X → List Y) (xs : List X) → AllByRecursion P (flat_map g xs) → AllByRecursion (λ x. AllByRecursion P (g x)) xs
flattened P g [] h = tt
flattened P g (x ∷ xs) h = let q = every_split P (g x) (flat_map g xs) h in (q.0, flattened P g xs q.1)

pub unflattened : {X Y : Type 0} (P : Y → Type 0) (g : X → List Y) (xs : List X) → AllByRecursion (λ x. AllByRecursion P (g x)) xs → AllByRecursion P (flat_map g xs)
unflattened P g [] h = tt
unflattened P g (x ∷ xs) h = every_both P (g x) (flat_map g xs) h.0 (unflattened P g xs h.1)

-- no element passes a test
pub none_each : {X Y : Type 0} (f : Y → Bool) (g : X → List Y) (xs : List X) → list_any f (flat_map g xs) ≡ false → AllByRecursion (λ x. list_any f (g x) ≡ false) xs
none_each f g [] h = tt
none_each f g (x ∷ xs) h = let q = none_of_both f (g x) (flat_map g xs) h in (q.0, none_each f g xs q.1)

pub each_none : {X Y : Type 0} (f : Y → Bool) (g : X → List Y) (xs : List X) → AllByRecursion (λ x. list_any f (g x) ≡ false) xs → list_any f (flat_map g xs) ≡ false
each_none f g [] h = refl
each_none f g (x ∷ xs) h = none_together f (g x) (flat_map g xs) h.0 (each_none f g xs h.1)
