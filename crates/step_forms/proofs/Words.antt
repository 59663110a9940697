-- Lists of words that are apart, and what holds of each of a list.
use Rattle.std.proofs.Common.{◌≡◌, List, [], ◌∷◌, ◌++◌, Bool, true, false, bytes_eq, map, refl, sym, ◌∙◌}
use Rattle.std.specs.List.{AllByRecursion}
use Rattle.std.proofs.lemmas.Slice.Eq.{bytes_eq-Decides}
use Rattle.tla_tree.specs.Tree.{Word, Each}
use Rattle.action_builder.specs.laws.Jumps.{Unlike, AllUnlike}

-- ---- each of a list

pub every_both : {X : Type 0} (P : X → Type 0) (xs ys : List X) → AllByRecursion P xs → AllByRecursion P ys → AllByRecursion P (xs ++ ys)
every_both P [] ys h k = k
every_both P (x ∷ xs) ys h k = (h.0, every_both P xs ys h.1 k)

pub every_to : {X : Type 0} (P Q : X → Type 0) → ((x : X) → P x → Q x) → (xs : List X) → AllByRecursion P xs → AllByRecursion Q xs
every_to P Q f [] h = tt
every_to P Q f (x ∷ xs) h = (f x h.0, every_to P Q f xs h.1)

pub every_mapped : {X : Type 0} (P : Word → Type 0) (f : X → Word) (xs : List X) → Each P (map f xs) → AllByRecursion (λ x. P (f x)) xs
every_mapped P f [] h = tt
every_mapped P f (x ∷ xs) h = (h.0, every_mapped P f xs h.1)

pub same_mapped : {X Y : Type 0} (f g : X → Y) (xs : List X) → AllByRecursion (λ x. f x ≡ g x) xs → map f xs ≡ map g xs
same_mapped f g [] h = refl
same_mapped f g (x ∷ xs) h = λ i. h.0 i ∷ same_mapped f g xs h.1 i

-- ---- words that are apart

pub same_word : (x : Word) → bytes_eq x x ≡ true
same_word x = (bytes_eq-Decides x x).1 refl

apart_back : (x y : Word) → bytes_eq x y ≡ false → bytes_eq y x ≡ false
apart_back x y h = by (bytes_eq y x) refl
  where
    by : (b : Bool) → bytes_eq y x ≡ b → bytes_eq y x ≡ false
    by false e = e
    by true e = (let k : true ≡ false = sym ((bytes_eq-Decides x y).1 (sym ((bytes_eq-Decides y x).0 e))) ∙ h in cc)

pub unlike_front : (x : Word) (ys zs : List Word) → Unlike x (ys ++ zs) → Unlike x ys
unlike_front x [] zs h = tt
unlike_front x (y ∷ ys) zs h = (h.0, unlike_front x ys zs h.1)

pub unlike_behind : (x : Word) (ys zs : List Word) → Unlike x (ys ++ zs) → Unlike x zs
unlike_behind x [] zs h = h
unlike_behind x (y ∷ ys) zs h = unlike_behind x ys zs h.1

-- the other way round
pub unlike_back : (x : Word) (ys : List Word) → Unlike x ys → Each (λ y. bytes_eq y x ≡ false) ys
unlike_back x [] h = tt
unlike_back x (y ∷ ys) h = (apart_back x y h.0, unlike_back x ys h.1)

apart_none : (ys : List Word) → Each (λ y. Unlike y []) ys
apart_none [] = tt
apart_none (y ∷ ys) = (tt, apart_none ys)

apart_more : (x : Word) (xs ys : List Word) → Each (λ y. bytes_eq y x ≡ false) ys → Each (λ y. Unlike y xs) ys → Each (λ y. Unlike y (x ∷ xs)) ys
apart_more x xs [] h k = tt
apart_more x xs (y ∷ ys) h k = ((h.0, k.0), apart_more x xs ys h.1 k.1)

pub apart_front : (xs ys : List Word) → AllUnlike (xs ++ ys) → AllUnlike xs
apart_front [] ys h = tt
apart_front (x ∷ xs) ys h = (unlike_front x xs ys h.0, apart_front xs ys h.1)

pub apart_behind : (xs ys : List Word) → AllUnlike (xs ++ ys) → AllUnlike ys
apart_behind [] ys h = h
apart_behind (x ∷ xs) ys h = apart_behind xs ys h.1

pub apart_between : (xs ys : List Word) → AllUnlike (xs ++ ys) → Each (λ y. Unlike y xs) ys
apart_between [] ys h = apart_none ys
apart_between (x ∷ xs) ys h = apart_more x xs ys (unlike_back x ys (unlike_behind x xs ys h.0)) (apart_between xs ys h.1)
