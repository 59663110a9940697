-- Whether a row of parts has room, looked at from the first one on.
use Rattle.std.proofs.Common.{◌≡◌, ℕ, ◌+◌, ◌<◌, ◌≤◌, max, nat_le, Bool, true, false, ◌&&◌, List, [], ◌∷◌, length, drop, get_or, refl, sym, ap, ◌∙◌, arith}
use Rattle.std.proofs.lemmas.List.{drop_more}
use Rattle.std.proofs.lemmas.Bool.{leb-true, leb-false, le-leb, lt-leb}
use Rattle.tla_tree.specs.Nesting.{deepest_in_module}
use Rattle.region_depth.specs.Room.{has_room}

pub room_there : (d n : ℕ) → d + n ≤ deepest_in_module → has_room d n ≡ true
room_there d n h = le-leb (d + n) deepest_in_module h

pub no_room : (d n : ℕ) → deepest_in_module < d + n → has_room d n ≡ false
no_room d n h = lt-leb (d + n) deepest_in_module h

-- one form deeper
pub room_deeper : (d n : ℕ) → has_room (d + 1) n ≡ has_room d (1 + n)
room_deeper d n = let e : d + 1 + n ≡ d + (1 + n) = omega arith in ap (λ (k : ℕ). nat_le k deepest_in_module) e

pub room_max : (d a b : ℕ) → has_room d (max a b) ≡ (has_room d a && has_room d b)
room_max d a b = by (has_room d a) refl (has_room d b) refl
  where
    by : (p : Bool) → has_room d a ≡ p → (q : Bool) → has_room d b ≡ q → has_room d (max a b) ≡ (p && q)
    by true e true f = room_there d (max a b) (let h = leb-true (d + a) deepest_in_module e in let k = leb-true (d + b) deepest_in_module f in omega arith)
    by true e false f = no_room d (max a b) (let k = leb-false (d + b) deepest_in_module f in omega arith)
    by false e q f = no_room d (max a b) (let h = leb-false (d + a) deepest_in_module e in omega arith)

-- F is the greatest of what each is by g
pub record IsGreatest {X : Type 0} (F : List X → ℕ) (g : X → ℕ) : Type 0 where
  pub none : F [] ≡ 0
  pub more : (x : X) (xs : List X) → F (x ∷ xs) ≡ max (g x) (F xs)

-- those before this one have room
abbrev pub HaveRoom : {X : Type 0} → (List X → ℕ) → ℕ → List X → ℕ → Type 0
HaveRoom F d xs i = has_room d (F (drop i xs)) ≡ has_room d (F xs)

module _ {X : Type 0} (F : List X → ℕ) (g : X → ℕ) (is : IsGreatest F g) (d : ℕ) (xs : List X) (i : ℕ) where
  one_first : (x : X) → i < length xs → x ≡ get_or xs i x → has_room d (F (drop i xs)) ≡ (has_room d (g x) && has_room d (F (drop (i + 1) xs)))
  one_first x l e = ap (λ (ys : List X). has_room d (F ys)) (drop_more xs i x l ∙ ap (λ (y : X). y ∷ drop (i + 1) xs) (sym e)) ∙ ap (has_room d) (is.more x (drop (i + 1) xs)) ∙ room_max d (g x) (F (drop (i + 1) xs))

  pub one_fits : (x : X) → x ≡ get_or xs i x → i < length xs → has_room d (g x) ≡ true → HaveRoom F d xs i → HaveRoom F d xs (i + 1)
  one_fits x e l h k = sym (one_first x l e ∙ ap (λ (b : Bool). b && has_room d (F (drop (i + 1) xs))) h) ∙ k

  pub one_too_deep : (x : X) → x ≡ get_or xs i x → i < length xs → has_room d (g x) ≡ false → HaveRoom F d xs i → false ≡ has_room d (F xs)
  one_too_deep x e l h k = sym (one_first x l e ∙ ap (λ (b : Bool). b && has_room d (F (drop (i + 1) xs))) h) ∙ k
