-- One procedure more adds what it calls to the row of its name, and to no other.
use Rattle.std.proofs.Common.{◌≡◌, ℕ, zero, suc, ◌+◌, ◌<◌, Bool, true, false, cond, bytes_eq, List, [], ◌∷◌, ◌++◌, length, take, map, get_or, set, replicate, Some, None, refl, sym, ap, ◌∙◌, append-nil, true≢false}
use Rattle.std.specs.Prelude.{slice_get, position}
use Rattle.std.proofs.lemmas.List.{take_more, map-append}
use Rattle.std.proofs.lemmas.List.Concat.{flat_map-append}
use Rattle.std.proofs.lemmas.Bool.{or_parts}
use Rattle.tla_token.specs.Signs.{is_among}
use Rattle.tla_tree.specs.Tree.{Word, Tree}
use Rattle.pcal_tree.specs.declared.algorithm.Procedure as declared
use Rattle.pcal_tree.specs.InMemory.{procedure_at}
use Rattle.pcal_tree.specs.Algorithm.{Procedure}
use Rattle.name_bits.specs.NamesIn.{AllApart}
use Rattle.name_bits.proofs.NameLaws.{place_is, no_place}
use Rattle.fairness.specs.ReachedProcedures.{calls}
use Rattle.fairness_lines.specs.Numbers.{number_in, numbers_in}
use Rattle.fairness_lines.specs.Tables.{calls_under, rows_of}
use Rattle.fairness_lines.proofs.NamesFound.{same_names, same_itself, only_some, none_some, there}

-- ---- an element of a list that is changed at one name

differs : (x y : Word) (ys : List Word) → is_among ys x ≡ true → is_among ys y ≡ false → bytes_eq x y ≡ false
differs x y ys h k = by (bytes_eq x y) refl
  where
    by : (b : Bool) → bytes_eq x y ≡ b → bytes_eq x y ≡ false
    by true e = absurd (true≢false (sym h ∙ ap (is_among ys) (same_names x y e) ∙ k))
    by false e = e

apart_too : (x y : Word) → bytes_eq x y ≡ false → bytes_eq y x ≡ false
apart_too x y h = by (bytes_eq y x) refl
  where
    by : (b : Bool) → bytes_eq y x ≡ b → bytes_eq y x ≡ false
    by true e = absurd (true≢false (sym (same_itself x) ∙ ap (bytes_eq x) (sym (same_names y x e)) ∙ h))
    by false e = e

module _ (g : Word → List ℕ) (x : Word) (more : List ℕ) where
  abbrev new : Word → List ℕ
  new y = g y ++ cond (bytes_eq x y) more []

  new_other : (y : Word) → bytes_eq x y ≡ false → new y ≡ g y
  new_other y e = ap (λ (b : Bool). g y ++ cond b more []) e ∙ append-nil (g y)

  all_other : (ys : List Word) → is_among ys x ≡ false → map new ys ≡ map g ys
  all_other [] h = refl
  all_other (y ∷ ys) h =
      let parts = or_parts (bytes_eq y x) (is_among ys x) h in
      λ i. new_other y (apart_too y x parts.0) i ∷ all_other ys parts.1 i

  one_changed : (ys : List Word) (n : ℕ) → AllApart ys → slice_get ys n ≡ Some x → map new ys ≡ set (map g ys) n (get_or (map g ys) n [] ++ more)
  one_changed [] n a h = absurd (none_some x h)
  one_changed (y ∷ ys) zero a h =
      λ i. (ap (λ (b : Bool). g y ++ cond b more []) (ap (λ (z : Word). bytes_eq z y) (sym (only_some y x h)) ∙ same_itself y)) i
      ∷ all_other ys (ap (is_among ys) (sym (only_some y x h)) ∙ a.0) i
  one_changed (y ∷ ys) (suc n) a h = λ i. new_other y (differs x y ys (there ys n x h) a.0) i ∷ one_changed ys n a.1 h i

-- ---- rows

module _ (names : List Word) (ps : List Procedure) (p : Procedure) where
  abbrev row : Word → List ℕ
  row x = numbers_in names (calls_under x ps)

  row_more : (x : Word) → numbers_in names (calls_under x (ps ++ p ∷ [])) ≡ row x ++ cond (bytes_eq p.name.word x) (numbers_in names (calls p.body)) []
  row_more x =
      ap (numbers_in names) (flat_map-append (λ (q : Procedure). cond (bytes_eq q.name.word x) (calls q.body) []) ps (p ∷ []))
      ∙ flat_map-append (number_in names) (calls_under x ps) (cond (bytes_eq p.name.word x) (calls p.body) [] ++ [])
      ∙ ap (λ (ns : List ℕ). row x ++ ns) (by (bytes_eq p.name.word x))
    where
      by : (b : Bool) → numbers_in names (cond b (calls p.body) [] ++ []) ≡ cond b (numbers_in names (calls p.body)) []
      by true = ap (numbers_in names) (append-nil (calls p.body))
      by false = refl

  each_row : (xs : List Word) → map (λ x. numbers_in names (calls_under x (ps ++ p ∷ []))) xs ≡ map (λ x. row x ++ cond (bytes_eq p.name.word x) (numbers_in names (calls p.body)) []) xs
  each_row [] = refl
  each_row (x ∷ xs) = λ i. row_more x i ∷ each_row xs i

  pub rows_changed : (n : ℕ) → AllApart names → position (λ v. bytes_eq v p.name.word) names ≡ Some n
      → rows_of names (ps ++ p ∷ []) ≡ set (rows_of names ps) n (get_or (rows_of names ps) n [] ++ numbers_in names (calls p.body))
  rows_changed n a h = each_row names ∙ one_changed row p.name.word (numbers_in names (calls p.body)) names n a (place_is p.name.word names n h).0

  pub rows_same : position (λ v. bytes_eq v p.name.word) names ≡ None → rows_of names (ps ++ p ∷ []) ≡ rows_of names ps
  rows_same h = each_row names ∙ all_other row p.name.word (numbers_in names (calls p.body)) names (no_place p.name.word names h)

pub rows_of_none : (names all : List Word) → map (λ x. numbers_in all (calls_under x [])) names ≡ replicate (length names) []
rows_of_none [] all = refl
rows_of_none (x ∷ xs) all = ap (λ (rs : List (List ℕ)). [] ∷ rs) (rows_of_none xs all)

pub map_taken : {X Y : Type 0} (f : X → Y) (xs : List X) (i : ℕ) (x : X) → x ≡ get_or xs i x → i < length xs → map f (take (i + 1) xs) ≡ map f (take i xs) ++ f x ∷ []
map_taken f xs i x is less = ap (map f) (take_more xs i x less ∙ ap (λ y. take i xs ++ y ∷ []) (sym is)) ∙ map-append f (take i xs) (x ∷ [])

pub names_at : (ts : List Tree) (ps : List declared.Procedure) → map (λ p. p.name.word) ps ≡ map (λ p. p.name.word) (map (procedure_at ts) ps)
names_at ts [] = refl
names_at ts (p ∷ ps) = ap (λ (xs : List Word). p.name.word ∷ xs) (names_at ts ps)
