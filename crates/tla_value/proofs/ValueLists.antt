-- Values in a list, and the canonical place of a value in it.
use Rattle.std.proofs.Common.{◌≡◌, ℕ, zero, suc, ◌+◌, ◌<◌, ◌≤◌, List, [], ◌∷◌, ◌++◌, length, take, drop, get_or, refl, sym, ap, ◌∙◌, arith, add-one}
use Rattle.std.proofs.Math.Seq.{drop-cons}
use Rattle.std.proofs.Math.ListN.{drop_of_length-le}
use Rattle.std.proofs.lemmas.List.{take_more}
use Rattle.std.specs.Prelude.{insert}
use Rattle.std.specs.declared.cmp.Ordering.{Ordering}
use Rattle.std.specs.declared.cmp.Ordering.TheVariants.{Less, Equal, Greater}
use Rattle.tla_value.specs.Value.{Value, Values, no_values, and, values_in}
use Rattle.tla_value.specs.Order.{count, order, orders, inserted, placed}

-- the values of a row, and after them those of another
abbrev pub follow : Values → Values → Values
follow no_values us = us
follow (and v vs) us = and v (follow vs us)

pub count-values_in : (xs : List Value) → count (values_in xs) ≡ length xs
count-values_in [] = refl
count-values_in (x ∷ xs) = ap suc (count-values_in xs)

pub orders-longer : (xs ys : List Value) (i : ℕ) → length ys ≡ i → i < length xs → orders (values_in (drop i xs)) (values_in (drop i ys)) ≡ Greater
orders-longer [] ys i e h = absurd (omega arith)
orders-longer (x ∷ xs) [] zero e h = refl
orders-longer (x ∷ xs) [] (suc i) e h = absurd (omega arith)
orders-longer (x ∷ xs) (y ∷ ys) zero e h = absurd (omega arith)
orders-longer (x ∷ xs) (y ∷ ys) (suc i) e h = orders-longer xs ys i (omega arith) (omega arith)

pub orders-shorter : (xs ys : List Value) (i : ℕ) → length xs ≡ i → i < length ys → orders (values_in (drop i xs)) (values_in (drop i ys)) ≡ Less
orders-shorter xs [] i e h = absurd (omega arith)
orders-shorter [] (y ∷ ys) zero e h = refl
orders-shorter [] (y ∷ ys) (suc i) e h = absurd (omega arith)
orders-shorter (x ∷ xs) (y ∷ ys) zero e h = absurd (omega arith)
orders-shorter (x ∷ xs) (y ∷ ys) (suc i) e h = orders-shorter xs ys i (omega arith) (omega arith)

pub values_in-drop : (xs : List Value) (i : ℕ) (d : Value) → i < length xs → values_in (drop i xs) ≡ and (get_or xs i d) (values_in (drop (i + 1) xs))
values_in-drop xs i d h = ap values_in (drop-cons xs i d h) ∙ ap (λ n. and (get_or xs i d) (values_in (drop n xs))) (sym (add-one i))

pub values_in-append : (xs ys : List Value) → values_in (xs ++ ys) ≡ follow (values_in xs) (values_in ys)
values_in-append [] ys = refl
values_in-append (x ∷ xs) ys = ap (and x) (values_in-append xs ys)

pub follow_follow : (a b c : Values) → follow (follow a b) c ≡ follow a (follow b c)
follow_follow no_values b c = refl
follow_follow (and v a) b c = ap (and v) (follow_follow a b c)

pub values_in-halves : (xs : List Value) (i : ℕ) → follow (values_in (take i xs)) (values_in (drop i xs)) ≡ values_in xs
values_in-halves [] zero = refl
values_in-halves [] (suc i) = refl
values_in-halves (x ∷ xs) zero = refl
values_in-halves (x ∷ xs) (suc i) = ap (and x) (values_in-halves xs i)

pub values_in-insert : (xs : List Value) (i : ℕ) (v : Value) → i ≤ length xs → values_in (insert xs i v) ≡ follow (values_in (take i xs)) (and v (values_in (drop i xs)))
values_in-insert xs i v h = values_in-append (take i xs) (v ∷ drop i xs)

module _ (xs : List Value) (i : ℕ) (v w : Value) (all : Values) (lt : i < length xs) (is : w ≡ get_or xs i w) (inv : follow (values_in (take i xs)) (inserted v (values_in (drop i xs))) ≡ all) where
  here : (r : Ordering) → order v w ≡ r → follow (values_in (take i xs)) (placed r v w (values_in (drop (i + 1) xs)) (inserted v (values_in (drop (i + 1) xs)))) ≡ all
  here r e =
      ap (λ x. follow (values_in (take i xs)) (placed x v w (values_in (drop (i + 1) xs)) (inserted v (values_in (drop (i + 1) xs))))) (sym e) ∙ ap (λ l. follow (values_in (take i xs)) (inserted v l)) (sym split) ∙ inv
    where
      split : values_in (drop i xs) ≡ and w (values_in (drop (i + 1) xs))
      split = values_in-drop xs i w lt ∙ ap (λ x. and x (values_in (drop (i + 1) xs))) (sym is)

  pub split_at : values_in (drop i xs) ≡ and w (values_in (drop (i + 1) xs))
  split_at = values_in-drop xs i w lt ∙ ap (λ x. and x (values_in (drop (i + 1) xs))) (sym is)

  pub put-less : order v w ≡ Less → values_in (insert xs i v) ≡ all
  put-less e = values_in-insert xs i v (omega arith) ∙ ap (λ l. follow (values_in (take i xs)) (and v l)) split_at ∙ here Less e

  pub put-equal : order v w ≡ Equal → values_in xs ≡ all
  put-equal e = sym (values_in-halves xs i) ∙ ap (follow (values_in (take i xs))) split_at ∙ here Equal e

  pub put-greater : order v w ≡ Greater → follow (values_in (take (i + 1) xs)) (inserted v (values_in (drop (i + 1) xs))) ≡ all
  put-greater e =
      ap (λ l. follow (values_in l) (inserted v (values_in (drop (i + 1) xs)))) (take_more xs i w lt) ∙ ap (λ l. follow l (inserted v (values_in (drop (i + 1) xs)))) (values_in-append (take i xs) (get_or xs i w ∷ [])) ∙ follow_follow (values_in (take i xs)) (and (get_or xs i w) no_values) (inserted v (values_in (drop (i + 1) xs))) ∙ ap (λ x. follow (values_in (take i xs)) (and x (inserted v (values_in (drop (i + 1) xs))))) (sym is) ∙ here Greater e

take_all : (xs : List Value) (i : ℕ) → length xs ≤ i → take i xs ≡ xs
take_all [] zero h = refl
take_all [] (suc i) h = refl
take_all (x ∷ xs) zero h = absurd (omega arith)
take_all (x ∷ xs) (suc i) h = ap (λ l. x ∷ l) (take_all xs i (omega arith))

pub put-end : (xs : List Value) (i : ℕ) (v : Value) (all : Values) → length xs ≤ i → follow (values_in (take i xs)) (inserted v (values_in (drop i xs))) ≡ all → values_in (xs ++ v ∷ []) ≡ all
put-end xs i v all le inv =
    values_in-append xs (v ∷ []) ∙ ap (λ l. follow (values_in l) (and v no_values)) (sym (take_all xs i le)) ∙ ap (λ l. follow (values_in (take i xs)) (inserted v (values_in l))) (sym (drop_of_length-le xs le)) ∙ inv
