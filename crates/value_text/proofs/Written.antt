-- Which text is written for a function, by its domain and its values.
use Rattle.std.proofs.Common.{◌≡◌, ℕ, zero, suc, pos, ◌<◌, ◌≤◌, ◌+◌, Bool, true, false, true≢false, List, [], ◌∷◌, ◌++◌, length, drop, get_or, Option, Some, None, refl, sym, ap, subst, ◌∙◌, arith, codes, add-one}
use Rattle.std.proofs.Math.Seq.{drop-cons}
use Rattle.std.proofs.lemmas.List.{append_assoc}
use Rattle.tla_value.proofs.ValueLists.{count-values_in}
use Rattle.std.specs.Prelude.{if◌then◌else◌, is_some}
use Rattle.std.specs.Ordering.{is_eq, ordering_then}
use Rattle.tla_tree.specs.Tree.{Word}
use Rattle.tla_value.specs.Value.{Value, truth, int, text, model, set, fun, and, values_in}
use Rattle.tla_value.specs.Order.{IsCanonical, order, orders, listed, numbers_from}
use Rattle.tla_value.specs.OrderLaws.{is_equal}
use Rattle.tla_value.specs.Code.{height, heights}
use Rattle.tla_value.specs.ValueText.{angles, is_identifier, field_names, with_field, fields_from, pairs_from, shown_other, all_shown, spelling_text, items_text, fields_text, pairs_text, value_text}
use Rattle.value_text.specs.Entries.{more_entries, entries_text}

-- ---- parts are lower

pub part_low : (xs : List Value) (i : ℕ) (d : Value) → i < length xs → height (get_or xs i d) ≤ heights (values_in xs)
part_low [] i d h = absurd (omega arith)
part_low (x ∷ xs) zero d h = omega arith
part_low (x ∷ xs) (suc i) d h = omega (arith, part_low xs i d (omega arith))

-- ---- the domain of a tuple

numbered_head : (x : Value) (xs ys : List Value) (i : ℕ) → ys ≡ x ∷ xs → is_eq (order x (int (pos (suc i)))) ≡ true → is_eq (orders (values_in ys) (numbers_from (suc i) ys)) ≡ is_eq (orders (values_in xs) (numbers_from (suc (suc i)) xs))
numbered_head x xs ys i e h =
    ap (λ (l : List Value). is_eq (orders (values_in l) (numbers_from (suc i) l))) e ∙ ap (λ o. is_eq (ordering_then o (orders (values_in xs) (numbers_from (suc (suc i)) xs)))) (is_equal (order x (int (pos (suc i)))) h)

pub numbered_next : (xs : List Value) (i : ℕ) (d : Value) → i < length xs → is_eq (order (get_or xs i d) (int (pos (i + 1)))) ≡ true → is_eq (orders (values_in (drop i xs)) (numbers_from (suc i) (drop i xs))) ≡ is_eq (orders (values_in (drop (i + 1) xs)) (numbers_from (suc (i + 1)) (drop (i + 1) xs)))
numbered_next xs i d l h =
    numbered_head (get_or xs i d) (drop (suc i) xs) (drop i xs) i (drop-cons xs i d l) (ap (λ n. is_eq (order (get_or xs i d) (int (pos n)))) (sym (add-one i)) ∙ h) ∙ ap (λ n. is_eq (orders (values_in (drop n xs)) (numbers_from (suc n) (drop n xs)))) (sym (add-one i))

numbered_alike : (n : ℕ) (xs ys : List Value) → length xs ≡ length ys → numbers_from n (listed (values_in ys)) ≡ numbers_from n xs
numbered_alike n [] [] e = refl
numbered_alike n [] (y ∷ ys) e = absurd (omega (arith, e))
numbered_alike n (x ∷ xs) [] e = absurd (omega (arith, e))
numbered_alike n (x ∷ xs) (y ∷ ys) e = ap (and (int (pos n))) (numbered_alike (suc n) xs ys (omega (arith, e)))

-- ---- the forms

abbrev chosen : List Value → List Value → Bool → Word
chosen ds vs b = spelling_text (if b then angles (all_shown (values_in vs)) else shown_other (field_names (values_in ds)) (all_shown (values_in ds)) (all_shown (values_in vs)))

by_domain : (ds vs : List Value) (b : Bool) → length ds ≡ length vs → is_eq (orders (values_in ds) (numbers_from 1 ds)) ≡ b → value_text (fun (values_in ds) (values_in vs)) ≡ chosen ds vs b
by_domain ds vs b e h = ap (λ ns. chosen ds vs (is_eq (orders (values_in ds) ns))) (numbered_alike 1 ds vs e) ∙ ap (chosen ds vs) h

pub tuple_text : (ds vs : List Value) → length ds ≡ length vs → is_eq (orders (values_in ds) (numbers_from 1 ds)) ≡ true → value_text (fun (values_in ds) (values_in vs)) ≡ (codes "<<" ++ items_text (all_shown (values_in vs))) ++ codes ">>"
tuple_text ds vs e h = by_domain ds vs true e h

first_field : (w : Word) (xs : List Word) (b : Bool) (o : Option (List Word)) → (if b then with_field w o else None) ≡ Some xs → (ys : List Word) × (o ≡ Some ys) × (xs ≡ w ∷ ys)
first_field w xs true (Some ys) h = (ys, refl, cc)
first_field w xs true None h = absurd cc
first_field w xs false o h = absurd cc

fields_more : (ds vs : List Value) (xs : List Word) → length ds ≡ length vs → field_names (values_in ds) ≡ Some xs → fields_text (fields_from xs (all_shown (values_in vs))) ≡ more_entries true ds vs
fields_more [] vs [] e h = refl
fields_more [] vs (x ∷ xs) e h = absurd cc
fields_more (d ∷ ds) [] xs e h = absurd (omega (arith, e))
fields_more (text w ∷ ds) (v ∷ vs) xs e h =
    let f = first_field w xs (is_identifier w) (field_names (values_in ds)) h in
    ap (λ (l : List Word). fields_text (fields_from l (all_shown (values_in (v ∷ vs))))) f.2 ∙ ap (λ (u : Word). codes ", " ++ w ++ codes " |-> " ++ value_text v ++ u) (fields_more ds vs f.0 (omega (arith, e)) f.1)
fields_more (truth b ∷ ds) (v ∷ vs) xs e h = absurd cc
fields_more (int z ∷ ds) (v ∷ vs) xs e h = absurd cc
fields_more (model w ∷ ds) (v ∷ vs) xs e h = absurd cc
fields_more (set us ∷ ds) (v ∷ vs) xs e h = absurd cc
fields_more (fun es us ∷ ds) (v ∷ vs) xs e h = absurd cc

record_by : (ds vs : List Value) (xs : List Word) → length ds ≡ length vs → field_names (values_in ds) ≡ Some xs → is_eq (orders (values_in ds) (numbers_from 1 ds)) ≡ false → chosen ds vs false ≡ (codes "[" ++ entries_text true ds vs) ++ codes "]"
record_by [] vs xs e h q = absurd (true≢false q)
record_by (d ∷ ds) [] xs e h q = absurd (omega (arith, e))
record_by (text w ∷ ds) (v ∷ vs) xs e h q =
    let f = first_field w xs (is_identifier w) (field_names (values_in ds)) h in
    let ks = all_shown (values_in (text w ∷ ds)) in
    let ss = all_shown (values_in (v ∷ vs)) in
    ap (λ (o : Option (List Word)). spelling_text (shown_other o ks ss)) (h ∙ ap (λ (l : List Word). Some l) f.2) ∙ ap (λ (u : Word). (codes "[" ++ w ++ codes " |-> " ++ value_text v ++ u) ++ codes "]") (fields_more ds vs f.0 (omega (arith, e)) f.1)
record_by (truth b ∷ ds) (v ∷ vs) xs e h q = absurd cc
record_by (int z ∷ ds) (v ∷ vs) xs e h q = absurd cc
record_by (model w ∷ ds) (v ∷ vs) xs e h q = absurd cc
record_by (set us ∷ ds) (v ∷ vs) xs e h q = absurd cc
record_by (fun es us ∷ ds) (v ∷ vs) xs e h q = absurd cc

pub record_text : (ds vs : List Value) → length ds ≡ length vs → is_eq (orders (values_in ds) (numbers_from 1 ds)) ≡ false → is_some (field_names (values_in ds)) ≡ true → value_text (fun (values_in ds) (values_in vs)) ≡ (codes "[" ++ entries_text true ds vs) ++ codes "]"
record_text ds vs e q h = by_domain ds vs false e q ∙ by (field_names (values_in ds)) refl h
  where
    by : (o : Option (List Word)) → field_names (values_in ds) ≡ o → is_some o ≡ true → chosen ds vs false ≡ (codes "[" ++ entries_text true ds vs) ++ codes "]"
    by None f k = absurd (true≢false (sym k))
    by (Some xs) f k = record_by ds vs xs e f q

pairs_more : (ds vs : List Value) → length ds ≡ length vs → pairs_text (pairs_from (all_shown (values_in ds)) (all_shown (values_in vs))) ≡ more_entries false ds vs
pairs_more [] vs e = refl
pairs_more (d ∷ ds) [] e = absurd (omega (arith, e))
pairs_more (d ∷ ds) (v ∷ vs) e = ap (λ (u : Word). codes " @@ " ++ value_text d ++ codes " :> " ++ value_text v ++ u) (pairs_more ds vs (omega (arith, e)))

pub pairs_written : (ds vs : List Value) → length ds ≡ length vs → is_eq (orders (values_in ds) (numbers_from 1 ds)) ≡ false → is_some (field_names (values_in ds)) ≡ false → value_text (fun (values_in ds) (values_in vs)) ≡ (codes "(" ++ entries_text false ds vs) ++ codes ")"
pairs_written ds vs e q h = by_domain ds vs false e q ∙ by (field_names (values_in ds)) refl h ∙ shape ds vs e q
  where
    by : (o : Option (List Word)) → field_names (values_in ds) ≡ o → is_some o ≡ false → chosen ds vs false ≡ spelling_text (shown_other None (all_shown (values_in ds)) (all_shown (values_in vs)))
    by None f k = ap (λ (p : Option (List Word)). spelling_text (shown_other p (all_shown (values_in ds)) (all_shown (values_in vs)))) f
    by (Some xs) f k = absurd (true≢false k)

    shape : (ks us : List Value) → length ks ≡ length us → is_eq (orders (values_in ks) (numbers_from 1 ks)) ≡ false → spelling_text (shown_other None (all_shown (values_in ks)) (all_shown (values_in us))) ≡ (codes "(" ++ entries_text false ks us) ++ codes ")"
    shape [] us l k = absurd (true≢false k)
    shape (d ∷ ks) [] l k = absurd (omega (arith, l))
    shape (d ∷ ks) (v ∷ us) l k = ap (λ (u : Word). (codes "(" ++ value_text d ++ codes " :> " ++ value_text v ++ u) ++ codes ")") (pairs_more ks us (omega (arith, l)))

-- ---- between what opens it and what closes it

pub wrapped : (into begin inner close a b whole : List ℕ) → a ≡ into ++ begin → b ≡ a ++ inner → whole ≡ (begin ++ inner) ++ close → b ++ close ≡ into ++ whole
wrapped into begin inner close a b whole e f g =
    ap (λ (l : List ℕ). l ++ close) (f ∙ ap (λ (l : List ℕ). l ++ inner) e) ∙ append_assoc (into ++ begin) inner close ∙ append_assoc into begin (inner ++ close) ∙ ap (λ (l : List ℕ). into ++ l) (sym (g ∙ append_assoc begin inner close))

-- ---- a function in memory has a value for each argument

pub as_many : (v : Value) (ds vs : List Value) → v ≡ fun (values_in ds) (values_in vs) → IsCanonical v → length ds ≡ length vs
as_many v ds vs e c =
    let s : IsCanonical (fun (values_in ds) (values_in vs)) = subst IsCanonical e c in omega (arith, count-values_in ds, count-values_in vs, s.3)
