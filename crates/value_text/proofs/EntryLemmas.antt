-- Entries put in order, the first of each argument: the same function.
use Rattle.std.proofs.Common.{◌≡◌, ◌≤◌, Bool, true, false, not, ◌&&◌, List, [], ◌∷◌, ◌++◌, length, reverse, Option, Some, None, refl, sym, ap, ◌∙◌, subst, arith}
use Rattle.std.specs.Prelude.{◌||◌, cond, if◌then◌else◌, is_some}
use Rattle.std.specs.List.{dedup, dedup_from, filter}
use Rattle.std.specs.List.Sorted.{IsSorted, IsStable, IsStrictlySortedBy, ties}
use Rattle.std.specs.List.Retain.{IsFiltered, DiffersFromLast}
use Rattle.std.specs.Ordering.{is_eq, is_lt, ordering_reverse}
use Rattle.std.specs.declared.cmp.Ordering.{Ordering}
use Rattle.std.specs.declared.cmp.Ordering.TheVariants.{Less, Equal, Greater}
use Rattle.std.proofs.lemmas.Bool.{false_from_ne_true}
use Rattle.std.proofs.lemmas.List.{reverse-append, append_assoc}
use Rattle.std.proofs.lemmas.List.Kept.{IsStrictlySortedBy-dedup}
use Rattle.std.proofs.lemmas.List.Filters.{dedup_is}
use Rattle.tla_token.specs.Limits.{deepest_value}
use Rattle.tla_value.specs.Value.{Value, Values, truth, fun, no_values, and, values_in}
use Rattle.tla_value.specs.Order.{order, same, holds, count, set_from, fun_from, arguments, first_at, in_front, values_at, pairs_of, IsBefore, IsAscending}
use Rattle.tla_value.specs.OrderLaws.{order_total, same_is}
use Rattle.tla_value.specs.Limits.{fits, depths}
use Rattle.tla_value.proofs.OrderSets.{set_from_same}
use Rattle.tla_value.proofs.OrderFuns.{fun_from_pairs}
use Rattle.tla_value.proofs.Fits.{depth_of}
use Rattle.value_text.specs.declared.make.Entry.{Entry}
use Rattle.value_text.specs.EntryOrder.{by_key, by_key_total, same_keys, entry_pairs, entry_keys, entry_values}
use Rattle.value_text.specs.Items.{paired}

-- ---- entries of two lists

pub paired_last : (ks vs : List Value) (k v : Value) → length ks ≡ length vs → paired (ks ++ k ∷ []) (vs ++ v ∷ []) ≡ paired ks vs ++ (k, v) ∷ []
paired_last [] [] k v e = refl
paired_last [] (w ∷ vs) k v e = absurd (omega (arith, e))
paired_last (j ∷ ks) [] k v e = absurd (omega (arith, e))
paired_last (j ∷ ks) (w ∷ vs) k v e = ap (λ (l : List (Value × Value)). (j, w) ∷ l) (paired_last ks vs k v (omega (arith, e)))

pub one_entry : (ks vs ls ws : List Value) (k v : Value) (e : Entry) (es fs : List Entry) (all : List (Value × Value)) → ls ≡ ks ++ k ∷ [] → ws ≡ vs ++ v ∷ [] → length ks ≡ length vs → fs ≡ es ++ e ∷ [] → (e.key ≡ k) × (e.value ≡ v) → paired ls ws ++ entry_pairs (reverse es) ≡ all → paired ks vs ++ entry_pairs (reverse fs) ≡ all
one_entry ks vs ls ws k v e es fs all h g n f i inv =
    ap (λ (l : List Entry). paired ks vs ++ entry_pairs l) (ap reverse f ∙ reverse-append es (e ∷ []))
    ∙ (λ t. paired ks vs ++ (i.0 t, i.1 t) ∷ entry_pairs (reverse es))
    ∙ sym (append_assoc (paired ks vs) ((k, v) ∷ []) (entry_pairs (reverse es)))
    ∙ ap (λ (l : List (Value × Value)). l ++ entry_pairs (reverse es)) (sym (paired_last ks vs k v n))
    ∙ (λ t. paired (sym h t) (sym g t) ++ entry_pairs (reverse es)) ∙ inv

-- ---- what the first entry of an argument is

two_tests : {A : Type 0} (q r : Bool) (x y z : A) → (q ≡ false → r ≡ false) → (if q then x else z) ≡ (if q then x else (if r then y else z))
two_tests true r x y z h = refl
two_tests false r x y z h = sym (ap (λ b. if b then y else z) (h refl))

dedup_by : (k : Value) (e x : Entry) (xs : List Entry) (b : Bool) → same x.key e.key ≡ b → first_at (entry_pairs (dedup_from same_keys e xs)) k ≡ first_at (entry_pairs (e ∷ xs)) k → first_at (entry_pairs (dedup_from same_keys x xs)) k ≡ first_at (entry_pairs (x ∷ xs)) k → first_at (entry_pairs (cond b (dedup_from same_keys e xs) (e ∷ dedup_from same_keys x xs))) k ≡ first_at (entry_pairs (e ∷ x ∷ xs)) k
dedup_by k e x xs true h left right =
    left ∙ two_tests (same k e.key) (same k x.key) (Some e.value) (Some x.value) (first_at (entry_pairs xs) k) (λ q. ap (same k) (same_is x.key e.key h) ∙ q)
dedup_by k e x xs false h left right = ap (λ (o : Option Value). if same k e.key then Some e.value else o) right

first_from : (k : Value) (e : Entry) (xs : List Entry) → first_at (entry_pairs (dedup_from same_keys e xs)) k ≡ first_at (entry_pairs (e ∷ xs)) k
first_from k e [] = refl
first_from k e (x ∷ xs) = dedup_by k e x xs (same x.key e.key) refl (first_from k e xs) (first_from k x xs)

first_dedup : (k : Value) (es : List Entry) → first_at (entry_pairs (dedup same_keys es)) k ≡ first_at (entry_pairs es) k
first_dedup k [] = refl
first_dedup k (e ∷ es) = first_from k e es

abbrev less : Entry → Entry → Bool
less a b = is_lt (by_key a b)

abbrev first_value : List Entry → Option Value
first_value [] = None
first_value (e ∷ es) = Some e.value

tie_by : (r s : Ordering) → s ≡ ordering_reverse r → (not (is_lt r) && not (is_lt s)) ≡ is_eq r
tie_by Less s e = refl
tie_by Equal s e = ap (λ o. not (is_lt o)) e
tie_by Greater s e = ap (λ o. not (is_lt o)) e

tied : (x e : Entry) → ties less x e ≡ same x.key e.key
tied x e = tie_by (order x.key e.key) (order e.key x.key) (order_total.antisymm e.key x.key)

tied_by : (x e : Entry) (es : List Entry) (c : Bool) → first_value (filter (ties less x) es) ≡ first_at (entry_pairs es) x.key → first_value (cond c (e ∷ filter (ties less x) es) (filter (ties less x) es)) ≡ (if c then Some e.value else first_at (entry_pairs es) x.key)
tied_by x e es true h = refl
tied_by x e es false h = h

first_tied : (x : Entry) (es : List Entry) → first_value (filter (ties less x) es) ≡ first_at (entry_pairs es) x.key
first_tied x [] = refl
first_tied x (e ∷ es) =
    ap (λ c. first_value (cond c (e ∷ filter (ties less x) es) (filter (ties less x) es))) (tied x e) ∙ tied_by x e es (same x.key e.key) (first_tied x es)

first_stable : (es fs : List Entry) → IsStable by_key es fs → (k : Value) → first_at (entry_pairs fs) k ≡ first_at (entry_pairs es) k
first_stable es fs h k =
    let x : Entry = record { key = k; value = truth true } in
    sym (first_tied x fs) ∙ ap first_value (h x) ∙ first_tied x es

-- ---- the same function

held_by : (k : Value) (e : Entry) (es : List Entry) (b : Bool) → holds k (values_in (arguments (entry_pairs es))) ≡ is_some (first_at (entry_pairs es) k) → (b || holds k (values_in (arguments (entry_pairs es)))) ≡ is_some (if b then Some e.value else first_at (entry_pairs es) k)
held_by k e es true h = refl
held_by k e es false h = h

held : (k : Value) (es : List Entry) → holds k (values_in (arguments (entry_pairs es))) ≡ is_some (first_at (entry_pairs es) k)
held k [] = refl
held k (e ∷ es) = held_by k e es (same k e.key) (held k es)

same_values : (ps qs : List (Value × Value)) (ds : Values) → ((k : Value) → first_at ps k ≡ first_at qs k) → values_at ps ds ≡ values_at qs ds
same_values ps qs no_values h = refl
same_values ps qs (and d ds) h = λ i. in_front (h d i) (same_values ps qs ds h i)

same_function : (es fs : List Entry) → ((k : Value) → first_at (entry_pairs es) k ≡ first_at (entry_pairs fs) k) → fun_from (entry_pairs es) ≡ fun_from (entry_pairs fs)
same_function es fs h =
    let keys : set_from (arguments (entry_pairs es)) ≡ set_from (arguments (entry_pairs fs)) = set_from_same (arguments (entry_pairs es)) (arguments (entry_pairs fs)) (λ u. held u es ∙ ap is_some (h u) ∙ sym (held u fs)) in
    ap (λ ds. fun ds (values_at (entry_pairs es) ds)) keys ∙ ap (fun (set_from (arguments (entry_pairs fs)))) (same_values (entry_pairs es) (entry_pairs fs) (set_from (arguments (entry_pairs fs))) h)

pub kept_function : (es fs gs : List Entry) → IsStable by_key es fs → IsFiltered (DiffersFromLast same_keys) [] fs gs → fun_from (entry_pairs gs) ≡ fun_from (entry_pairs es)
kept_function es fs gs h d =
    same_function gs es (λ k. ap (λ (l : List Entry). first_at (entry_pairs l) k) (dedup_is same_keys fs gs d) ∙ first_dedup k fs ∙ first_stable es fs h k)

before_keys : (e : Entry) (es : List Entry) → IsStrictlySortedBy by_key (e ∷ es) → IsBefore e.key (values_in (entry_keys es))
unfolding IsStrictlySortedBy
before_keys e [] h = tt
before_keys e (x ∷ es) h = h.0.0

ascending : (es : List Entry) → IsStrictlySortedBy by_key es → IsAscending (values_in (entry_keys es))
unfolding IsStrictlySortedBy
ascending [] h = tt
ascending (e ∷ es) h = (before_keys e es h, ascending es h.1)

pub kept_ascending : (fs gs : List Entry) → IsSorted by_key fs → IsFiltered (DiffersFromLast same_keys) [] fs gs → IsAscending (values_in (entry_keys gs))
kept_ascending fs gs h d =
    subst (λ (l : List Entry). IsAscending (values_in (entry_keys l))) (sym (dedup_is same_keys fs gs d)) (ascending (dedup same_keys fs) (IsStrictlySortedBy-dedup by_key_total (λ x y. refl) fs h))

-- ---- the function of entries in order

as_pairs : (es : List Entry) → entry_pairs es ≡ pairs_of (values_in (entry_keys es)) (values_in (entry_values es))
as_pairs [] = refl
as_pairs (e ∷ es) = ap (λ (l : List (Value × Value)). (e.key, e.value) ∷ l) (as_pairs es)

as_many : (es : List Entry) → count (values_in (entry_keys es)) ≡ count (values_in (entry_values es))
as_many [] = refl
as_many (e ∷ es) = omega (arith, as_many es)

pub entries_function : (es : List Entry) → IsAscending (values_in (entry_keys es)) → fun_from (entry_pairs es) ≡ fun (values_in (entry_keys es)) (values_in (entry_values es))
entries_function es a = ap fun_from (as_pairs es) ∙ fun_from_pairs (values_in (entry_keys es)) (values_in (entry_values es)) a (as_many es)

pub keys_many : (es : List Entry) → count (values_in (entry_keys es)) ≡ length es
keys_many [] = refl
keys_many (e ∷ es) = omega (arith, keys_many es)

pub deep_domain : (ds vs : Values) → deepest_value ≤ depths ds → fits (fun ds vs) ≡ false
deep_domain ds vs l = false_from_ne_true (fits (fun ds vs)) (λ h. omega (arith, depth_of (fun ds vs) h))

-- one taken from the end
pub taken : (es fs : List Entry) (e : Entry) (ds gs all : List Value) → es ≡ fs ++ e ∷ [] → gs ≡ ds ++ e.key ∷ [] → entry_keys es ++ reverse ds ≡ all → entry_keys fs ++ reverse gs ≡ all
taken es fs e ds gs all h g inv =
    ap (λ (l : List Value). entry_keys fs ++ l) (ap reverse g ∙ reverse-append ds (e.key ∷ []))
    ∙ sym (append_assoc (entry_keys fs) (e.key ∷ []) (reverse ds)) ∙ ap (λ (l : List Value). l ++ reverse ds) (sym (last fs) ∙ ap entry_keys (sym h)) ∙ inv
  where
    last : (l : List Entry) → entry_keys (l ++ e ∷ []) ≡ entry_keys l ++ e.key ∷ []
    last [] = refl
    last (x ∷ l) = ap (λ (m : List Value). x.key ∷ m) (last l)

pub taken_value : (es fs : List Entry) (e : Entry) (ds gs all : List Value) → es ≡ fs ++ e ∷ [] → gs ≡ ds ++ e.value ∷ [] → entry_values es ++ reverse ds ≡ all → entry_values fs ++ reverse gs ≡ all
taken_value es fs e ds gs all h g inv =
    ap (λ (l : List Value). entry_values fs ++ l) (ap reverse g ∙ reverse-append ds (e.value ∷ []))
    ∙ sym (append_assoc (entry_values fs) (e.value ∷ []) (reverse ds)) ∙ ap (λ (l : List Value). l ++ reverse ds) (sym (last fs) ∙ ap entry_values (sym h)) ∙ inv
  where
    last : (l : List Entry) → entry_values (l ++ e ∷ []) ≡ entry_values l ++ e.value ∷ []
    last [] = refl
    last (x ∷ l) = ap (λ (m : List Value). x.value ∷ m) (last l)

pub whole : (es fs : List Entry) (ks vs : List Value) → entry_pairs fs ≡ paired ks vs → fun_from (entry_pairs es) ≡ fun_from (entry_pairs fs) → IsAscending (values_in (entry_keys es)) → fun_from (paired ks vs) ≡ fun (values_in (entry_keys es)) (values_in (entry_values es))
whole es fs ks vs e h a = ap fun_from (sym e) ∙ sym h ∙ entries_function es a

pub all_taken : (es : List Entry) (ds all : List Value) → es ≡ [] → entry_keys es ++ ds ≡ all → ds ≡ all
all_taken es ds all e h = sym (ap (λ (l : List Entry). entry_keys l ++ ds) e) ∙ h

pub all_values : (es : List Entry) (ds all : List Value) → es ≡ [] → entry_values es ++ ds ≡ all → ds ≡ all
all_values es ds all e h = sym (ap (λ (l : List Entry). entry_values l ++ ds) e) ∙ h

pub many_alike : (es : List Entry) (ds vs : List Value) → ds ≡ entry_keys es → vs ≡ entry_values es → count (values_in ds) ≡ count (values_in vs)
many_alike es ds vs k h = ap (λ (l : List Value). count (values_in l)) k ∙ as_many es ∙ ap (λ (l : List Value). count (values_in l)) (sym h)

pub nothing : (es : List Entry) → length es ≡ 0 → es ≡ []
nothing [] h = refl
nothing (e ∷ es) h = absurd (omega (arith, h))
