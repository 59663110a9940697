-- The subsets of a set by rows of their members.
use Rattle.std.proofs.Common.{◌≡◌, ℕ, zero, suc, ◌+◌, ◌<◌, ◌≤◌, List, [], ◌∷◌, ◌++◌, map, length, drop, get_or, refl, sym, ap, ◌∙◌, subst, arith, add-one}
use Rattle.std.proofs.Math.Seq.{drop-cons}
use Rattle.std.specs.declared.cmp.Ordering.TheVariants.{Less}
use Rattle.tla_value.specs.Value.{Value, set, and, values_in}
use Rattle.tla_value.specs.Order.{order, IsBefore, IsAscending}
use Rattle.tla_value.specs.Sets.{sublists}
use Rattle.tla_value.proofs.OrderSets.{before_next}
use Rattle.value_forms.specs.Parts.{IsPart, AreParts}
use Rattle.space_forms.specs.SubLists.{sub_lists, row_set, IsSetRow, AreSetRows}

pub map_append : {X Y : Type 0} (f : X → Y) (xs ys : List X) → map f (xs ++ ys) ≡ map f xs ++ map f ys
map_append f [] ys = refl
map_append f (x ∷ xs) ys = ap (λ l. f x ∷ l) (map_append f xs ys)

pub front_rows : (v : Value) (ts : List (List Value)) → map values_in (map (λ t. v ∷ t) ts) ≡ map (and v) (map values_in ts)
front_rows v [] = refl
front_rows v (t ∷ ts) = ap (λ l. and v (values_in t) ∷ l) (front_rows v ts)

sub_values : (vs : List Value) → map values_in (sub_lists vs) ≡ sublists (values_in vs)
sub_values [] = refl
sub_values (v ∷ vs) =
    map_append values_in (sub_lists vs) (map (λ t. v ∷ t) (sub_lists vs)) ∙ (λ i. sub_values vs i ++ (front_rows v (sub_lists vs) ∙ ap (map (and v)) (sub_values vs)) i)

set_rows : (ts : List (List Value)) → map row_set ts ≡ map set (map values_in ts)
set_rows [] = refl
set_rows (t ∷ ts) = ap (λ l. set (values_in t) ∷ l) (set_rows ts)

pub sub_sets : (vs : List Value) → map row_set (sub_lists vs) ≡ map set (sublists (values_in vs))
sub_sets vs = set_rows (sub_lists vs) ∙ ap (map set) (sub_values vs)

-- one more member in front
pub sub_next : (vs : List Value) (i : ℕ) (v : Value) (rows rows2 : List (List Value)) → i < length vs → v ≡ get_or vs i v → rows ≡ sub_lists (drop (i + 1) vs) → rows2 ≡ rows ++ map (λ t. v ∷ t) rows → rows2 ≡ sub_lists (drop i vs)
sub_next vs i v rows rows2 lt is h e =
    e ∙ ap (λ r. r ++ map (λ t. v ∷ t) r) (h ∙ ap (λ n. sub_lists (drop n vs)) (add-one i)) ∙ ap (λ u. sub_lists (u ∷ drop (suc i) vs)) is ∙ ap sub_lists (sym (drop-cons vs i v lt))

-- ---- each row is a set

abbrev AreBehind : Value → List (List Value) → Type 0
AreBehind u [] = Unit {0}
AreBehind u (t ∷ ts) = IsBefore u (values_in t) × AreBehind u ts

behind_append : (u : Value) (ss ts : List (List Value)) → AreBehind u ss → AreBehind u ts → AreBehind u (ss ++ ts)
behind_append u [] ts h k = k
behind_append u (s ∷ ss) ts h k = (h.0, behind_append u ss ts h.1 k)

behind_front : (u v : Value) (ts : List (List Value)) → order u v ≡ Less → AreBehind u (map (λ t. v ∷ t) ts)
behind_front u v [] o = tt
behind_front u v (t ∷ ts) o = (o, behind_front u v ts o)

sub_behind : (u : Value) (vs : List Value) → IsBefore u (values_in vs) → IsAscending (values_in vs) → AreBehind u (sub_lists vs)
sub_behind u [] b a = (tt, tt)
sub_behind u (v ∷ vs) b a =
    behind_append u (sub_lists vs) (map (λ t. v ∷ t) (sub_lists vs)) (sub_behind u vs (before_next u v (values_in vs) b a.0) a.1) (behind_front u v (sub_lists vs) b)

rows_append : (n : ℕ) (ss ts : List (List Value)) → AreSetRows n ss → AreSetRows n ts → AreSetRows n (ss ++ ts)
rows_append n [] ts h k = k
rows_append n (s ∷ ss) ts h k = (h.0, rows_append n ss ts h.1 k)

rows_front : (n : ℕ) (v : Value) (ts : List (List Value)) → IsPart v → AreBehind v ts → AreSetRows n ts → AreSetRows (suc n) (map (λ t. v ∷ t) ts)
rows_front n v [] p b h = tt
rows_front n v (t ∷ ts) p b h = (((b.0, h.0.0), (p, h.0.1), omega (arith, h.0.2)), rows_front n v ts p b.1 h.1)

pub rows_more : (m n : ℕ) (ts : List (List Value)) → m ≤ n → AreSetRows m ts → AreSetRows n ts
rows_more m n [] l h = tt
rows_more m n (t ∷ ts) l h = ((h.0.0, h.0.1, omega (arith, h.0.2)), rows_more m n ts l h.1)

pub sub_are_sets : (vs : List Value) → IsAscending (values_in vs) → AreParts (values_in vs) → AreSetRows (length vs) (sub_lists vs)
sub_are_sets [] a h = ((tt, tt, omega arith), tt)
sub_are_sets (v ∷ vs) a h =
    rows_append (suc (length vs)) (sub_lists vs) (map (λ t. v ∷ t) (sub_lists vs)) (rows_more (length vs) (suc (length vs)) (sub_lists vs) (omega arith) (sub_are_sets vs a.1 h.1))
    (rows_front (length vs) v (sub_lists vs) h.0 (sub_behind v vs a.0 a.1) (sub_are_sets vs a.1 h.1))

pub row_at : (n : ℕ) (ts : List (List Value)) (i : ℕ) (t : List Value) → i < length ts → t ≡ get_or ts i t → AreSetRows n ts → IsSetRow n t
row_at n [] i t l e h = absurd (omega arith)
row_at n (s ∷ ts) zero t l e h = subst (IsSetRow n) (sym e) h.0
row_at n (s ∷ ts) (suc i) t l e h = row_at n ts i t (omega arith) e h.1
