-- The spelling that is written for a canonical value spells that value.
use Rattle.std.proofs.Common.{◌≡◌, pos, negsuc, Bool, true, false, List, [], ◌∷◌, refl, sym, ◌∙◌, ap, arith, Option, Some, None, true≢false, subst}
use Rattle.std.specs.Prelude.{if◌then◌else◌}
use Rattle.std.specs.Ordering.{is_eq}
use Rattle.tla_tree.specs.Tree.{Word}
use Rattle.tla_value.specs.Value.{Value, Values, truth, int, text, model, set, fun, no_values, and}
use Rattle.tla_value.specs.Order.{orders, count, listed, set_from, seq_from, fun_from, pairs_of, numbers_from, IsAscending, IsCanonical, AreCanonical}
use Rattle.tla_value.specs.OrderLaws.{orders_equal, is_equal}
use Rattle.tla_value.specs.ValueText.{IsGood, AreGood, AreGoodFields, AreGoodPairs, HasModelNames, HaveModelNames, Spellings, no_spellings, spelling, angles, is_identifier, spelled, all_spelled, spelled_fields, spelled_pairs, field_names, with_field, fields_from, pairs_from, shown_other, shown, all_shown}
use Rattle.tla_value.proofs.OrderSets.{set_from_listed}
use Rattle.tla_value.proofs.OrderFuns.{values_listed, fun_from_pairs}

abbrev paired : List Value → List Value → List (Value × Value)
paired [] vs = []
paired (k ∷ ks) [] = []
paired (k ∷ ks) (v ∷ vs) = (k, v) ∷ paired ks vs

abbrev texts : List Word → List Value
texts [] = []
texts (x ∷ xs) = text x ∷ texts xs

paired_listed : (ds vs : Values) → paired (listed ds) (listed vs) ≡ pairs_of ds vs
paired_listed no_values vs = refl
paired_listed (and d ds) no_values = refl
paired_listed (and d ds) (and w ws) = ap (λ ps. (d, w) ∷ ps) (paired_listed ds ws)

pairs_paired : (ks ss : Spellings) → spelled_pairs (pairs_from ks ss) ≡ paired (all_spelled ks) (all_spelled ss)
pairs_paired no_spellings ss = refl
pairs_paired (spelling k ks) no_spellings = refl
pairs_paired (spelling k ks) (spelling s ss) = ap (λ ps. (spelled k, spelled s) ∷ ps) (pairs_paired ks ss)

fields_paired : (xs : List Word) (ss : Spellings) → spelled_fields (fields_from xs ss) ≡ paired (texts xs) (all_spelled ss)
fields_paired [] ss = refl
fields_paired (x ∷ xs) no_spellings = refl
fields_paired (x ∷ xs) (spelling s ss) = ap (λ ps. (text x, spelled s) ∷ ps) (fields_paired xs ss)

first_name : (w : Word) (ds : Values) (xs : List Word) (b : Bool) (o : Option (List Word)) → (if b then with_field w o else None) ≡ Some xs → ((ys : List Word) → o ≡ Some ys → texts ys ≡ listed ds) → texts xs ≡ text w ∷ listed ds
first_name w ds xs true (Some ys) h rest =
    let e : w ∷ ys ≡ xs = cc in sym (ap texts e) ∙ ap (λ l. text w ∷ l) (rest ys refl)
first_name w ds xs true None h rest = cc
first_name w ds xs false o h rest = cc

names_listed : (ds : Values) (xs : List Word) → field_names ds ≡ Some xs → texts xs ≡ listed ds
names_listed no_values [] h = refl
names_listed no_values (x ∷ xs) h = cc
names_listed (and (text w) ds) xs h = first_name w ds xs (is_identifier w) (field_names ds) h (names_listed ds)
names_listed (and (truth b) ds) xs h = cc
names_listed (and (int z) ds) xs h = cc
names_listed (and (model w) ds) xs h = cc
names_listed (and (set vs) ds) xs h = cc
names_listed (and (fun es vs) ds) xs h = cc

other : (d w : Value) (ds ws : Values) (ks ss : Spellings) (o : Option (List Word)) → field_names (and d ds) ≡ o → all_spelled ks ≡ d ∷ listed ds → all_spelled ss ≡ w ∷ listed ws → IsAscending (and d ds) → count (and d ds) ≡ count (and w ws) → spelled (shown_other o ks ss) ≡ fun (and d ds) (and w ws)
other d w ds ws no_spellings ss o f ek es a h = cc
other d w ds ws (spelling k ks) no_spellings o f ek es a h = cc
other d w ds ws (spelling k ks) (spelling s ss) None f ek es a h =
    ap fun_from (pairs_paired (spelling k ks) (spelling s ss) ∙ (λ i. paired (ek i) (es i)) ∙ paired_listed (and d ds) (and w ws)) ∙ fun_from_pairs (and d ds) (and w ws) a h
other d w ds ws (spelling k ks) (spelling s ss) (Some []) f ek es a h =
    let e : [] ≡ d ∷ listed ds = names_listed (and d ds) [] f in cc
other d w ds ws (spelling k ks) (spelling s ss) (Some (x ∷ xs)) f ek es a h =
    ap fun_from (fields_paired (x ∷ xs) (spelling s ss) ∙ (λ i. paired (names_listed (and d ds) (x ∷ xs) f i) (es i)) ∙ paired_listed (and d ds) (and w ws)) ∙ fun_from_pairs (and d ds) (and w ws) a h

fun_by : (ds vs : Values) (ks ss : Spellings) (b : Bool) → is_eq (orders ds (numbers_from 1 (listed vs))) ≡ b → all_spelled ks ≡ listed ds → all_spelled ss ≡ listed vs → IsAscending ds → count ds ≡ count vs → spelled (if b then angles ss else shown_other (field_names ds) ks ss) ≡ fun ds vs
fun_by ds vs ks ss true e ek es a h =
    ap seq_from es ∙ (λ i. fun (sym (orders_equal ds (numbers_from 1 (listed vs)) (is_equal _ e)) i) (values_listed vs i))
fun_by no_values no_values ks ss false e ek es a h = absurd (true≢false e)
fun_by no_values (and w ws) ks ss false e ek es a h = absurd (omega (arith, h))
fun_by (and d ds) no_values ks ss false e ek es a h = absurd (omega (arith, h))
fun_by (and d ds) (and w ws) ks ss false e ek es a h = other d w ds ws ks ss (field_names (and d ds)) refl ek es a h

mutual
  pub spelled_shown : (v : Value) → IsCanonical v → spelled (shown v) ≡ v
  spelled_shown (truth b) c = refl
  spelled_shown (int (pos n)) c = refl
  spelled_shown (int (negsuc n)) c = refl
  spelled_shown (text w) c = refl
  spelled_shown (model w) c = refl
  spelled_shown (set vs) c = ap set (ap set_from (all_spelled_shown vs c.1) ∙ set_from_listed vs c.0)
  spelled_shown (fun ds vs) c =
      fun_by ds vs (all_shown ds) (all_shown vs) (is_eq (orders ds (numbers_from 1 (listed vs)))) refl (all_spelled_shown ds c.1) (all_spelled_shown vs c.2) c.0 c.3

  pub all_spelled_shown : (vs : Values) → AreCanonical vs → all_spelled (all_shown vs) ≡ listed vs
  all_spelled_shown no_values c = refl
  all_spelled_shown (and v vs) c = λ i. spelled_shown v c.0 i ∷ all_spelled_shown vs c.1 i

-- ---- its names are identifiers

abbrev AreIdentifiers : List Word → Type 0
AreIdentifiers [] = Unit {0}
AreIdentifiers (x ∷ xs) = (is_identifier x ≡ true) × AreIdentifiers xs

first_identifier : (w : Word) (xs : List Word) (b : Bool) (o : Option (List Word)) → is_identifier w ≡ b → (if b then with_field w o else None) ≡ Some xs → ((ys : List Word) → o ≡ Some ys → AreIdentifiers ys) → AreIdentifiers xs
first_identifier w xs true (Some ys) e h rest =
    let same_list : w ∷ ys ≡ xs = cc in subst AreIdentifiers same_list (e, rest ys refl)
first_identifier w xs true None e h rest = cc
first_identifier w xs false o e h rest = cc

are_identifiers : (ds : Values) (xs : List Word) → field_names ds ≡ Some xs → AreIdentifiers xs
are_identifiers no_values [] h = tt
are_identifiers no_values (x ∷ xs) h = cc
are_identifiers (and (text w) ds) xs h = first_identifier w xs (is_identifier w) (field_names ds) refl h (are_identifiers ds)
are_identifiers (and (truth b) ds) xs h = cc
are_identifiers (and (int z) ds) xs h = cc
are_identifiers (and (model w) ds) xs h = cc
are_identifiers (and (set vs) ds) xs h = cc
are_identifiers (and (fun es vs) ds) xs h = cc

good_fields : (xs : List Word) (ss : Spellings) → AreIdentifiers xs → AreGood ss → AreGoodFields (fields_from xs ss)
good_fields [] ss h g = tt
good_fields (x ∷ xs) no_spellings h g = tt
good_fields (x ∷ xs) (spelling s ss) h g = (h.0, g.0, good_fields xs ss h.1 g.1)

good_pairs : (ks ss : Spellings) → AreGood ks → AreGood ss → AreGoodPairs (pairs_from ks ss)
good_pairs no_spellings ss h g = tt
good_pairs (spelling k ks) no_spellings h g = tt
good_pairs (spelling k ks) (spelling s ss) h g = (h.0, g.0, good_pairs ks ss h.1 g.1)

good_other : (o : Option (List Word)) (ks ss : Spellings) → ((xs : List Word) → o ≡ Some xs → AreIdentifiers xs) → AreGood ks → AreGood ss → IsGood (shown_other o ks ss)
good_other (Some (x ∷ xs)) ks (spelling s ss) i h g =
    let names = i (x ∷ xs) refl in (names.0, g.0, good_fields xs ss names.1 g.1)
good_other (Some (x ∷ xs)) ks no_spellings i h g = tt
good_other (Some []) ks ss i h g = tt
good_other None (spelling k ks) (spelling s ss) i h g = (h.0, g.0, good_pairs ks ss h.1 g.1)
good_other None (spelling k ks) no_spellings i h g = tt
good_other None no_spellings ss i h g = tt

good_fun : (b : Bool) (ds : Values) (ks ss : Spellings) → AreGood ks → AreGood ss → IsGood (if b then angles ss else shown_other (field_names ds) ks ss)
good_fun true ds ks ss h g = g
good_fun false ds ks ss h g = good_other (field_names ds) ks ss (are_identifiers ds) h g

mutual
  pub good_shown : (v : Value) → HasModelNames v → IsGood (shown v)
  good_shown (truth b) h = tt
  good_shown (int (pos n)) h = tt
  good_shown (int (negsuc n)) h = tt
  good_shown (text w) h = tt
  good_shown (model w) h = h
  good_shown (set vs) h = all_good_shown vs h
  good_shown (fun ds vs) h =
      good_fun (is_eq (orders ds (numbers_from 1 (listed vs)))) ds (all_shown ds) (all_shown vs) (all_good_shown ds h.0) (all_good_shown vs h.1)

  pub all_good_shown : (vs : Values) → HaveModelNames vs → AreGood (all_shown vs)
  all_good_shown no_values h = tt
  all_good_shown (and v vs) h = (good_shown v h.0, all_good_shown vs h.1)
