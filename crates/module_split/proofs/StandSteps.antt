-- The segments of a file, one by one.
use Rattle.std.proofs.Common.{◌≡◌, ℕ, zero, suc, ◌+◌, ◌<◌, ◌≤◌, Bool, true, false, not, List, [], ◌∷◌, ◌++◌, length, get_or, take, drop, Option, Some, None, refl, sym, ap, ◌∙◌, arith}
use Rattle.std.specs.Prelude.{is_some, filter}
use Rattle.std.specs.Option.{option_map}
use Rattle.std.specs.List.{position_or_len}
use Rattle.std.proofs.lemmas.List.{drop_all}
use Rattle.std.proofs.lemmas.List.Elements.{filter-append}
use Rattle.tla_token.specs.declared.part.Class.{Class}
use Rattle.tla_token.specs.declared.rule.Rule.TheVariants.{TwoAlgorithms}
use Rattle.tla_token.specs.Lexemes.{Kind}
use Rattle.tla_token.specs.Scan.{part_of}
use Rattle.tla_token.specs.Tokens as text
use Rattle.tla_token.specs.Tokens.{stretch}
use Rattle.tla_token.specs.Offences.{Offence, least}
use Rattle.tla_token.specs.Readings.{joined}
use Rattle.tla_token.proofs.Words.{one_plus}
use Rattle.tla_token.proofs.Faults.{joined_assoc, joined_none, least_append}
use Rattle.tla_tree.specs.TokenViews.{view}
use Rattle.module_split.specs.declared.stand.Shape.{Shape}
use Rattle.module_split.specs.declared.stand.Shape.TheVariants as shape
use Rattle.module_split.specs.declared.stand.Stand.{Stand}
use Rattle.module_tree.specs.TextFront.{Text}
use Rattle.module_tree.specs.Walk.{Located}
use Rattle.module_split.specs.StandsSeen.{segment_of, segment_seen, located_seen, stands_seen}
use Rattle.module_tree.specs.ModuleParts.{kind_in}
use Rattle.module_tree.specs.FileUnits.{kind_of_segment, token_in, begins_unit}
use Rattle.module_tree.specs.FileParts.{before_first, up_to_first, after_first}
use Rattle.module_tree.specs.FileOffences.{offences_at, segment_offences, offences_of, is_splitting}

-- ---- the first that is so

pub before_is : (p : Located → Bool) (ds : List Located) → before_first p ds ≡ take (position_or_len p ds) ds
before_is p [] = refl
before_is p (d ∷ ds) = by (p d) refl (before_is p ds)
  where
    by : (k : Bool) → p d ≡ k → before_first p ds ≡ take (position_or_len p ds) ds → before_first p (d ∷ ds) ≡ take (position_or_len p (d ∷ ds)) (d ∷ ds)
    by true k e = rw k refl
    by false k e = rw (k, one_plus) (ap (λ (u : List Located). d ∷ u) e)

pub up_to_is : (p : Located → Bool) (ds : List Located) → up_to_first p ds ≡ take (1 + position_or_len p ds) ds
up_to_is p [] = (let e : 1 + 0 ≡ suc 0 = refl in refl)
up_to_is p (d ∷ ds) = by (p d) refl (up_to_is p ds)
  where
    by : (k : Bool) → p d ≡ k → up_to_first p ds ≡ take (1 + position_or_len p ds) ds → up_to_first p (d ∷ ds) ≡ take (1 + position_or_len p (d ∷ ds)) (d ∷ ds)
    by true k e = rw k refl
    by false k e = (let f = one_plus (1 + position_or_len p ds) in rw (k, f) (ap (λ (u : List Located). d ∷ u) e))

pub after_is : (p : Located → Bool) (ds : List Located) → after_first p ds ≡ drop (1 + position_or_len p ds) ds
after_is p [] = refl
after_is p (d ∷ ds) = by (p d) refl (after_is p ds)
  where
    by : (k : Bool) → p d ≡ k → after_first p ds ≡ drop (1 + position_or_len p ds) ds → after_first p (d ∷ ds) ≡ drop (1 + position_or_len p (d ∷ ds)) (d ∷ ds)
    by true k e = rw k refl
    by false k e = (let f = one_plus (1 + position_or_len p ds) in rw (k, f) e)

-- ---- one further

pub cons_at : {A : Type 0} (ds : List A) (i : ℕ) (e : A) → i < length ds → drop i ds ≡ get_or ds i e ∷ drop (i + 1) ds
cons_at [] i e l = absurd (omega arith)
cons_at (d ∷ ds) zero e l = refl
cons_at (d ∷ ds) (suc i) e l = (let f : suc i + 1 ≡ suc (i + 1) = omega arith in rw f (cons_at ds i e (omega arith)))

pub found_here : {A : Type 0} (p : A → Bool) (ds : List A) (i : ℕ) (e : A) → i < length ds → p (get_or ds i e) ≡ true → i + position_or_len p (drop i ds) ≡ i
found_here p ds i e l h = ap (λ (u : List _). i + position_or_len p u) (cons_at ds i e l) ∙ rw h none
  where
    none : i + 0 ≡ i
    none = omega arith

pub not_here : {A : Type 0} (p : A → Bool) (ds : List A) (i : ℕ) (e : A) → i < length ds → p (get_or ds i e) ≡ false → (i + 1) + position_or_len p (drop (i + 1) ds) ≡ i + position_or_len p (drop i ds)
not_here p ds i e l h = more ∙ sym (ap (λ (u : List _). i + position_or_len p u) (cons_at ds i e l) ∙ rw h refl)
  where
    more : (i + 1) + position_or_len p (drop (i + 1) ds) ≡ i + (1 + position_or_len p (drop (i + 1) ds))
    more = omega arith

pub none_there : {A : Type 0} (p : A → Bool) (ds : List A) (i : ℕ) → i ≡ length ds → i + position_or_len p (drop i ds) ≡ length ds
none_there p ds i l = (let e = drop_all i ds (omega arith) in rw e (omega arith))

-- ---- segments

abbrev place_from : (Located → Bool) → Text → List Stand → ℕ
place_from p x ds = position_or_len p (stands_seen x ds)

pub seen_found : (p : Located → Bool) (x : Text) (ds : List Stand) (i : ℕ) (e : Stand) → i < length ds → p (located_seen x (get_or ds i e)) ≡ true → i + position_or_len p (stands_seen x (drop i ds)) ≡ i
seen_found p x ds i e l h = ap (λ (u : List Stand). i + place_from p x u) (cons_at ds i e l) ∙ rw h none
  where
    none : i + 0 ≡ i
    none = omega arith

pub seen_not : (p : Located → Bool) (x : Text) (ds : List Stand) (i : ℕ) (e : Stand) → i < length ds → p (located_seen x (get_or ds i e)) ≡ false
    → (i + 1) + position_or_len p (stands_seen x (drop (i + 1) ds)) ≡ i + position_or_len p (stands_seen x (drop i ds))
seen_not p x ds i e l h = more ∙ sym (ap (λ (u : List Stand). i + place_from p x u) (cons_at ds i e l) ∙ rw h refl)
  where
    more : (i + 1) + position_or_len p (stands_seen x (drop (i + 1) ds)) ≡ i + (1 + position_or_len p (stands_seen x (drop (i + 1) ds)))
    more = omega arith

pub seen_none : (p : Located → Bool) (x : Text) (ds : List Stand) (i : ℕ) → i ≡ length ds → i + position_or_len p (stands_seen x (drop i ds)) ≡ length ds
seen_none p x ds i l = (let e = drop_all i ds (omega arith) in rw e (omega arith))

-- what is wrong with them
pub fault_more : (f : Option Offence) (x : Text) (ds : List Stand) (i : ℕ) (e : Stand) → i < length ds
    → joined (joined f (least (filter is_splitting (segment_offences (get_or ds i e).at (segment_seen x (get_or ds i e)))))) (least (filter is_splitting (offences_of (stands_seen x (drop (i + 1) ds)))))
    ≡ joined f (least (filter is_splitting (offences_of (stands_seen x (drop i ds)))))
fault_more f x ds i e l =
    let d = get_or ds i e in
    let here = segment_offences d.at (segment_seen x d) in
    let more = offences_of (stands_seen x (drop (i + 1) ds)) in
    joined_assoc f (least (filter is_splitting here)) (least (filter is_splitting more))
    ∙ ap (joined f) (sym (least_append (filter is_splitting here) (filter is_splitting more)) ∙ ap least (sym (filter-append is_splitting here more)))
    ∙ ap (λ (u : List Stand). joined f (least (filter is_splitting (offences_of (stands_seen x u))))) (sym (cons_at ds i e l))

pub fault_done : (f : Option Offence) (x : Text) (ds : List Stand) (i : ℕ) → length ds ≤ i → joined f (least (filter is_splitting (offences_of (stands_seen x (drop i ds))))) ≡ f
fault_done f x ds i l = (let e = drop_all i ds l in rw e (joined_none f))

-- ---- beginnings

abbrev unmarked : List Bool → ℕ → Bool
unmarked marks k = not (get_or marks k false)

pub start_more : (f : Option Offence) (marks : List Bool) (ns : List ℕ) (i : ℕ) (e : ℕ) → i < length ns
    → joined (joined f (least (offences_at TwoAlgorithms (filter (λ k. not (get_or marks k false)) (get_or ns i e ∷ []))))) (least (offences_at TwoAlgorithms (filter (λ k. not (get_or marks k false)) (drop (i + 1) ns))))
    ≡ joined f (least (offences_at TwoAlgorithms (filter (λ k. not (get_or marks k false)) (drop i ns))))
start_more f marks ns i e l =
    let p = unmarked marks in
    let n = get_or ns i e in
    let here = filter p (n ∷ []) in
    let more = filter p (drop (i + 1) ns) in
    joined_assoc f (least (offences_at TwoAlgorithms here)) (least (offences_at TwoAlgorithms more))
    ∙ ap (joined f) (sym (least_append (offences_at TwoAlgorithms here) (offences_at TwoAlgorithms more)) ∙ ap least (sym (places_append here more)) ∙ ap (λ (m : List ℕ). least (offences_at TwoAlgorithms m)) (sym (filter-append p (n ∷ []) (drop (i + 1) ns))))
    ∙ ap (λ (u : List ℕ). joined f (least (offences_at TwoAlgorithms (filter p u)))) (sym (cons_at ns i e l))
  where
    places_append : (xs ys : List ℕ) → offences_at TwoAlgorithms (xs ++ ys) ≡ offences_at TwoAlgorithms xs ++ offences_at TwoAlgorithms ys
    places_append [] ys = refl
    places_append (x ∷ xs) ys = ap (λ (u : List Offence). (TwoAlgorithms, x) ∷ u) (places_append xs ys)

pub start_done : (f : Option Offence) (marks : List Bool) (ns : List ℕ) (i : ℕ) → length ns ≤ i → joined f (least (offences_at TwoAlgorithms (filter (λ k. not (get_or marks k false)) (drop i ns)))) ≡ f
start_done f marks ns i l = (let e = drop_all i ns l in rw e (joined_none f))

pub start_marked : (marks : List Bool) (n : ℕ) → get_or marks n false ≡ true → None ≡ least (offences_at TwoAlgorithms (filter (λ k. not (get_or marks k false)) (n ∷ [])))
start_marked marks n h = rw h refl

pub start_unmarked : (marks : List Bool) (n : ℕ) → get_or marks n false ≡ false → Some (TwoAlgorithms, n) ≡ least (offences_at TwoAlgorithms (filter (λ k. not (get_or marks k false)) (n ∷ [])))
start_unmarked marks n h = rw h refl

-- ---- tokens

pub begins_seen : (x : Text) (d : Stand) (c : Class) (bytes : Text) (b : Bool) → d.shape ≡ shape.Part c → bytes ≡ stretch x d.at (d.at + d.len) → true ≡ is_some (kind_in (part_of c bytes))
    → ((k : Kind) (at : ℕ) → kind_in (part_of c bytes) ≡ Some k → b ≡ begins_unit (view (record { kind = k; at = at; place = d.place })))
    → Some b ≡ option_map (λ t. begins_unit (view t)) (token_in (located_seen x d))
begins_seen x d c bytes b is same some h = by (kind_in (part_of c bytes)) refl
  where
    w : Text
    w = stretch x d.at (d.at + d.len)

    there : (o : Option Kind) → kind_in (part_of c bytes) ≡ o → kind_of_segment (segment_of d.shape (stretch x d.at (d.at + d.len))) ≡ o
    there o e = ap (λ (s : Shape). kind_of_segment (segment_of s (stretch x d.at (d.at + d.len)))) is ∙ ap (λ (w : Text). kind_in (part_of c w)) (sym same) ∙ e

    by : (o : Option Kind) → kind_in (part_of c bytes) ≡ o → Some b ≡ option_map (λ t. begins_unit (view t)) (token_in (located_seen x d))
    by (Some k) e = ap Some (h k d.at e) ∙ ap (λ (o : Option Kind). option_map (λ (t : text.Token). begins_unit (view t)) (option_map (λ (k : Kind). record { kind = k; at = d.at; place = d.place }) o)) (sym (there (Some k) e))
    by None e = (let f : true ≡ false = some ∙ ap is_some e in absurd cc)
