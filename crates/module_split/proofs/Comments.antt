-- What is within the comments of a file in memory.
use Rattle.std.proofs.Common.{◌≡◌, ℕ, zero, suc, ◌+◌, ◌-◌, ◌<◌, ◌≤◌, Bool, true, false, List, [], ◌∷◌, ◌++◌, length, get_or, take, drop, Option, Some, None, refl, sym, ap, ◌∙◌, arith, length-drop}
use Rattle.std.specs.Prelude.{is_some, slice_get, find}
use Rattle.std.specs.List.{position_or_len}
use Rattle.std.proofs.lemmas.Option.{same_Some}
use Rattle.std.proofs.lemmas.List.{length-take-le, drop-take, drop_all}
use Rattle.std.proofs.lemmas.List.Folds.{find_at}
use Rattle.tla_token.specs.declared.part.Class.TheVariants as class
use Rattle.tla_token.specs.declared.token.Span.{Span}
use Rattle.tla_token.specs.Tokens.{stretch}
use Rattle.tla_token.proofs.Scans.{drop_more}
use Rattle.module_split.specs.declared.stand.Shape.{Shape}
use Rattle.module_split.specs.declared.stand.Shape.TheVariants as shape
use Rattle.module_split.specs.declared.stand.Stand.{Stand}
use Rattle.module_tree.specs.TextFront.{Text, on_some}
use Rattle.module_tree.specs.Walk.{Located}
use Rattle.module_tree.specs.AlgorithmText.{AlgorithmText, algorithm_at, algorithm_of}
use Rattle.module_tree.specs.Beginnings.{begins_algorithm, all_at}
use Rattle.module_tree.specs.FileParts.{within, first_of, holds_algorithm, beginnings_in, beginnings}
use Rattle.module_split.specs.StandsSeen.{segment_of, segment_seen, located_seen, stands_seen, IsSolid}
use Rattle.module_split.specs.SplitSeen.{IsInnerSpan, IsInner}
use Rattle.module_split.proofs.StandSteps.{cons_at}

block_within : (x : Text) (d : Stand) → d.shape ≡ shape.Part class.Block → within (segment_seen x d) ≡ take (length (drop 2 (stretch x d.at (d.at + d.len))) - 2) (drop 2 (stretch x d.at (d.at + d.len)))
block_within x d e = ap (λ (s : Shape). within (segment_of s (stretch x d.at (d.at + d.len)))) e

open_within : (x : Text) (d : Stand) → d.shape ≡ shape.Part class.OpenBlock → within (segment_seen x d) ≡ drop 2 (stretch x d.at (d.at + d.len))
open_within x d e = ap (λ (s : Shape). within (segment_of s (stretch x d.at (d.at + d.len)))) e

pub stretch_len : (x : Text) (at len : ℕ) → at + len ≤ length x → length (stretch x at (at + len)) ≡ len
stretch_len x at len l =
    let e : (at + len) - at ≡ len = omega arith in
    length-take-le ((at + len) - at) (drop at x) (omega (arith, length-drop at x)) ∙ e

none_taken : (t : Text) (n : ℕ) → n ≡ 0 → take n t ≡ []
none_taken t n e = ap (λ (k : ℕ). take k t) e

pub short_block : (x : Text) (d : Stand) → IsSolid x d → d.shape ≡ shape.Part class.Block → d.len < 4 → within (segment_seen x d) ≡ []
short_block x d h e l =
    let size = stretch_len x d.at d.len h.within in
    block_within x d e ∙ none_taken (drop 2 (stretch x d.at (d.at + d.len))) (length (drop 2 (stretch x d.at (d.at + d.len))) - 2) (omega (arith, length-drop 2 (stretch x d.at (d.at + d.len))))

-- a stretch without its first two bytes
front_cut : (x : Text) (at len : ℕ) → 2 ≤ len → drop 2 (stretch x at (at + len)) ≡ stretch x (at + 2) (at + len)
front_cut x at len l =
    let e : (at + len) - at ≡ 2 + (len - 2) = omega arith in
    let f : (at + len) - (at + 2) ≡ len - 2 = omega arith in
    ap (λ (n : ℕ). drop 2 (take n (drop at x))) e ∙ drop-take 2 (len - 2) (drop at x) ∙ (λ i. take (sym f i) (drop_more at 2 x i))

taken_twice : (m n : ℕ) (t : Text) → m ≤ n → take m (take n t) ≡ take m t
taken_twice zero n t l = refl
taken_twice (suc m) zero t l = absurd (omega arith)
taken_twice (suc m) (suc n) [] l = refl
taken_twice (suc m) (suc n) (b ∷ t) l = ap (λ (u : Text). b ∷ u) (taken_twice m n t (omega arith))

pub whole_block : (x : Text) (d : Stand) → IsSolid x d → d.shape ≡ shape.Part class.Block → 4 ≤ d.len → IsInnerSpan x d (record { from = d.at + 2; to = (d.at + d.len) - 2 })
whole_block x d h e l =
    let inside : d.at + d.len ≤ length x = h.within in
    let body = drop 2 (stretch x d.at (d.at + d.len)) in
    let size : length body ≡ d.len - 2 = length-drop 2 (stretch x d.at (d.at + d.len)) ∙ ap (λ (n : ℕ). n - 2) (stretch_len x d.at d.len h.within) in
    let cut : body ≡ stretch x (d.at + 2) (d.at + d.len) = front_cut x d.at d.len (omega arith) in
    let to : length body - 2 ≡ ((d.at + d.len) - 2) - (d.at + 2) = omega arith in
    let is : stretch x (d.at + 2) ((d.at + d.len) - 2) ≡ within (segment_seen x d) =
    sym (block_within x d e ∙ (λ i. take (to i) (cut i)) ∙ taken_twice (((d.at + d.len) - 2) - (d.at + 2)) ((d.at + d.len) - (d.at + 2)) (drop (d.at + 2) x) (omega arith)) in
    let len : length (stretch x (d.at + 2) ((d.at + d.len) - 2)) ≡ ((d.at + d.len) - 2) - (d.at + 2) =
    length-take-le (((d.at + d.len) - 2) - (d.at + 2)) (drop (d.at + 2) x) (omega (arith, length-drop (d.at + 2) x)) in
    record { from = refl; order = omega arith; ends = omega arith; is = is; size = omega (arith, ap length is, len) }

pub short_open : (x : Text) (d : Stand) → IsSolid x d → d.shape ≡ shape.Part class.OpenBlock → d.len < 2 → within (segment_seen x d) ≡ []
short_open x d h e l = open_within x d e ∙ none_left (stretch x d.at (d.at + d.len)) (omega (arith, stretch_len x d.at d.len h.within))
  where
    none_left : (t : Text) → length t < 2 → drop 2 t ≡ []
    none_left [] l = refl
    none_left (a ∷ []) l = refl
    none_left (a ∷ b ∷ t) l = absurd (omega arith)

pub whole_open : (x : Text) (d : Stand) → IsSolid x d → d.shape ≡ shape.Part class.OpenBlock → 2 ≤ d.len → IsInnerSpan x d (record { from = d.at + 2; to = d.at + d.len })
whole_open x d h e l =
    let inside : d.at + d.len ≤ length x = h.within in
    let is : stretch x (d.at + 2) (d.at + d.len) ≡ within (segment_seen x d) = sym (open_within x d e ∙ front_cut x d.at d.len l) in
    let len : length (stretch x (d.at + 2) (d.at + d.len)) ≡ (d.at + d.len) - (d.at + 2) = length-take-le ((d.at + d.len) - (d.at + 2)) (drop (d.at + 2) x) (omega (arith, length-drop (d.at + 2) x)) in
    record { from = refl; order = omega arith; ends = inside; is = is; size = omega (arith, ap length is, len) }

-- ---- beginnings

pub begun_some : (x : Text) (d : Stand) (s : Span) → IsInnerSpan x d s → all_at begins_algorithm s.from (stretch x s.from s.to) ≡ beginnings_in (located_seen x d)
begun_some x d s h = (λ i. all_at begins_algorithm (h.from i) (h.is i))

pub begun_none : (x : Text) (d : Stand) (o : Option Span) → o ≡ None → IsInner x d o → beginnings_in (located_seen x d) ≡ []
begun_none x d None e h = ap (all_at begins_algorithm (d.at + 2)) h
begun_none x d (Some s) e h = absurd cc

pub begun_more : (x : Text) (ds : List Stand) (i : ℕ) (e : Stand) → i < length ds → beginnings_in (located_seen x (get_or ds i e)) ++ beginnings (stands_seen x (drop (i + 1) ds)) ≡ beginnings (stands_seen x (drop i ds))
begun_more x ds i e l = ap (λ (u : List Stand). beginnings (stands_seen x u)) (sym (cons_at ds i e l))

pub begun_done : (x : Text) (ds : List Stand) (i : ℕ) → length ds ≤ i → beginnings (stands_seen x (drop i ds)) ≡ []
begun_done x ds i l = ap (λ (u : List Stand). beginnings (stands_seen x u)) (drop_all i ds l)

-- what stands past the end of a list of segments, as code sees it
abbrev pub no_stand : Stand
no_stand = record { at = 0; len = 0; place = record { line = 0; col = 0 }; shape = shape.Free }

-- ---- the algorithm

seen_get : (x : Text) (ds : List Stand) (i : ℕ) (e : Stand) → i < length ds → slice_get (stands_seen x ds) i ≡ Some (located_seen x (get_or ds i e))
seen_get x [] i e l = absurd (omega arith)
seen_get x (d ∷ ds) zero e l = refl
seen_get x (d ∷ ds) (suc i) e l = seen_get x ds i e (omega arith)

seen_past : (x : Text) (ds : List Stand) (i : ℕ) → length ds ≤ i → slice_get (stands_seen x ds) i ≡ None
seen_past x [] i l = refl
seen_past x (d ∷ ds) zero l = absurd (omega arith)
seen_past x (d ∷ ds) (suc i) l = seen_past x ds i (omega arith)

pub found_seen : (p : Located → Bool) (x : Text) (ds : List Stand) (i : ℕ) (e : Stand) → i ≡ position_or_len p (stands_seen x ds) → i < length ds → find p (stands_seen x ds) ≡ Some (located_seen x (get_or ds i e))
found_seen p x ds i e h l = find_at p (stands_seen x ds) ∙ ap (slice_get (stands_seen x ds)) (sym h) ∙ seen_get x ds i e l

pub none_seen : (p : Located → Bool) (x : Text) (ds : List Stand) (i : ℕ) → i ≡ position_or_len p (stands_seen x ds) → length ds ≤ i → find p (stands_seen x ds) ≡ None
none_seen p x ds i h l = find_at p (stands_seen x ds) ∙ ap (slice_get (stands_seen x ds)) (sym h) ∙ seen_past x ds i l

-- in the comment d
abbrev begun_in : Text → Located → Option AlgorithmText
begun_in x d = on_some (first_of (beginnings_in d)) (λ n. Some (algorithm_at n (d.at + 2 + length (within d.is) - n) (drop n x)))

abbrev found_by : Text → Option Located → Option AlgorithmText
found_by x o = on_some o (begun_in x)

pub no_comment : (x : Text) (ds : List Stand) (i : ℕ) → i ≡ position_or_len holds_algorithm (stands_seen x ds) → length ds ≤ i → algorithm_of x (stands_seen x ds) ≡ None
no_comment x ds i h l = ap (found_by x) (none_seen holds_algorithm x ds i h l)

found_holds : (p : Located → Bool) (ds : List Located) (d : Located) → find p ds ≡ Some d → p d ≡ true
found_holds p [] d e = absurd cc
found_holds p (c ∷ ds) d e = by (p c) refl (found_holds p ds d)
  where
    by : (k : Bool) → p c ≡ k → (find p ds ≡ Some d → p d ≡ true) → p d ≡ true
    by true k deeper = (let f : Some c ≡ Some d = rw k at e in ap p (sym (same_Some c d f)) ∙ k)
    by false k deeper = deeper (rw k at e)

-- the algorithm's comment has a beginning
pub no_beginning : (x : Text) (ds : List Stand) (i : ℕ) (e : Stand) → i ≡ position_or_len holds_algorithm (stands_seen x ds) → i < length ds → first_of (beginnings_in (located_seen x (get_or ds i e))) ≡ None → ⊥
no_beginning x ds i e h l n =
    let holds : is_some (first_of (beginnings_in (located_seen x (get_or ds i e)))) ≡ true = found_holds holds_algorithm (stands_seen x ds) (located_seen x (get_or ds i e)) (found_seen holds_algorithm x ds i e h l) in
    let f : false ≡ true = ap (λ (o : Option ℕ). is_some o) (sym n) ∙ holds in
    absurd cc

pub algorithm_here : (x : Text) (ds : List Stand) (i : ℕ) (e : Stand) (s : Span) (n : ℕ) → i ≡ position_or_len holds_algorithm (stands_seen x ds) → i < length ds → IsInnerSpan x (get_or ds i e) s
    → first_of (beginnings_in (located_seen x (get_or ds i e))) ≡ Some n → algorithm_of x (stands_seen x ds) ≡ Some (algorithm_at n (s.to - n) (drop n x))
algorithm_here x ds i e s n h l inner first =
    let d = get_or ds i e in
    let left : d.at + 2 + length (within (segment_seen x d)) - n ≡ s.to - n = omega (arith, inner.from, inner.size) in
    ap (found_by x) (found_seen holds_algorithm x ds i e h l)
    ∙ ap (λ (o : Option ℕ). on_some o (λ n. Some (algorithm_at n (d.at + 2 + length (within (segment_seen x d)) - n) (drop n x)))) first
    ∙ ap (λ (k : ℕ). Some (algorithm_at n k (drop n x))) left
