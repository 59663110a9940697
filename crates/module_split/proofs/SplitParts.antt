-- What counts of each kind of offence of a file in memory.
use Rattle.std.proofs.Common.{◌≡◌, ℕ, suc, ◌+◌, ◌<◌, ◌≤◌, Bool, true, false, not, cond, List, [], ◌∷◌, ◌++◌, length, get_or, drop, Option, Some, None, refl, sym, ap, subst, ◌∙◌, arith, append-nil}
use Rattle.std.specs.Prelude.{is_some, if◌then◌else◌, filter, find, All}
use Rattle.std.specs.Option.{option_map, unwrap_or}
use Rattle.std.specs.List.{flat_map, position_or_len}
use Rattle.std.proofs.lemmas.List.{drop-map}
use Rattle.tla_token.specs.declared.rule.Rule.TheVariants.{TwoAlgorithms, Options}
use Rattle.tla_token.specs.Tokens.{stretch}
use Rattle.tla_token.specs.Offences.{Offence, least}
use Rattle.tla_token.specs.Readings.{joined}
use Rattle.tla_token.proofs.Faults.{least_append}
use Rattle.module_split.specs.declared.stand.Shape.{Shape}
use Rattle.module_split.specs.declared.stand.Shape.TheVariants as shape
use Rattle.module_split.specs.declared.stand.Stand.{Stand}
use Rattle.module_split.specs.declared.split.Algorithm.{Algorithm}
use Rattle.module_split.specs.declared.split.Gap.{Gap}
use Rattle.module_tree.specs.TextFront.{Text, on_some}
use Rattle.module_tree.specs.Beginnings.{is_options, all_at}
use Rattle.module_tree.specs.Walk.{Segment, Located, bytes, is_region, is_tail, is_header_line}
use Rattle.module_split.specs.StandsSeen.{segment_of, segment_seen, located_seen, stands_seen, IsSolid}
use Rattle.module_tree.specs.FileParts.{first_that, module_end, after_comment, region_of, holds_algorithm}
use Rattle.module_tree.specs.AlgorithmText.{AlgorithmText, algorithm_of, in_token}
use Rattle.module_tree.specs.FileOffences.{offences_at, second_algorithms, rest_of_line, no_unit, placements, options_in, outside_region}
use Rattle.module_split.specs.SplitSeen.{is_header_stand, is_region_stand, is_tail_stand, IsFound, IsGap}
use Rattle.module_split.proofs.StandSteps.{after_is}
use Rattle.module_split.proofs.Gaps.{region_seen, region_bytes}

-- ---- beginnings of further algorithms

same_filter : (p q : ℕ → Bool) → ((k : ℕ) → p k ≡ q k) → (ns : List ℕ) → filter p ns ≡ filter q ns
same_filter p q h [] = refl
same_filter p q h (n ∷ ns) = (λ i. cond (h n i) (n ∷ same_filter p q h ns i) (same_filter p q h ns i))

pub second_none : (x : Text) (ds : List Located) (marks : List Bool) (a : Algorithm) (ns : List ℕ) → IsFound x ds marks a → length ns ≡ 0 → None ≡ least (second_algorithms (algorithm_of x ds) ns)
second_none x ds marks a [] f l = ap (λ (o : Option AlgorithmText). least (second_algorithms o [])) (sym f.is)
second_none x ds marks a (n ∷ ns) f l = absurd (omega arith)

pub second_some : (x : Text) (ds : List Located) (marks : List Bool) (a : Algorithm) (ns : List ℕ) (o : Option Offence) → IsFound x ds marks a → 0 < length ns
    → o ≡ least (offences_at TwoAlgorithms (filter (λ k. not (get_or marks k false)) (drop 1 ns))) → o ≡ least (second_algorithms (algorithm_of x ds) ns)
second_some x ds marks a [] o f l e = absurd (omega arith)
second_some x ds marks a (n ∷ ns) o f l e =
    e
    ∙ ap (λ (ms : List ℕ). least (offences_at TwoAlgorithms ms)) (same_filter (λ k. not (get_or marks k false)) (λ k. not (in_token f.found k)) (λ k. ap not (f.marked k)) ns)
    ∙ ap (λ (o : Option AlgorithmText). least (second_algorithms o (n ∷ ns))) (sym f.is)

pub second_absent : (x : Text) (ds : List Located) (ns : List ℕ) → algorithm_of x ds ≡ None → None ≡ least (second_algorithms (algorithm_of x ds) ns)
second_absent x ds ns e = ap (λ (o : Option AlgorithmText). least (second_algorithms o ns)) (sym e)

-- ---- the place of a translation

pub place_new : (x : Text) (ds : List Stand) (g : Gap) (comment : ℕ) (rest : List Stand) → IsGap x ds g → g.is_new ≡ true → after_comment (stands_seen x ds) ≡ stands_seen x rest
    → joined (least (rest_of_line (stands_seen x rest))) (least (no_unit (stands_seen x g.after.now))) ≡ least (placements (stands_seen x ds))
place_new x ds g comment rest h new lower =
    let S = stands_seen x ds in
    let none : is_some (region_of S) ≡ false = h.is_new ∙ ap not new in
    sym (least_append (rest_of_line (stands_seen x rest)) (no_unit (stands_seen x g.after.now)))
    ∙ ap least (λ i. (if sym none i then [] else rest_of_line (sym lower i)) ++ no_unit (sym h.after i))

pub place_old : (x : Text) (ds : List Stand) (g : Gap) → IsGap x ds g → g.is_new ≡ false → least (no_unit (stands_seen x g.after.now)) ≡ least (placements (stands_seen x ds))
place_old x ds g h new =
    let S = stands_seen x ds in
    let some : is_some (region_of S) ≡ true = h.is_new ∙ ap not new in
    ap least (λ i. (if sym some i then [] else rest_of_line (after_comment S)) ++ no_unit (sym h.after i))

-- ---- header, region and the module's end

find_seen : (q : Segment → Bool) (p : Stand → Bool) (x : Text) → ((d : Stand) → q (segment_seen x d) ≡ p d) → (ds : List Stand) → first_that q (stands_seen x ds) ≡ option_map (located_seen x) (find p ds)
find_seen q p x h [] = refl
find_seen q p x h (d ∷ ds) = by (p d) refl (find_seen q p x h ds)
  where
    by : (k : Bool) → p d ≡ k → first_that q (stands_seen x ds) ≡ option_map (located_seen x) (find p ds) → first_that q (stands_seen x (d ∷ ds)) ≡ option_map (located_seen x) (find p (d ∷ ds))
    by true k e = (let m : q (segment_seen x d) ≡ true = h d ∙ k in rw (m, k) refl)
    by false k e = (let m : q (segment_seen x d) ≡ false = h d ∙ k in rw (m, k) e)

pub header_seen : (x : Text) (d : Stand) → is_header_line (segment_seen x d) ≡ is_header_stand d
header_seen x d = by d.shape
  where
    by : (s : Shape) → is_header_line (segment_of s (stretch x d.at (d.at + d.len))) ≡ is_header_stand (record { at = d.at; len = d.len; place = d.place; shape = s })
    by shape.Header = refl
    by s = refl

tail_seen : (x : Text) (d : Stand) → is_tail (segment_seen x d) ≡ is_tail_stand d
tail_seen x d = by d.shape
  where
    by : (s : Shape) → is_tail (segment_of s (stretch x d.at (d.at + d.len))) ≡ is_tail_stand (record { at = d.at; len = d.len; place = d.place; shape = s })
    by shape.Tail = refl
    by s = refl

pub header_found : (x : Text) (ds : List Stand) → first_that is_header_line (stands_seen x ds) ≡ option_map (located_seen x) (find is_header_stand ds)
header_found x ds = find_seen is_header_line is_header_stand x (header_seen x) ds

pub region_found : (x : Text) (ds : List Stand) → region_of (stands_seen x ds) ≡ option_map (located_seen x) (find is_region_stand ds)
region_found x ds = find_seen is_region is_region_stand x (region_seen x) ds

tail_found : (x : Text) (ds : List Stand) → first_that is_tail (stands_seen x ds) ≡ option_map (located_seen x) (find is_tail_stand ds)
tail_found x ds = find_seen is_tail is_tail_stand x (tail_seen x) ds

pub end_found : (x : Text) (ds : List Stand) (o : Option Stand) → o ≡ find is_tail_stand ds → module_end (stands_seen x ds) ≡ option_map (λ d. d.at) o
end_found x ds o e = ap (λ (o : Option Located). on_some o (λ d. Some d.at)) (tail_found x ds ∙ ap (option_map (located_seen x)) (sym e)) ∙ by o
  where
    by : (o : Option Stand) → on_some (option_map (located_seen x) o) (λ d. Some d.at) ≡ option_map (λ d. d.at) o
    by None = refl
    by (Some d) = refl

pub found_one : (p : Stand → Bool) (P : Stand → Type 0) (ds : List Stand) (d : Stand) → All P ds → find p ds ≡ Some d → P d × (p d ≡ true)
found_one p P [] d h e = absurd cc
found_one p P (c ∷ ds) d h e = by (p c) refl (found_one p P ds d (λ k f l. h (suc k) f (omega arith)))
  where
    by : (k : Bool) → p c ≡ k → (find p ds ≡ Some d → P d × (p d ≡ true)) → P d × (p d ≡ true)
    by true k deeper =
        let same : Some c ≡ Some d = rw k at e in
        let eq : c ≡ d = cc in
        (subst P eq (h 0 c (omega arith)), subst (λ (c : Stand). p c ≡ true) eq k)
    by false k deeper = deeper (rw k at e)

pub lower_seen : (x : Text) (ds : List Stand) (comment : ℕ) (rest : List Stand) → comment ≡ position_or_len holds_algorithm (stands_seen x ds) → rest ≡ drop (1 + comment) ds → after_comment (stands_seen x ds) ≡ stands_seen x rest
lower_seen x ds comment rest h e = after_is holds_algorithm (stands_seen x ds) ∙ ap (λ (n : ℕ). drop (1 + n) (stands_seen x ds)) (sym h) ∙ drop-map (located_seen x) (1 + comment) ds ∙ ap (stands_seen x) (sym e)

-- ---- options

abbrev outside_fault : Text → List Stand → Option Offence
outside_fault x ds = least (flat_map (options_in x) (outside_region x (stands_seen x ds)))

-- where the module ends, or the text
abbrev pub IsEnd : Text → List Stand → ℕ → Type 0
IsEnd x ds n = n ≡ unwrap_or (module_end (stands_seen x ds)) (length x)

pub no_options : (x : Text) (ds : List Stand) → find is_header_stand ds ≡ None → None ≡ least (flat_map (options_in x) (outside_region x (stands_seen x ds)))
no_options x ds e = (let f : first_that is_header_line (stands_seen x ds) ≡ None = header_found x ds ∙ ap (option_map (located_seen x)) e in rw f refl)

pub options_new : (x : Text) (ds : List Stand) (h : Stand) (n : ℕ) (o : Option Offence) → find is_header_stand ds ≡ Some h → find is_region_stand ds ≡ None → IsEnd x ds n
    → o ≡ least (offences_at Options (all_at is_options h.at (stretch x h.at n))) → o ≡ least (flat_map (options_in x) (outside_region x (stands_seen x ds)))
options_new x ds h n o e r k is =
    let f : first_that is_header_line (stands_seen x ds) ≡ Some (located_seen x h) = header_found x ds ∙ ap (option_map (located_seen x)) e in
    let g : region_of (stands_seen x ds) ≡ None = region_found x ds ∙ ap (option_map (located_seen x)) r in
    is ∙ ap least (sym (append-nil (offences_at Options (all_at is_options h.at (stretch x h.at n))))) ∙ by (module_end (stands_seen x ds)) refl k f g
  where
    by : (m : Option ℕ) → module_end (stands_seen x ds) ≡ m → n ≡ unwrap_or m (length x) → first_that is_header_line (stands_seen x ds) ≡ Some (located_seen x h) → region_of (stands_seen x ds) ≡ None
        → least (offences_at Options (all_at is_options h.at (stretch x h.at n)) ++ []) ≡ least (flat_map (options_in x) (outside_region x (stands_seen x ds)))
    by (Some m) q k f g = rw (f, g, q, k) refl
    by None q k f g = rw (f, g, q, k) refl

pub options_old : (x : Text) (ds : List Stand) (h old : Stand) (n : ℕ) (o : Option Offence) → All (IsSolid x) ds → find is_header_stand ds ≡ Some h → find is_region_stand ds ≡ Some old → IsEnd x ds n
    → o ≡ joined (least (offences_at Options (all_at is_options h.at (stretch x h.at old.at)))) (least (offences_at Options (all_at is_options (old.at + old.len) (stretch x (old.at + old.len) n))))
    → o ≡ least (flat_map (options_in x) (outside_region x (stands_seen x ds)))
options_old x ds h old n o solid e r k is =
    let f : first_that is_header_line (stands_seen x ds) ≡ Some (located_seen x h) = header_found x ds ∙ ap (option_map (located_seen x)) e in
    let g : region_of (stands_seen x ds) ≡ Some (located_seen x old) = region_found x ds ∙ ap (option_map (located_seen x)) r in
    let one = found_one is_region_stand (IsSolid x) ds old solid r in
    let size : length (bytes (segment_seen x old)) ≡ old.len = region_bytes x old one.0 one.1 in
    let upper = offences_at Options (all_at is_options h.at (stretch x h.at old.at)) in
    let lower = offences_at Options (all_at is_options (old.at + old.len) (stretch x (old.at + old.len) n)) in
    is ∙ sym (least_append upper lower) ∙ ap (λ (os : List Offence). least (upper ++ os)) (sym (append-nil lower))
    ∙ ap (λ (m : ℕ). least (upper ++ (offences_at Options (all_at is_options (old.at + m) (stretch x (old.at + m) n)) ++ []))) (sym size)
    ∙ by (module_end (stands_seen x ds)) refl k f g
  where
    by : (m : Option ℕ) → module_end (stands_seen x ds) ≡ m → n ≡ unwrap_or m (length x) → first_that is_header_line (stands_seen x ds) ≡ Some (located_seen x h) → region_of (stands_seen x ds) ≡ Some (located_seen x old)
        → least (offences_at Options (all_at is_options h.at (stretch x h.at old.at)) ++ (offences_at Options (all_at is_options (old.at + length (bytes (segment_seen x old))) (stretch x (old.at + length (bytes (segment_seen x old))) n)) ++ []))
        ≡ least (flat_map (options_in x) (outside_region x (stands_seen x ds)))
    by (Some m) q k f g = rw (f, g, q, k) refl
    by None q k f g = rw (f, g, q, k) refl

pub sound_end : (x : Text) (ds : List Stand) (d : Stand) (p : Stand → Bool) → All (IsSolid x) ds → find p ds ≡ Some d → d.at + d.len ≤ length x
sound_end x ds d p solid e = (found_one p (IsSolid x) ds d solid e).0.within
