-- The offence of rules 1 to 10 that counts in a file, from those that count in each kind of offence.
use Rattle.std.proofs.Common.{◌≡◌, ℕ, Bool, true, false, not, nat_eq, List, [], ◌∷◌, ◌++◌, Option, Some, None, refl, sym, ap, ◌∙◌}
use Rattle.std.specs.Prelude.{is_some, if◌then◌else◌, filter}
use Rattle.std.specs.List.{flat_map}
use Rattle.std.proofs.lemmas.List.Elements.{filter-append}
use Rattle.tla_token.specs.declared.rule.Rule.TheVariants.{TwoAlgorithms, Placement, Options}
use Rattle.tla_token.specs.Tokens as text
use Rattle.tla_token.specs.Tokens.{blank, stretch}
use Rattle.tla_token.specs.Offences.{Offence, sound, least}
use Rattle.tla_token.specs.Readings.{joined}
use Rattle.tla_token.proofs.Faults.{least_append}
use Rattle.tla_tree.specs.TokenViews.{view}
use Rattle.module_tree.specs.TextFront.{Text}
use Rattle.module_tree.specs.Beginnings.{is_options, all_at}
use Rattle.module_tree.specs.Walk.{Segment, part, Located, walk}
use Rattle.module_tree.specs.FileParts.{module_end, beginnings, after_comment, after_spot, Span, region_of}
use Rattle.module_tree.specs.AlgorithmText.{AlgorithmText, algorithm_of, in_token}
use Rattle.module_tree.specs.FileUnits.{token_in, begins_unit}
use Rattle.module_tree.specs.FileOffences.{offences_of, algorithm_offences, no_module, no_algorithm, second_algorithms, rest_of_line, no_unit, placements, options_in, outside_region, is_splitting, splitting_offences}
use Rattle.module_split.proofs.SplitFaults.{Kept, none_kept, kept_append, if_kept, places_kept}

pub module_kept : (x : Text) (e : Option ℕ) → Kept (no_module x e)
module_kept x (Some n) = refl
module_kept x None = refl

pub missing_kept : (e : Option ℕ) (ns : List ℕ) → Kept (no_algorithm e ns)
missing_kept (Some n) [] = refl
missing_kept (Some n) (m ∷ ns) = refl
missing_kept None ns = refl

second_kept : (a : Option AlgorithmText) (ns : List ℕ) → Kept (second_algorithms a ns)
second_kept (Some a) (n ∷ ns) = places_kept TwoAlgorithms (filter (λ k. not (in_token a k)) ns) refl
second_kept (Some a) [] = refl
second_kept None ns = refl

line_kept : (ds : List Located) → Kept (rest_of_line ds)
line_kept [] = refl
line_kept (d ∷ ds) = by d.is (line_kept ds)
  where
    by : (g : Segment) → Kept (rest_of_line ds) → Kept (rest_of_line (record { at = d.at; place = d.place; is = g } ∷ ds))
    by (part (sound (blank b))) more = on (nat_eq b 10) refl
      where
        on : (k : Bool) → nat_eq b 10 ≡ k → Kept (rest_of_line (record { at = d.at; place = d.place; is = part (sound (blank b)) } ∷ ds))
        on true k = rw k refl
        on false k = rw k more
    by g more = refl

unit_kept : (ds : List Located) → Kept (no_unit ds)
unit_kept [] = refl
unit_kept (d ∷ ds) = by (token_in d) refl (unit_kept ds)
  where
    by : (o : Option text.Token) → token_in d ≡ o → Kept (no_unit ds) → Kept (no_unit (d ∷ ds))
    by (Some t) e more = rw e (if_kept (not (begins_unit (view t))) Placement d.at refl)
    by None e more = rw e more

pub placements_kept : (ds : List Located) → Kept (placements ds)
placements_kept ds = kept_append (if is_some (region_of ds) then [] else rest_of_line (after_comment ds)) (no_unit (after_spot ds)) (by (is_some (region_of ds))) (unit_kept (after_spot ds))
  where
    by : (k : Bool) → Kept (if k then [] else rest_of_line (after_comment ds))
    by true = none_kept
    by false = line_kept (after_comment ds)

options_kept : (x : Text) (rs : List Span) → Kept (flat_map (options_in x) rs)
options_kept x [] = refl
options_kept x (r ∷ rs) = kept_append (options_in x r) (flat_map (options_in x) rs) (places_kept Options (all_at is_options r.from (stretch x r.from r.to)) refl) (options_kept x rs)

of_both : (xs ys : List Offence) → least (filter is_splitting (xs ++ ys)) ≡ joined (least (filter is_splitting xs)) (least (filter is_splitting ys))
of_both xs ys = ap least (filter-append is_splitting xs ys) ∙ least_append (filter is_splitting xs) (filter is_splitting ys)

of_kept : (xs ys : List Offence) (o : Option Offence) → Kept xs → least (filter is_splitting ys) ≡ o → least (filter is_splitting (xs ++ ys)) ≡ joined (least xs) o
of_kept xs ys o h e = of_both xs ys ∙ (λ i. joined (least (h i)) (e i))

-- what counts, of each kind
abbrev pub counts : Text → List Located → Option Offence
counts x ds =
    joined (least (filter is_splitting (offences_of ds))) (joined (least (filter is_splitting (algorithm_offences (algorithm_of x ds)))) (joined (least (no_module x (module_end ds))) (joined (least (no_algorithm (module_end ds) (beginnings ds))) (joined (least (second_algorithms (algorithm_of x ds) (beginnings ds))) (joined (least (placements ds)) (least (flat_map (options_in x) (outside_region x ds))))))))

abbrev all : Text → List Located → Option Offence
all x ds =
    least (filter is_splitting (offences_of ds ++ (algorithm_offences (algorithm_of x ds) ++ (no_module x (module_end ds) ++ (no_algorithm (module_end ds) (beginnings ds) ++ (second_algorithms (algorithm_of x ds) (beginnings ds) ++ (placements ds ++ flat_map (options_in x) (outside_region x ds))))))))

all_counts : (x : Text) (ds : List Located) → all x ds ≡ counts x ds
all_counts x ds =
    let a = algorithm_of x ds in
    let options = flat_map (options_in x) (outside_region x ds) in
    let ns = beginnings ds in
    let e = module_end ds in
    let last : least (filter is_splitting options) ≡ least options = ap least (options_kept x (outside_region x ds)) in
    let places = of_kept (placements ds) options (least options) (placements_kept ds) last in
    let seconds = of_kept (second_algorithms a ns) (placements ds ++ options) (joined (least (placements ds)) (least options)) (second_kept a ns) places in
    let missing = of_kept (no_algorithm e ns) (second_algorithms a ns ++ (placements ds ++ options)) (joined (least (second_algorithms a ns)) (joined (least (placements ds)) (least options))) (missing_kept e ns) seconds in
    let ended = of_kept (no_module x e) (no_algorithm e ns ++ (second_algorithms a ns ++ (placements ds ++ options))) (joined (least (no_algorithm e ns)) (joined (least (second_algorithms a ns)) (joined (least (placements ds)) (least options)))) (module_kept x e) missing in
    of_both (offences_of ds) (algorithm_offences a ++ (no_module x e ++ (no_algorithm e ns ++ (second_algorithms a ns ++ (placements ds ++ options)))))
    ∙ ap (joined (least (filter is_splitting (offences_of ds)))) (of_both (algorithm_offences a) (no_module x e ++ (no_algorithm e ns ++ (second_algorithms a ns ++ (placements ds ++ options))))
    ∙ ap (joined (least (filter is_splitting (algorithm_offences a)))) ended)

pub split_least : (x : Text) (ds : List Located) → ds ≡ walk x → counts x ds ≡ least (splitting_offences x)
split_least x ds e = sym (all_counts x ds) ∙ ap (all x) e
