-- What is wrong with a file before its algorithm is read; the least rule counts, at its first place ("A PlusCal User's Manual", sections 2.1 and 2.2;
-- "Specifying Systems", section 15.1).
use Rattle.std.specs.Prelude.{◌≡◌, ℕ, nat_le, Bool, true, false, not, List, [], ◌∷◌, ◌++◌, length, Option, Some, None, is_some, if◌then◌else◌, filter, map}
use Rattle.std.specs.List.{flat_map}
use Rattle.tla_token.specs.declared.rule.Rule.{Rule}
use Rattle.tla_token.specs.declared.rule.Rule.TheVariants.{NoModule, NoAlgorithm, TwoAlgorithms, BadRegion, Placement, Options}
use Rattle.tla_token.specs.declared.rule.Refusal.{Refusal}
use Rattle.tla_token.specs.Places.{place_at}
use Rattle.tla_token.specs.Rules.{rule_number}
use Rattle.tla_token.specs.Tokens as text
use Rattle.tla_token.specs.Tokens.{blank, stretch}
use Rattle.tla_token.specs.Offences.{Offence, sound, offence_if, part_offences, least}
use Rattle.tla_tree.specs.TokenViews.{view}
use Rattle.module_tree.specs.TextFront.{Text}
use Rattle.module_tree.specs.Beginnings.{is_options, all_at}
use Rattle.module_tree.specs.Walk.{Segment, part, mark, inner, is_header_line, Located, walk}
use Rattle.module_tree.specs.FileParts.{first_that, module_end, beginnings, after_comment, Span, span_of, region_of, is_newline, after_spot}
use Rattle.module_tree.specs.AlgorithmText.{IndexedPart, AlgorithmText, algorithm_of, in_token}
use Rattle.module_tree.specs.FileUnits.{token_in, begins_unit}

abbrev pub offences_at : Rule → List ℕ → List Offence
offences_at r ns = map (λ n. (r, n)) ns

-- ---- segments, and parts of the algorithm

abbrev pub segment_offences : ℕ → Segment → List Offence
segment_offences at (part p) = part_offences false at p
segment_offences at (mark w) = (BadRegion, at) ∷ []
segment_offences at (inner w) = (Placement, at) ∷ []
segment_offences at g = []

abbrev pub offences_of : List Located → List Offence
offences_of ds = flat_map (λ d. segment_offences d.at d.is) ds

abbrev pub inner_offences : List IndexedPart → List Offence
inner_offences ps = flat_map (λ p. part_offences true p.0 p.1) ps

abbrev pub algorithm_offences : Option AlgorithmText → List Offence
algorithm_offences (Some a) = inner_offences a.rest.parts
algorithm_offences None = []

-- ---- module and algorithm

-- no header, or no end after it: at the text's end
abbrev pub no_module : Text → Option ℕ → List Offence
no_module x (Some n) = []
no_module x None = (NoModule, length x) ∷ []

-- at the module's end
abbrev pub no_algorithm : Option ℕ → List ℕ → List Offence
no_algorithm (Some n) [] = (NoAlgorithm, n) ∷ []
no_algorithm e ns = []

-- all beginnings but the first, outside its tokens
abbrev pub second_algorithms : Option AlgorithmText → List ℕ → List Offence
second_algorithms (Some a) (n ∷ ns) = offences_at TwoAlgorithms (filter (λ k. not (in_token a k)) ns)
second_algorithms a ns = []

-- ---- the place of the translation

-- after the algorithm's comment, on its line, are only blanks
abbrev pub rest_of_line : List Located → List Offence
rest_of_line [] = []
rest_of_line (d ∷ ds) = if is_newline d then [] else by d.is (rest_of_line ds)
  where
    by : Segment → List Offence → List Offence
    by (part (sound (blank b))) more = more
    by g more = (Placement, d.at) ∷ []

-- the first token begins a unit
abbrev pub no_unit : List Located → List Offence
no_unit [] = []
no_unit (d ∷ ds) = by (token_in d) (no_unit ds)
  where
    by : Option text.Token → List Offence → List Offence
    by (Some t) more = offence_if (not (begins_unit (view t))) Placement d.at
    by None more = more

abbrev pub placements : List Located → List Offence
placements ds = (if is_some (region_of ds) then [] else rest_of_line (after_comment ds)) ++ no_unit (after_spot ds)

-- ---- options

-- the module outside its region, up to its end or the text's
abbrev pub outside_region : Text → List Located → List Span
outside_region x ds = by (first_that is_header_line ds) (module_end ds) (region_of ds)
  where
    or_length : Option ℕ → ℕ
    or_length (Some n) = n
    or_length None = length x

    by : Option Located → Option ℕ → Option Located → List Span
    by None e r = []
    by (Some h) e None = record { from = h.at; to = or_length e } ∷ []
    by (Some h) e (Some d) = record { from = h.at; to = d.at } ∷ record { from = (span_of d).to; to = or_length e } ∷ []

abbrev pub options_in : Text → Span → List Offence
options_in x r = offences_at Options (all_at is_options r.from (stretch x r.from r.to))

-- ---- all of them

abbrev pub file_offences : Text → List Offence
file_offences x =
    let ds = walk x in
    let a = algorithm_of x ds in
    offences_of ds
    ++ (algorithm_offences a
    ++ (no_module x (module_end ds)
    ++ (no_algorithm (module_end ds) (beginnings ds)
    ++ (second_algorithms a (beginnings ds)
    ++ (placements ds
    ++ flat_map (options_in x) (outside_region x ds))))))

-- rule 12, on numbers of the algorithm, is asked after rule 11
abbrev pub is_splitting : Offence → Bool
is_splitting o = nat_le (rule_number o.0) 10

abbrev pub splitting_offences : Text → List Offence
splitting_offences x = filter is_splitting (file_offences x)

-- the file is refused so, by one of the rules 1 to 10
pub record RefusesSplit (x : Text) (refusal : Refusal) : Type 0 where
  pub at : ℕ
  pub first : least (splitting_offences x) ≡ Some (refusal.rule, at)
  pub place : refusal.place ≡ place_at x at
