-- Where a file has its title, its module's end, its comments, its translation and the place for one ("A PlusCal User's Manual", sections 2.1 and 2.2).
use Rattle.std.specs.Prelude.{ℕ, ◌+◌, ◌-◌, nat_eq, Bool, true, false, List, [], ◌∷◌, ◌++◌, length, take, drop, Option, Some, None, is_some, if◌then◌else◌, find}
use Rattle.std.specs.List.{flat_map}
use Rattle.std.specs.Option.{option_or}
use Rattle.tla_token.specs.Places.{after}
use Rattle.tla_token.specs.Tokens.{block, blank}
use Rattle.tla_token.specs.Offences.{sound, open_block}
use Rattle.module_tree.specs.TextFront.{Text, on_some, whole_line}
use Rattle.module_tree.specs.HeaderAndRegion.{header_title}
use Rattle.module_tree.specs.Beginnings.{begins_algorithm, all_at}
use Rattle.module_tree.specs.Walk.{Segment, part, region, bytes, is_header_line, is_region, is_tail, Located, walk_from}

-- ---- lists of segments

abbrev pub before_first : (Located → Bool) → List Located → List Located
before_first p [] = []
before_first p (d ∷ ds) = if p d then [] else d ∷ before_first p ds

abbrev pub up_to_first : (Located → Bool) → List Located → List Located
up_to_first p [] = []
up_to_first p (d ∷ ds) = d ∷ (if p d then [] else up_to_first p ds)

abbrev pub after_first : (Located → Bool) → List Located → List Located
after_first p [] = []
after_first p (d ∷ ds) = if p d then ds else after_first p ds

abbrev pub first_that : (Segment → Bool) → List Located → Option Located
first_that p ds = find (λ d. p d.is) ds

-- ---- title and end

abbrev pub title : List Located → Option Text
title ds = on_some (first_that is_header_line ds) (λ d. header_title (bytes d.is))

abbrev pub module_end : List Located → Option ℕ
module_end ds = on_some (first_that is_tail ds) (λ d. Some d.at)

-- ---- comments

-- what is within a (* comment; an open one goes on to the text's end
abbrev pub within : Segment → Text
within (part (sound (block body))) = take (length body - 2) body
within (part (open_block body)) = body
within g = []

-- where algorithms begin
abbrev pub beginnings_in : Located → List ℕ
beginnings_in d = all_at begins_algorithm (d.at + 2) (within d.is)

abbrev pub beginnings : List Located → List ℕ
beginnings ds = flat_map beginnings_in ds

abbrev pub first_of : List ℕ → Option ℕ
first_of [] = None
first_of (n ∷ ns) = Some n

abbrev pub holds_algorithm : Located → Bool
holds_algorithm d = is_some (first_of (beginnings_in d))

-- after the comment of the algorithm
abbrev pub after_comment : List Located → List Located
after_comment ds = after_first holds_algorithm ds

-- ---- the region, or the place for one

-- a stretch of the text
pub record Span : Type 0 where
  pub from : ℕ
  pub to : ℕ

abbrev pub span_of : Located → Span
span_of d = record { from = d.at; to = d.at + length (bytes d.is) }

abbrev pub region_of : List Located → Option Located
region_of ds = first_that is_region ds

abbrev pub is_newline : Located → Bool
is_newline d = by d.is
  where
    by : Segment → Bool
    by (part (sound (blank b))) = nat_eq b 10
    by g = false

-- the start of the line after the one on which the algorithm's comment ends
abbrev pub insertion : List Located → Option Span
insertion ds = on_some (find is_newline (after_comment ds)) (λ d. Some (record { from = d.at + 1; to = d.at + 1 }))

abbrev pub spot : List Located → Option Span
spot ds = option_or (on_some (region_of ds) (λ d. Some (span_of d))) (insertion ds)

-- the segments before it, and after it
abbrev pub before_spot : List Located → List Located
before_spot ds =
    if is_some (region_of ds) then before_first (λ d. is_region d.is) ds else up_to_first holds_algorithm ds ++ up_to_first is_newline (after_comment ds)

abbrev pub after_spot : List Located → List Located
after_spot ds = if is_some (region_of ds) then after_first (λ d. is_region d.is) ds else after_first is_newline (after_comment ds)

-- between the two lines of a region, walked as the module is
abbrev pub inside_region : Located → List Located
inside_region d = by d.is
  where
    by : Segment → List Located
    by (region v w) = (let l = whole_line v in walk_from (record { at = d.at + length l; place = after d.place l; headed = true; marked = true }) 0 (drop (length l) v))
    by g = []
