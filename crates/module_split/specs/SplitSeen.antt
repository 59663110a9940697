-- What code knows of the segments of a file when it reads their parts off.
use Rattle.std.specs.Prelude.{◌≡◌, ℕ, ◌+◌, ◌≤◌, Bool, true, false, not, List, [], ◌∷◌, ◌++◌, length, Option, Some, None, is_some, filter, All, slice_index_or}
use Rattle.std.specs.Option.{option_map}
use Rattle.tla_token.specs.declared.part.Class.TheVariants as class
use Rattle.tla_token.specs.declared.token.Span.{Span}
use Rattle.tla_token.specs.Lexemes.{Kind}
use Rattle.tla_token.specs.Tokens as text
use Rattle.tla_token.specs.Tokens.{stretch}
use Rattle.tla_token.specs.Offences.{least}
use Rattle.tla_token.specs.TokensSeen.{part_kind}
use Rattle.module_split.specs.declared.stand.Shape.{Shape}
use Rattle.module_split.specs.declared.stand.Shape.TheVariants as shape
use Rattle.module_split.specs.declared.stand.Stand.{Stand}
use Rattle.module_split.specs.declared.split.Algorithm.{Algorithm}
use Rattle.module_split.specs.declared.split.Gap.{Gap}
use Rattle.module_tree.specs.TextFront.{Text}
use Rattle.module_tree.specs.Walk.{Segment, part, Located}
use Rattle.module_split.specs.StandsSeen.{segment_seen, stands_seen, IsSolid}
use Rattle.module_tree.specs.FileParts as FileParts
use Rattle.module_tree.specs.FileParts.{within, region_of, before_spot, after_spot, spot}
use Rattle.module_tree.specs.FileUnits.{with_token}
use Rattle.module_tree.specs.AlgorithmText.{AlgorithmText, algorithm_of, in_token}
use Rattle.module_tree.specs.FileOffences.{algorithm_offences, is_splitting}
use Rattle.module_split.specs.AlgorithmSeen.{stage_seen}

abbrev pub is_blank_stand : Stand → Bool
is_blank_stand d = by d.shape
  where
    by : Shape → Bool
    by (shape.Part class.Blank) = true
    by s = false

abbrev pub is_header_stand : Stand → Bool
is_header_stand d = by d.shape
  where
    by : Shape → Bool
    by shape.Header = true
    by s = false

abbrev pub is_region_stand : Stand → Bool
is_region_stand d = by d.shape
  where
    by : Shape → Bool
    by (shape.Region n) = true
    by s = false

abbrev pub is_tail_stand : Stand → Bool
is_tail_stand d = by d.shape
  where
    by : Shape → Bool
    by shape.Tail = true
    by s = false

-- ---- comments

-- what is within a comment has these bytes
pub record IsInnerSpan (x : Text) (d : Stand) (s : Span) : Type 0 where
  pub from : s.from ≡ d.at + 2
  pub order : s.from ≤ s.to
  pub ends : s.to ≤ length x
  pub is : stretch x s.from s.to ≡ within (segment_seen x d)
  pub size : s.to ≡ s.from + length (within (segment_seen x d))

abbrev pub IsInner : Text → Stand → Option Span → Type 0
IsInner x d None = within (segment_seen x d) ≡ []
IsInner x d (Some s) = IsInnerSpan x d s

-- ---- tokens

abbrev pub plain_kind : Segment → Option Kind
plain_kind (part p) = part_kind p
plain_kind g = None

-- the token that a sound part is
abbrev pub plain_token : Located → Option text.Token
plain_token d = option_map (λ k. record { kind = k; at = d.at; place = d.place }) (plain_kind d.is)

abbrev pub plain_tokens : List Located → List text.Token
plain_tokens [] = []
plain_tokens (d ∷ ds) = with_token (plain_token d) (plain_tokens ds)

-- ---- the algorithm

-- it is this algorithm, and the bytes of its tokens are marked
pub record IsFound (x : Text) (ds : List Located) (marks : List Bool) (a : Algorithm) : Type 0 where
  pub found : AlgorithmText
  pub is : algorithm_of x ds ≡ Some found
  pub begins : found.from ≡ a.from
  pub ends : found.rest.to ≡ a.inside.at
  pub stage : found.rest.stage ≡ stage_seen a.inside.stage
  pub fault : a.inside.fault ≡ least (filter is_splitting (algorithm_offences (Some found)))
  pub marked : (k : ℕ) → slice_index_or marks k false ≡ in_token found k

abbrev pub IsAlgorithm : Text → List Located → List Bool → Option Algorithm → Type 0
IsAlgorithm x ds marks None = algorithm_of x ds ≡ None
IsAlgorithm x ds marks (Some a) = IsFound x ds marks a

-- ---- the place of a translation

abbrev pub span_seen : Span → FileParts.Span
span_seen s = record { from = s.from; to = s.to }

-- after a newline
abbrev pub after_newline : Stand → Span
after_newline d = record { from = d.at + 1; to = d.at + 1 }

-- these are the segments round the place of a translation
pub record IsGap (x : Text) (ds : List Stand) (g : Gap) : Type 0 where
  pub is_new : is_some (region_of (stands_seen x ds)) ≡ not g.is_new
  pub before : before_spot (stands_seen x ds) ≡ stands_seen x g.before.now ++ stands_seen x g.line.now
  pub after : after_spot (stands_seen x ds) ≡ stands_seen x g.after.now
  pub spot : spot (stands_seen x ds) ≡ option_map span_seen g.spot
  pub solid_before : All (IsSolid x) g.before.now
  pub solid_line : All (IsSolid x) g.line.now
  pub solid_after : All (IsSolid x) g.after.now
