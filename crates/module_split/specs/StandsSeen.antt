-- The segments of a file in memory, seen as those of its walk.
use Rattle.std.specs.Prelude.{◌≡◌, ℕ, ◌+◌, ◌<◌, ◌≤◌, Bool, true, false, List, length, take, drop, map}
use Rattle.tla_token.specs.Tokens.{stretch}
use Rattle.tla_token.specs.Scan.{is_quoted, part_of}
use Rattle.module_split.specs.declared.stand.Shape.{Shape}
use Rattle.module_split.specs.declared.stand.Shape.TheVariants as shape
use Rattle.module_split.specs.declared.stand.Stand.{Stand}
use Rattle.module_tree.specs.TextFront.{Text}
use Rattle.module_tree.specs.Walk.{Segment, free, header, part, region, mark, inner, tail, Located}

-- the segment that these bytes make up
abbrev pub segment_of : Shape → Text → Segment
segment_of shape.Free w = free w
segment_of shape.Header w = header w
segment_of (shape.Part c) w = part (part_of c w)
segment_of (shape.Region n) w = region (take n w) (drop n w)
segment_of shape.Mark w = mark w
segment_of shape.Inner w = inner w
segment_of shape.Tail w = tail w

abbrev pub segment_seen : Text → Stand → Segment
segment_seen x d = segment_of d.shape (stretch x d.at (d.at + d.len))

abbrev pub located_seen : Text → Stand → Located
located_seen x d = record { at = d.at; place = d.place; is = segment_seen x d }

abbrev pub stands_seen : Text → List Stand → List Located
stands_seen x ds = map (located_seen x) ds

-- how many bytes a region has before its END line
abbrev pub before_end : Shape → ℕ
before_end (shape.Region n) = n
before_end s = 0

abbrev pub is_string : Shape → Bool
is_string (shape.Part c) = is_quoted c
is_string s = false

-- it is within the text and not empty, and a region's END line within it; a string has its quotes
pub record IsSolid (x : Text) (d : Stand) : Type 0 where
  pub within : d.at + d.len ≤ length x
  pub ended : before_end d.shape ≤ d.len
  pub some : 0 < d.len
  pub quoted : is_string d.shape ≡ true → 2 ≤ d.len
