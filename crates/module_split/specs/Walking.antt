-- A walk in memory: what is in front of it, what it knows, and one segment further.
use Rattle.std.specs.Prelude.{◌≡◌, ℕ, ◌+◌, ◌*◌, ◌<◌, ◌≤◌, Bool, true, false, [], ◌∷◌, length, drop, Option, Some, None, option_map}
use Rattle.tla_token.specs.Scan.{part_class, IsWordless}
use Rattle.module_split.specs.declared.stand.Shape.{Shape}
use Rattle.module_split.specs.declared.stand.Shape.TheVariants as shape
use Rattle.module_split.specs.declared.stand.Stand.{Stand}
use Rattle.module_split.specs.declared.walk.Front.{Front}
use Rattle.module_split.specs.declared.walk.Known.{Known}
use Rattle.module_split.specs.declared.walk.Walker.{Walker}
use Rattle.module_tree.specs.TextFront.{Text}
use Rattle.module_tree.specs.Walk.{Segment, free, header, part, region, mark, inner, tail, bytes, State, at_end_line, walk_from}
use Rattle.module_split.specs.StandsSeen.{located_seen, IsSolid}

-- ---- the segment in front

-- a segment without its bytes
abbrev pub shape_of : Segment → Shape
shape_of (free w) = shape.Free
shape_of (header w) = shape.Header
shape_of (part p) = shape.Part (part_class p)
shape_of (region v w) = shape.Region (length v)
shape_of (mark w) = shape.Mark
shape_of (inner w) = shape.Inner
shape_of (tail w) = shape.Tail

abbrev pub outline : Segment → Front
outline g = record { shape = shape_of g; len = length (bytes g) }

-- the first segment of a text, where this gives it
abbrev pub first_by : (ℕ → Text → Segment) → Text → Option Segment
first_by f [] = None
first_by f (b ∷ s) = Some (f b s)

abbrev pub front_of : (ℕ → Text → Segment) → Text → Option Front
front_of f t = option_map outline (first_by f t)

-- how many bytes there are before the first END line; the first argument says whether a line begins here
abbrev pub end_at : Bool → Text → Option ℕ
end_at first t = option_map (λ (r : Text × Text). length r.0) (at_end_line first t)

-- ---- what a walk knows

-- this is known of the text from here on
abbrev pub IsKnown : Known → Text → Type 0
IsKnown k t = (k.endless ≡ true → end_at false t ≡ None) × IsWordless k.wordless t

abbrev pub state_of : Walker → State
state_of w = record { at = w.at; place = w.place; headed = w.headed; marked = w.marked }

-- it is in this text
pub record IsAt (x : Text) (w : Walker) : Type 0 where
  pub within : w.at ≤ length x
  pub line : w.place.line ≤ 1 + w.at
  pub col : w.place.col ≤ 1 + 8 * w.at
  pub known : IsKnown w.known (drop w.at x)

-- one segment further
pub record GoesOn (x : Text) (w : Walker) (d : Stand) (v : Walker) : Type 0 where
  pub further : w.at < v.at
  pub at : IsAt x v
  pub solid : IsSolid x d
  pub same : walk_from (state_of w) 0 (drop w.at x) ≡ located_seen x d ∷ walk_from (state_of v) 0 (drop v.at x)
