-- A file from left to right: lines of free text, the header, the parts of the module with the old translation among them, and the rest
-- ("A PlusCal User's Manual", sections 2.1 and 2.2).
use Rattle.std.specs.Prelude.{ℕ, zero, suc, ◌+◌, ◌-◌, nat_eq, Bool, true, false, ◌&&◌, ◌||◌, List, [], ◌∷◌, ◌++◌, length, Option, Some, None, if◌then◌else◌}
use Rattle.tla_token.specs.declared.place.Place.{Place}
use Rattle.tla_token.specs.Places.{start, after}
use Rattle.tla_token.specs.Offences.{Part, part_bytes}
use Rattle.module_tree.specs.TextFront.{Text, line_here, whole_line}
use Rattle.module_tree.specs.HeaderAndRegion.{is_header, is_begin, is_end}
use Rattle.module_tree.specs.Beginnings.{ends_module}
use Rattle.module_tree.specs.ModuleParts.{module_part}

-- ---- segments

pub data Segment : Type 0 where
  free : Text → Segment  -- a line before the header
  header : Text → Segment
  part : Part → Segment  -- in the module, outside the region
  region : Text → Text → Segment  -- from the BEGIN line up to the first END line after it, and that line
  mark : Text → Segment  -- a BEGIN or END line that is none of the region's
  inner : Text → Segment  -- a second header
  tail : Text → Segment  -- the module's end, and what is after it

abbrev pub bytes : Segment → Text
bytes (free w) = w
bytes (header w) = w
bytes (part p) = part_bytes p
bytes (region v w) = v ++ w
bytes (mark w) = w
bytes (inner w) = w
bytes (tail w) = w

-- where the walk is
pub record State : Type 0 where
  pub at : ℕ
  pub place : Place
  pub headed : Bool  -- after the header
  pub marked : Bool  -- after the region

-- before the first END line, and that line without its end; the first argument says whether a line begins here
abbrev pub at_end_line : Bool → Text → Option (Text × Text)
at_end_line first [] = None
at_end_line first (b ∷ s) = if first && is_end (b ∷ s) then Some ([], line_here (b ∷ s)) else in_front b (at_end_line (nat_eq b 10) s)
  where
    in_front : ℕ → Option (Text × Text) → Option (Text × Text)
    in_front b (Some (v, w)) = Some (b ∷ v, w)
    in_front b None = None

-- at a BEGIN line: a region, or a line that opens none
abbrev pub opened : Option (Text × Text) → Text → Segment
opened (Some (v, w)) s = region v w
opened None s = mark (line_here s)

abbrev pub in_module : Bool → Bool → ℕ → Text → Segment
in_module marked first b s =
    if first && is_begin (b ∷ s) then opened (if marked then None else at_end_line false (b ∷ s)) (b ∷ s)
    else (if first && is_end (b ∷ s) then mark (line_here (b ∷ s))
    else (if first && is_header (b ∷ s) then inner (line_here (b ∷ s))
    else (if ends_module (b ∷ s) then tail (b ∷ s)
    else part (module_part b s))))

-- what is here
abbrev pub segment_at : State → ℕ → Text → Segment
segment_at st b s =
    if st.headed then in_module st.marked (nat_eq st.place.col 1) b s
    else (if is_header (b ∷ s) then header (whole_line (b ∷ s)) else free (whole_line (b ∷ s)))

abbrev pub is_header_line : Segment → Bool
is_header_line (header w) = true
is_header_line g = false

abbrev pub is_region : Segment → Bool
is_region (region v w) = true
is_region g = false

abbrev pub is_tail : Segment → Bool
is_tail (tail w) = true
is_tail g = false

abbrev pub after_segment : State → Segment → State
after_segment st g =
    record { at = st.at + length (bytes g); place = after st.place (bytes g); headed = st.headed || is_header_line g; marked = st.marked || is_region g }

-- ---- the walk

-- a segment where it is
pub record Located : Type 0 where
  pub at : ℕ
  pub place : Place
  pub is : Segment

-- k bytes at the front belong to the segment before
abbrev pub walk_from : State → ℕ → Text → List Located
walk_from st k [] = []
walk_from st (suc k) (b ∷ s) = walk_from st k s
walk_from st zero (b ∷ s) =
    let g = segment_at st b s in record { at = st.at; place = st.place; is = g } ∷ walk_from (after_segment st g) (length (bytes g) - 1) s

abbrev pub at_start : State
at_start = record { at = 0; place = start; headed = false; marked = false }

abbrev pub walk : Text → List Located
walk x = walk_from at_start 0 x
