-- The walk of code over an algorithm, seen as that of the definitions.
use Rattle.std.specs.Prelude.{◌≡◌, ℕ, ◌-◌, ◌<◌, ◌≤◌, nat_eq, Bool, true, false, ◌||◌, List, length, drop, slice_index, slice_index_or, if◌then◌else◌, filter}
use Rattle.tla_token.specs.Tokens.{stretch}
use Rattle.tla_token.specs.Offences.{Part, part_offences, least}
use Rattle.tla_token.specs.Scan.{IsWordless}
use Rattle.tla_token.specs.Readings.{joined}
use Rattle.module_split.specs.declared.algorithm.Stage as code_stage
use Rattle.module_split.specs.declared.algorithm.Stage.TheVariants as code
use Rattle.module_split.specs.declared.algorithm.Inside as code_inside
use Rattle.module_tree.specs.TextFront.{Text}
use Rattle.module_tree.specs.AlgorithmText.{Stage, head, titled, open_p, open_c, past_p, past_c, is_token_byte, in_tokens, Inside, with_part, inside}
use Rattle.module_tree.specs.FileOffences.{inner_offences, is_splitting}

-- ---- stages

abbrev pub stage_seen : code_stage.Stage → Stage
stage_seen (code.Head n) = head n
stage_seen (code.Titled e) = titled e
stage_seen (code.OpenP e) = open_p e
stage_seen (code.OpenC d) = open_c d
stage_seen code.PastP = past_p
stage_seen code.PastC = past_c

-- how many braces are open
abbrev pub depth : code_stage.Stage → ℕ
depth (code.OpenC d) = d
depth st = 0

-- ---- where the walk is

-- the text in which the part at an index is looked for; a string is looked at on its whole line
abbrev pub part_rest : ℕ → ℕ → Text → Text
part_rest at end x = if nat_eq (slice_index x at) 34 then drop at x else stretch x at end

-- what it will find from here on, in a comment whose text ends at `end`
abbrev pub from_here : Text → ℕ → code_inside.Inside → Inside
from_here x end s = inside (stage_seen s.stage) s.at 0 (end - s.at) (drop s.at x)

-- it stands within the comment
pub record IsInside (x : Text) (end : ℕ) (s : code_inside.Inside) : Type 0 where
  pub within : s.at ≤ end
  pub shallow : depth s.stage ≤ s.at
  pub wordless : IsWordless s.wordless (stretch x s.at end)

-- ---- what it finds

-- from s it goes past one part to t; the bytes of tokens are marked
pub record Passes (x : Text) (end : ℕ) (s t : code_inside.Inside) (before after : List Bool) : Type 0 where
  pub here : IsInside x end t
  pub further : s.at < t.at
  pub part : Part
  pub found : from_here x end s ≡ with_part (s.at, part) (from_here x end t)
  pub fault : t.fault ≡ joined s.fault (least (filter is_splitting (part_offences true s.at part)))
  pub size : length after ≡ length before
  pub marked : (k : ℕ) → slice_index_or after k false ≡ (slice_index_or before k false || is_token_byte k (s.at, part))

-- from s it goes on to t, where the algorithm or its comment ends
pub record Reaches (x : Text) (end : ℕ) (s t : code_inside.Inside) (before after : List Bool) : Type 0 where
  pub to : t.at ≡ (from_here x end s).to
  pub stage : stage_seen t.stage ≡ (from_here x end s).stage
  pub fault : t.fault ≡ joined s.fault (least (filter is_splitting (inner_offences (from_here x end s).parts)))
  pub marked : (k : ℕ) → slice_index_or after k false ≡ (slice_index_or before k false || in_tokens (from_here x end s).parts k)
