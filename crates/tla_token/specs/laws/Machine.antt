-- A machine that cuts a text: it takes one byte after another, and gives the class and the length of each part once this part is decided.
use Rattle.std.specs.Prelude.{ℕ, zero, suc, Bool, true, false, ◌&&◌, nat_eq, List, [], ◌∷◌, ◌++◌, map, length, drop, Option, Some, None, is_some, if◌then◌else◌}
use Rattle.tla_token.specs.declared.part.Class.{Class}
use Rattle.tla_token.specs.declared.part.Class.TheVariants as class
use Rattle.tla_token.specs.declared.part.Part as code
use Rattle.tla_token.specs.Lexemes.{is_word, is_letter, is_blank, is_plain, escaped}
use Rattle.tla_token.specs.Tokens.{is_pair}
use Rattle.tla_token.specs.Offences.{Part, part_bytes}
use Rattle.tla_token.specs.Cut.{part_at, parts}
use Rattle.tla_token.specs.Scan.{outline, first_by}

-- the classes and lengths of the parts of a text
abbrev pub outlines : List ℕ → List code.Part
outlines text = map outline (parts text)

-- ---- states

-- what is open at the end of what was fed
pub data Open : Type 0 where
  fresh : Open  -- nothing
  mark : ℕ → Open  -- a byte that may begin a sign of more bytes, or a comment
  wordless : List ℕ → Open  -- digits and underscores, of a word with no letter so far
  word : ℕ → Open  -- so many bytes of a word with a letter
  back : List ℕ → Open  -- a backslash, and these bytes of a word behind it
  text : ℕ → Bool → Bool → Open  -- so many bytes of a string: whether they are good so far, and whether the next one is behind a backslash
  block : ℕ → ℕ → Option ℕ → Open  -- so many bytes of a comment with so many comments in it that are open, and its last byte if that may begin a mark
  line : ℕ → Open  -- so many bytes of a comment to the line's end

pub data State : Type 0 where
  only : Open → State
  marks : ℕ → ℕ → State  -- two bytes, which may begin a sign of three

-- the parts that are decided, and what is open then
abbrev pub Step : Type 0
Step = List code.Part × State

abbrev pub on : Open → Step
on s = ([], only s)

abbrev pub given : List code.Part → Step → Step
given ps r = (ps ++ r.0, r.1)

abbrev pub one_part : Class → ℕ → List code.Part
one_part c n = record { class = c; len = n } ∷ []

-- ---- a byte more

-- a byte where nothing is open
abbrev pub begin : ℕ → List code.Part × Open
begin b =
    if is_blank b then (one_part class.Blank 1, fresh)
    else (if nat_eq b 34 then ([], text 1 true false)
    else (if is_letter b then ([], word 1)
    else (if is_word b then ([], wordless (b ∷ []))
    else (if nat_eq b 92 then ([], back [])
    else ([], mark b)))))

abbrev pub begun : ℕ → Step
begun b = ((begin b).0, only (begin b).1)

abbrev pub in_text : ℕ → Bool → Bool → ℕ → Step
in_text n good true b = if nat_eq b 10 then given (one_part class.OpenText n) (begun b) else on (text (suc n) (good && is_some (escaped b)) false)
in_text n good false b =
    if nat_eq b 92 then on (text (suc n) good true)
    else (if nat_eq b 34 then (one_part (if good then class.Text else class.BadText) (suc n), only fresh)
    else (if nat_eq b 10 then given (one_part class.OpenText n) (begun b)
    else on (text (suc n) (good && is_plain b) false)))

abbrev pub closed : ℕ → ℕ → Step
closed n zero = (one_part class.Block n, only fresh)
closed n (suc d) = on (block n d None)

abbrev pub in_block : ℕ → ℕ → Option ℕ → ℕ → Step
in_block n d None b = on (block (suc n) d (Some b))
in_block n d (Some a) b =
    if is_pair 40 42 a b then on (block (suc n) (suc d) None)
    else (if is_pair 42 41 a b then closed (suc n) d else on (block (suc n) d (Some b)))

abbrev pub behind : List ℕ → ℕ → Step
behind [] b = if nat_eq b 42 then on (line 2) else ([], marks 92 b)
behind (c ∷ v) b = given (outlines (92 ∷ c ∷ v)) (begun b)

abbrev pub next : Open → ℕ → Step
next fresh b = begun b
next (mark a) b = if is_pair 40 42 a b then on (block 2 0 None) else ([], marks a b)
next (wordless v) b = if is_letter b then on (word (suc (length v))) else (if is_word b then on (wordless (v ++ b ∷ [])) else given (outlines v) (begun b))
next (word n) b = if is_word b then on (word (suc n)) else given (one_part class.Name n) (begun b)
next (back v) b = if is_word b then on (back (v ++ b ∷ [])) else behind v b
next (text n good escaped) b = in_text n good escaped b
next (block n d last) b = in_block n d last b
next (line n) b = if nat_eq b 10 then given (one_part class.Line n) (begun b) else on (line (suc n))

-- at most two bytes, behind a part that three have decided
abbrev pub again : List ℕ → Step
again [] = on fresh
again (x ∷ []) = begun x
again (x ∷ y ∷ r) = given (begin x).0 (next (begin x).1 y)

abbrev pub settled : Option Part → List ℕ → Step
settled None bytes = on fresh
settled (Some x) bytes = given (outline x ∷ []) (again (drop (length (part_bytes x)) bytes))

abbrev pub step : State → ℕ → Step
step (only s) b = next s b
step (marks a c) b = settled (first_by part_at (a ∷ c ∷ b ∷ [])) (a ∷ c ∷ b ∷ [])

-- ---- whole texts

abbrev pub at_end : Open → List code.Part
at_end fresh = []
at_end (mark a) = outlines (a ∷ [])
at_end (wordless v) = outlines v
at_end (word n) = one_part class.Name n
at_end (back v) = outlines (92 ∷ v)
at_end (text n good escaped) = one_part class.OpenText n
at_end (block n d last) = one_part class.OpenBlock n
at_end (line n) = one_part class.Line n

-- no more comes
abbrev pub stop : State → List code.Part
stop (only s) = at_end s
stop (marks a c) = outlines (a ∷ c ∷ [])

-- the bytes of one piece
abbrev pub run_on : State → List ℕ → Step
run_on s [] = ([], s)
run_on s (b ∷ bs) = given (step s b).0 (run_on (step s b).1 bs)

-- all that is given for a text in these pieces
abbrev pub run_all : State → List (List ℕ) → List code.Part
run_all s [] = stop s
run_all s (p ∷ ps) = (run_on s p).0 ++ run_all (run_on s p).1 ps
