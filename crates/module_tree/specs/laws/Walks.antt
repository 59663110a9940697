-- What the laws of the walk speak of: texts that end with a newline, what may be before and after a translation, and segments that are moved.
use Rattle.std.specs.Prelude.{◌≡◌, ◌⊎◌, ℕ, ◌+◌, nat_eq, Bool, true, false, List, [], ◌∷◌, ◌++◌, None}
use Rattle.std.specs.List.{flat_map, list_all}
use Rattle.tla_token.specs.declared.place.Place.{Place}
use Rattle.tla_token.specs.Tokens.{blank}
use Rattle.tla_token.specs.Offences.{sound, open_block}
use Rattle.module_tree.specs.TextFront.{Text}
use Rattle.module_tree.specs.Walk.{Segment, part, region, mark, tail, bytes, State, at_end_line, after_segment, Located, walk, at_start}
use Rattle.module_tree.specs.WithTranslation.{begin_line, end_line}

-- all bytes of these
abbrev pub text_of : List Located → Text
text_of ds = flat_map (λ d. bytes d.is) ds

-- empty, or its last byte is a newline
abbrev pub is_lined : Text → Bool
is_lined [] = true
is_lined (b ∷ []) = nat_eq b 10
is_lined (b ∷ c ∷ s) = is_lined (c ∷ s)

-- what may be before the end of a text that goes on
abbrev pub is_calm : Segment → Bool
is_calm (part (open_block body)) = false
is_calm (mark w) = false
is_calm (tail w) = false
is_calm g = true

-- where the walk is after these
abbrev pub after_all : State → List Located → State
after_all st [] = st
after_all st (d ∷ ds) = after_all (after_segment st d.is) ds

abbrev pub are_calm : List Located → Bool
are_calm ds = list_all (λ d. is_calm d.is) ds

-- at the start of a line of the module, where no region came yet
abbrev pub IsOpen : State → Type 0
IsOpen st = (st.headed ≡ true) × (st.marked ≡ false) × (nat_eq st.place.col 1 ≡ true)

-- whole lines, none of them an END line
abbrev pub IsInside : Text → Type 0
IsInside t = (is_lined t ≡ true) × (at_end_line true t ≡ None)

-- the segment that a translation is
abbrev pub made : Text → Segment
made t = region (begin_line ++ t) end_line

-- where the walk is after a text
abbrev pub after_text : Text → State
after_text a = after_all at_start (walk a)

abbrev pub located : State → Segment → Located
located st g = record { at = st.at; place = st.place; is = g }

-- i bytes and m lines here are j bytes and n lines there
abbrev pub Near : ℕ → ℕ → ℕ → ℕ → ℕ → Place → ℕ → Place → Type 0
Near i j m n a p b q = (a + j ≡ b + i) × (p.line + n ≡ q.line + m) × (p.col ≡ q.col)

abbrev pub Moved : ℕ → ℕ → ℕ → ℕ → List Located → List Located → Type 0
Moved i j m n [] [] = Unit {0}
Moved i j m n (d ∷ ds) (e ∷ es) = (d.is ≡ e.is) × Near i j m n d.at d.place e.at e.place × Moved i j m n ds es
Moved i j m n _ _ = ⊥

-- no line of a translation
abbrev pub is_common : Segment → Bool
is_common (region v w) = false
is_common (mark w) = false
is_common g = true

abbrev pub are_common : List Located → Bool
are_common ds = list_all (λ d. is_common d.is) ds

-- the marks are alike, or the text has none of theirs
abbrev pub Fit : Bool → Bool → List Located → Type 0
Fit k l ds = (k ≡ l) ⊎ (are_common ds ≡ true)

abbrev pub newline_segment : Segment
newline_segment = part (sound (blank 10))

-- after the segments ds a translation is put, and c, which begins with a newline; after that are the segments es, moved
pub record Put (ds es : List Located) (t c : Text) : Type 0 where
  pub here : Located
  pub us : List Located
  pub is_newline : here.is ≡ newline_segment
  pub walked : walk (text_of ds ++ (begin_line ++ (t ++ (end_line ++ c)))) ≡ ds ++ located (after_all at_start ds) (made t) ∷ here ∷ us
  pub bytes_here : ℕ
  pub bytes_there : ℕ
  pub lines_here : ℕ
  pub lines_there : ℕ
  pub are_moved : Moved bytes_here bytes_there lines_here lines_there es us
