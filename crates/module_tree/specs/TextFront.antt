-- What is at the front of a text: words, blanks, names; and its lines ("Specifying Systems", section 15.1).
use Rattle.std.specs.Prelude.{ℕ, nat_eq, Bool, true, false, ◌&&◌, not, List, [], ◌∷◌, length, drop, Option, Some, None, option_and_then, if◌then◌else◌}
use Rattle.std.specs.List.{starts_with, list_any}
use Rattle.tla_token.specs.Lexemes.{is_word, is_letter, is_blank}
use Rattle.tla_token.specs.Cut.{run}

abbrev pub Text : Type 0
Text = List ℕ

abbrev pub begins : Text → Text → Bool
begins s w = starts_with nat_eq s w

-- a blank within a line
abbrev pub is_space : ℕ → Bool
is_space b = is_blank b && not (nat_eq b 10)

-- after all bytes at the front that are so
abbrev pub past_all : (ℕ → Bool) → Text → Text
past_all p [] = []
past_all p (b ∷ s) = if p b then past_all p s else b ∷ s

abbrev pub first_is : (ℕ → Bool) → Text → Bool
first_is p [] = false
first_is p (b ∷ s) = p b

-- after the word w, if the text begins with it
abbrev pub past_word : Text → Text → Option Text
past_word w s = if begins s w then Some (drop (length w) s) else None

-- goes on with what is there
abbrev pub on_some : {A B : Type 0} → Option A → (A → Option B) → Option B
on_some o go = option_and_then go o

-- after at least one blank that is so
abbrev pub past_blanks : (ℕ → Bool) → Text → Option Text
past_blanks p s = if first_is p s then Some (past_all p s) else None

-- after four or more of the byte b
abbrev pub past_run : ℕ → Text → Option Text
past_run b s = on_some (past_word (b ∷ b ∷ b ∷ b ∷ []) s) (λ r. Some (past_all (nat_eq b) r))

-- after letters, digits and underscores with a letter among them
abbrev pub past_name : Text → Option Text
past_name s = if list_any is_letter (run is_word s) then Some (past_all is_word s) else None

abbrev pub ends_line : Text → Bool
ends_line [] = true
ends_line (b ∷ s) = nat_eq b 10

-- ---- lines

-- the rest of the line, without its end, and with it
abbrev pub line_here : Text → Text
line_here s = run (λ b. not (nat_eq b 10)) s

abbrev pub whole_line : Text → Text
whole_line [] = []
whole_line (b ∷ s) = if nat_eq b 10 then b ∷ [] else b ∷ whole_line s
