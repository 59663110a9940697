-- What begins in a text: bars, algorithms and options, and all places at which it goes on so ("A PlusCal User's Manual", sections 2.1 and 2.2).
use Rattle.std.specs.Prelude.{ℕ, suc, Bool, true, false, ◌||◌, List, [], ◌∷◌, drop, Option, is_some, codes, if◌then◌else◌}
use Rattle.tla_token.specs.Lexemes.{is_blank}
use Rattle.module_tree.specs.TextFront.{Text, begins, past_all, past_word, on_some, past_blanks, past_name}

-- ---- bars

-- four or more `=` end the module; they and four or more `-` are bars
abbrev pub ends_module : Text → Bool
ends_module s = begins s (codes "====")

abbrev pub is_rule : Text → Bool
is_rule s = begins s (codes "----")

abbrev pub begins_bar : Text → Bool
begins_bar s = is_rule s || ends_module s

-- ---- algorithms

-- `--fair` before `algorithm`
abbrev pub is_fair : Text → Bool
is_fair s = is_some (on_some (past_word (codes "--fair") s) (λ r. on_some (past_blanks is_blank r) (λ r. past_word (codes "algorithm") r)))

-- the first token of an algorithm
abbrev pub opening : Text → Text
opening s = if is_fair s then codes "--fair" else codes "--algorithm"

-- after its first words
abbrev pub past_opening : Text → Option Text
past_opening s = if is_fair s then past_word (codes "algorithm") (past_all is_blank (drop 6 s)) else past_word (codes "--algorithm") s

-- an algorithm's first words, blanks and a name
abbrev pub begins_algorithm : Text → Bool
begins_algorithm s = is_some (on_some (past_opening s) (λ r. on_some (past_blanks is_blank r) past_name))

-- ---- options

-- `PlusCal options (`
abbrev pub is_options : Text → Bool
is_options s =
    is_some (on_some (past_word (codes "PlusCal") s) (λ r. on_some (past_blanks is_blank r) (λ r.
    on_some (past_word (codes "options") r) (λ r. past_word (codes "(") (past_all is_blank r)))))

-- ---- all places

abbrev pub index_if : Bool → ℕ → List ℕ → List ℕ
index_if true n ns = n ∷ ns
index_if false n ns = ns

-- where in a text that is at n it goes on so
abbrev pub all_at : (Text → Bool) → ℕ → Text → List ℕ
all_at p n [] = []
all_at p n (b ∷ s) = index_if (p (b ∷ s)) n (all_at p (suc n) s)
