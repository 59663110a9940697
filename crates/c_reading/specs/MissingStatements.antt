-- What is missing where a list of statements in C-syntax is refused, up to the `}` after it ("A PlusCal User's Manual, C-Syntax Version", appendix A).
use Rattle.std.specs.Prelude.{ℕ, zero, suc, Bool, true, List, [], ◌∷◌, ◌++◌, Option, Some, codes}
use Rattle.tla_token.specs.declared.place.Place.{Place}
use Rattle.tla_token.specs.Places.{nowhere}
use Rattle.tla_tree.specs.Tree.{Word, Name}
use Rattle.tla_tree.specs.Lexical.{TokenView, Token}
use Rattle.tla_tree.specs.Lexical as tk
use Rattle.tla_tree.specs.Reader.{Reader, refuses}
use Rattle.pcal_tree.specs.GrammarParts.{key, no_labels}
use Rattle.pcal_tree.specs.GrammarC.{Labelled}
use Rattle.syntax_reading.specs.TokenReaders.{pick, Parts}
use Rattle.syntax_reading.specs.ReadParts.{read_colon, read_binds}
use Rattle.syntax_reading.specs.ReadSimple.{named_by, simple_words}
use Rattle.syntax_reading.specs.Missing.{Missing, then_misses, goes_on_missing, by_next_misses, past_misses, all_of, an_identifier, a_number, mark_then, PartsMiss}
use Rattle.syntax_reading.specs.MissingParts.{a_close, a_value, missing_colon, missing_binds}
use Rattle.syntax_reading.specs.MissingSimple.{a_skip, missing_named, missing_simple_words}
use Rattle.c_reading.specs.ReadStatements.{none, after, Stack, bottom, in_block, State, begin, ended, Turn, on, done, depth, ask_other, closed, is_divided, step, closing, rest}

-- `else skip`
abbrev pub an_else : List Token → List Token
an_else ts = key nowhere (codes "else") (a_skip ts)

-- ---- a statement comes
-- ( .. ), of which the shortest part is told, and what comes after
abbrev pub missing_bracketed : {A : Type 0} → Reader A → Missing → List Token → List Token → Missing
missing_bracketed r n part ws = mark_then tk.open_bracket (part ++ a_close ws) (λ q. then_misses r n (a_close ws) (λ x. mark_then tk.close_bracket ws (λ s. all_of [])))

-- an `either` is refused where an `or` must come, and nowhere else
abbrev pub missing_statement_words : Parts → PartsMiss → ℕ → Stack → List (Word × Missing)
missing_statement_words m w n st =
    (codes "if", past_misses (missing_bracketed m.expr w.expr (a_number []) (a_skip (an_else (closing st)))))
    ∷ (codes "either", all_of (a_skip (closing st)))
    ∷ (codes "with", past_misses (missing_bracketed (read_binds m n (depth st)) (missing_binds m w n (depth st)) (an_identifier (a_value [])) (a_skip (closing st))))
    ∷ (codes "while", past_misses (missing_bracketed m.expr w.expr (a_number []) (a_skip (closing st))))
    ∷ []

abbrev pub missing_after_name : Parts → PartsMiss → ℕ → Stack → Name → Place → TokenView → Missing
missing_after_name m w n st x p (tk.mark tk.colon) = then_misses read_colon missing_colon (a_skip (closing st)) (λ c. all_of [])
missing_after_name m w n st x p k = then_misses (named_by m n x p k) (missing_named m w n x p k) (closing st) (λ s. all_of [])

abbrev pub missing_statement_by : Parts → PartsMiss → ℕ → Stack → Place → TokenView → Missing
missing_statement_by m w n st p (tk.word x) = past_misses (by_next_misses (missing_after_name m w n st (record { place = p; word = x })))
missing_statement_by m w n st p (tk.reserved v) = pick v (missing_statement_words m w n st) (then_misses (pick v (simple_words m p) refuses) (pick v (missing_simple_words m w) (all_of (a_skip []))) (closing st) (λ s. all_of []))
missing_statement_by m w n st p k = all_of (a_skip (closing st))

-- ---- after a statement; ws closes all that stands open
-- where another one may come: it begins with a word, or with a brace, at which nothing is refused; or there is none
abbrev pub missing_another_by : Bool → Parts → PartsMiss → ℕ → Stack → List Token → Place → TokenView → Missing
missing_another_by true m w n st ws p (tk.word x) = missing_statement_by m w n st p (tk.word x)
missing_another_by true m w n st ws p (tk.reserved v) = missing_statement_by m w n st p (tk.reserved v)
missing_another_by b m w n st ws p k = all_of ws

abbrev pub missing_list_by : Parts → PartsMiss → ℕ → Option Place → List Token → Place → TokenView → Option (Labelled × Stack) → Missing
missing_list_by m w n s ws p k (Some (a, bottom b)) = missing_another_by (is_divided s a) m w n (bottom (after b a s)) ws p k
missing_list_by m w n s ws p k (Some (a, in_block ls q b st)) = missing_another_by (is_divided s a) m w n (in_block ls q (after b a s) st) ws p k
missing_list_by m w n s ws p k o = all_of ws

-- an `else` or `or` is refused where no open form takes it
abbrev pub missing_closing_words : List Token → List (Word × Missing)
missing_closing_words ws = (codes "else", all_of ws) ∷ (codes "or", all_of ws) ∷ []

abbrev pub missing_ended_by : Parts → PartsMiss → ℕ → Labelled → Option Place → Stack → Place → TokenView → Missing
missing_ended_by m w n a s st p (tk.reserved v) = pick v (missing_closing_words (closing st)) (missing_list_by m w n s (closing st) p (tk.reserved v) (closed ask_other a st))
missing_ended_by m w n a s st p k = missing_list_by m w n s (closing st) p k (closed ask_other a st)

abbrev pub missing_step : Parts → PartsMiss → ℕ → State → Missing
missing_step m w n (begin ls st) = by_next_misses (missing_statement_by m w n st)
missing_step m w n (ended a s st) = by_next_misses (missing_ended_by m w n a s st)

-- ---- all steps
abbrev pub missing_turned : (State → Missing) → Turn → Missing
missing_turned n (on s) = n s
missing_turned n (done ss) = all_of []

abbrev pub missing_run : Parts → PartsMiss → ℕ → State → Missing
missing_run m w zero s = all_of (rest s)
missing_run m w (suc n) s = goes_on_missing (step m n s) (missing_step m w n s) (missing_turned (missing_run m w n))

abbrev pub missing_sequence : Parts → PartsMiss → ℕ → Missing
missing_sequence m w n = missing_run m w n (begin no_labels (bottom none))
