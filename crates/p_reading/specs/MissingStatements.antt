-- What is missing where a list of statements is refused, up to the `end` after it ("A PlusCal User's Manual, P-Syntax Version", appendix A).
use Rattle.std.specs.Prelude.{ℕ, zero, suc, List, [], ◌∷◌, Option, Some, codes}
use Rattle.tla_token.specs.declared.place.Place.{Place}
use Rattle.tla_token.specs.Places.{nowhere}
use Rattle.tla_tree.specs.Tree.{Word, Name}
use Rattle.tla_tree.specs.Lexical.{TokenView, Token}
use Rattle.tla_tree.specs.Lexical as tk
use Rattle.tla_tree.specs.Reader.{refuses}
use Rattle.pcal_tree.specs.GrammarParts.{key, no_labels}
use Rattle.syntax_reading.specs.TokenReaders.{pick, Parts}
use Rattle.syntax_reading.specs.ReadParts.{read_colon, read_binds}
use Rattle.syntax_reading.specs.ReadSimple.{named_by, simple_words}
use Rattle.syntax_reading.specs.Missing.{Missing, then_misses, goes_on_missing, by_next_misses, past_misses, all_of, key_then, PartsMiss, expr_then}
use Rattle.syntax_reading.specs.MissingParts.{missing_colon, missing_binds}
use Rattle.syntax_reading.specs.MissingSimple.{a_skip, missing_named, missing_simple_words}
use Rattle.p_reading.specs.ReadStatements.{none, first_arm, later_arm, in_then, in_else, in_either, in_with, in_while, Stack, bottom, inside, depth, State, begin, ended, Turn, on, done, step, ends_with, closing, rest}

-- ---- a statement comes
-- the shortest list in a new form, and what closes all that is open then
abbrev pub a_list : Word → Stack → List Token
a_list z st = a_skip (ends_with z (closing st))

-- a word, and the list after it
abbrev pub list_after : Word → Word → Stack → Missing
list_after v z st = key_then v (a_list z st) (λ q. all_of [])

-- an expression, and the word after it
abbrev pub test_then : Parts → PartsMiss → Word → Word → Stack → Missing
test_then m w v z st = expr_then m w (key nowhere v (a_list z st)) (λ e. list_after v z st)

abbrev pub missing_after_name : Parts → PartsMiss → ℕ → Stack → Name → Place → TokenView → Missing
missing_after_name m w n st x p (tk.mark tk.colon) = then_misses read_colon missing_colon (a_skip (closing st)) (λ c. all_of [])
missing_after_name m w n st x p k = then_misses (named_by m n x p k) (missing_named m w n x p k) (closing st) (λ s. all_of [])

abbrev pub missing_statement_words : Parts → PartsMiss → ℕ → Stack → List (Word × Missing)
missing_statement_words m w n st =
    (codes "if", past_misses (test_then m w (codes "then") (codes "if") st))
    ∷ (codes "either", all_of [])
    ∷ (codes "with", past_misses (then_misses (read_binds m n (depth st)) (missing_binds m w n (depth st)) (key nowhere (codes "do") (a_list (codes "with") st)) (λ bs. list_after (codes "do") (codes "with") st)))
    ∷ (codes "while", past_misses (test_then m w (codes "do") (codes "while") st))
    ∷ []

abbrev pub missing_statement_by : Parts → PartsMiss → ℕ → Stack → Place → TokenView → Missing
missing_statement_by m w n st p (tk.word x) = past_misses (by_next_misses (missing_after_name m w n st (record { place = p; word = x })))
missing_statement_by m w n st p (tk.reserved z) =
    pick z (missing_statement_words m w n st) (then_misses (pick z (simple_words m p) refuses) (pick z (missing_simple_words m w) (all_of (a_skip []))) (closing st) (λ s. all_of []))
missing_statement_by m w n st p k = all_of (a_skip (closing st))

-- ---- a list ends
abbrev pub missing_elsif : Parts → PartsMiss → Stack → Missing
missing_elsif m w (inside (in_then t) b ls st) = past_misses (test_then m w (codes "then") (codes "if") st)
missing_elsif m w st = all_of (closing st)

-- past `end`, the word of what ends
abbrev pub missing_its_word : Word → Stack → Missing
missing_its_word z st = past_misses (key_then z (closing st) (λ q. all_of []))

abbrev pub missing_ends : Stack → Missing
missing_ends bottom = all_of []
missing_ends (inside (in_then t) b ls st) = missing_its_word (codes "if") st
missing_ends (inside (in_else t c r) b ls st) = missing_its_word (codes "if") st
missing_ends (inside (in_either (first_arm r)) b ls st) = all_of (closing (inside (in_either (first_arm r)) b ls st))
missing_ends (inside (in_either (later_arm t c r)) b ls st) = missing_its_word (codes "either") st
missing_ends (inside (in_with r bs s) b ls st) = missing_its_word (codes "with") st
missing_ends (inside (in_while r e s) b ls st) = missing_its_word (codes "while") st

abbrev pub missing_closing_words : Parts → PartsMiss → Stack → List (Word × Missing)
missing_closing_words m w st = (codes "else", all_of (closing st)) ∷ (codes "elsif", missing_elsif m w st) ∷ (codes "or", all_of (closing st)) ∷ (codes "end", missing_ends st) ∷ []

-- ---- after a statement
-- after its `;` the list may end
abbrev pub missing_another_by : Parts → PartsMiss → ℕ → Option Place → Stack → Place → TokenView → Missing
missing_another_by m w n (Some s) st p (tk.word x) = missing_statement_by m w n st p (tk.word x)
missing_another_by m w n (Some s) st p (tk.reserved z) = missing_statement_by m w n st p (tk.reserved z)
missing_another_by m w n o st p k = all_of (closing st)

abbrev pub missing_ended_by : Parts → PartsMiss → ℕ → Option Place → Stack → Place → TokenView → Missing
missing_ended_by m w n o st p (tk.reserved z) = pick z (missing_closing_words m w st) (missing_another_by m w n o st p (tk.reserved z))
missing_ended_by m w n o st p k = missing_another_by m w n o st p k

-- of a step, with all that comes after it
abbrev pub missing_step : Parts → PartsMiss → ℕ → State → Missing
missing_step m w n (begin b ls st) = by_next_misses (missing_statement_by m w n st)
missing_step m w n (ended b ls a o st) = by_next_misses (missing_ended_by m w n o st)

-- ---- all steps
abbrev pub missing_turned : (State → Missing) → Turn → Missing
missing_turned r (on s) = r s
missing_turned r (done ss) = all_of []

abbrev pub missing_run : Parts → PartsMiss → ℕ → State → Missing
missing_run m w zero s = all_of (rest s)
missing_run m w (suc n) s = goes_on_missing (step m n s) (missing_step m w n s) (missing_turned (missing_run m w n))

abbrev pub missing_sequence : Parts → PartsMiss → ℕ → Missing
missing_sequence m w n = missing_run m w n (begin none no_labels bottom)
