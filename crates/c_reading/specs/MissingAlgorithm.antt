-- What is missing where an algorithm in C-syntax is refused ("A PlusCal User's Manual, C-Syntax Version", appendix A).
use Rattle.std.specs.Prelude.{ℕ, suc, ◌*◌, true, List, [], length, None}
use Rattle.tla_token.specs.declared.place.Place.{Place}
use Rattle.tla_token.specs.Places.{nowhere}
use Rattle.tla_tree.specs.Lexical.{TokenView, Token}
use Rattle.tla_tree.specs.Lexical as tk
use Rattle.tla_tree.specs.Reader.{readers}
use Rattle.pcal_tree.specs.GrammarParts.{mark}
use Rattle.syntax_reading.specs.TokenReaders.{Parts, parts_of}
use Rattle.syntax_reading.specs.ReadParts.{read_semicolon, read_section, read_definitions}
use Rattle.syntax_reading.specs.ReadAround.{read_head}
use Rattle.syntax_reading.specs.ReadRoutines.{read_define, read_macros, read_procedures}
use Rattle.syntax_reading.specs.Missing.{Missing, completed_by, then_misses, by_next_misses, past_misses, all_of, an_identifier, a_number, mark_then, name_then, PartsMiss, parts_miss, expr_then}
use Rattle.syntax_reading.specs.MissingParts.{missing_section, a_close, a_meaning, missing_definitions, a_value, bind_then}
use Rattle.syntax_reading.specs.MissingSimple.{a_skip}
use Rattle.syntax_reading.specs.MissingRoutines.{missing_head, WaysMiss, missing_macros, missing_procedures, missing_define, missing_main_processes}
use Rattle.c_reading.specs.ReadStatements.{read_sequence}
use Rattle.c_reading.specs.ReadAlgorithm.{ways, read_main, read_text, read_algorithm}
use Rattle.c_reading.specs.Resume.{closing_brace, main_rest, end_rest}
use Rattle.c_reading.specs.MissingStatements.{missing_sequence}

-- ---- { skip }, of a macro, a procedure, a process or the main part
abbrev pub a_block : List Token → List Token
a_block ts = mark nowhere tk.open_brace (a_skip (closing_brace ts))

-- `}`, and maybe a `;`
abbrev pub missing_end : Missing
missing_end = mark_then tk.close_brace [] (λ b. then_misses read_semicolon (all_of []) [] (λ s. all_of []))

-- a list, and its end
abbrev pub missing_statements : Parts → PartsMiss → ℕ → Missing
missing_statements m w n = then_misses (read_sequence m n) (missing_sequence m w n) end_rest (λ ss. missing_end)

abbrev pub missing_body : Parts → PartsMiss → ℕ → Missing
missing_body m w n = mark_then tk.open_brace (a_skip end_rest) (λ a. missing_statements m w n)

-- ---- ( x = 0 ), which process it is
abbrev pub an_identity : List Token → List Token
an_identity ts = mark nowhere tk.open_bracket (an_identifier (a_value (a_close ts)))

abbrev pub missing_identity : Parts → PartsMiss → Missing
missing_identity m w =
    mark_then tk.open_bracket (an_identifier (a_value (a_close [])))
    (λ q. name_then (a_value (a_close [])) (λ x. bind_then (a_number (a_close [])) (λ b. expr_then m w (a_close []) (λ e. mark_then tk.close_bracket [] (λ r. all_of [])))))

-- ---- { x == 0 }, after the word `define`
abbrev pub some_definitions : List Token → List Token
some_definitions ts = an_identifier (a_meaning (closing_brace ts))

abbrev pub missing_define_from : Parts → PartsMiss → ℕ → Missing
missing_define_from m w n = mark_then tk.open_brace (some_definitions []) (λ b. then_misses (read_definitions m n) (missing_definitions m w n) end_rest (λ ds. missing_end))

abbrev pub ways_miss : Parts → PartsMiss → WaysMiss
ways_miss m w = record { a_body = λ v. a_block []; an_identity = an_identity []; body = λ n v. missing_body m w n; identity = missing_identity m w; define = missing_define_from m w }

-- ---- the whole
abbrev pub missing_main_by : Parts → PartsMiss → ℕ → Place → TokenView → Missing
missing_main_by m w n p (tk.reserved v) = missing_main_processes m w (ways m) (ways_miss m w) n p v
missing_main_by m w n p (tk.mark tk.open_brace) = past_misses (missing_statements m w n)
missing_main_by m w n p k = all_of (a_block [])

abbrev pub missing_main : Parts → PartsMiss → ℕ → Missing
missing_main m w n = by_next_misses (missing_main_by m w n)

-- from the name on
abbrev pub a_text : List Token
a_text = an_identifier (mark nowhere tk.open_brace main_rest)

abbrev pub missing_text : Parts → PartsMiss → ℕ → Missing
missing_text m w n =
    then_misses read_head missing_head a_text (λ h. name_then (mark nowhere tk.open_brace main_rest) (λ x. mark_then tk.open_brace main_rest (λ e.
    then_misses (read_section true m n) (missing_section true m w n) main_rest (λ vs. then_misses (read_define (ways m) n) (missing_define (ways_miss m w) n) main_rest (λ d.
    then_misses (read_macros (ways m) n) (missing_macros (ways m) (ways_miss m w) n) main_rest (λ ms. then_misses (read_procedures m (ways m) n) (missing_procedures m w (ways m) (ways_miss m w) n) main_rest (λ ps.
    then_misses (read_main m n) (missing_main m w n) end_rest (λ b. mark_then tk.close_brace [] (λ f. all_of [])))))))))

-- where the reading of an algorithm is refused; after it no token comes
abbrev pub missing_algorithm : Missing
missing_algorithm ts =
    (let n = 4 * length ts in
    let k = suc (length ts) in
    then_misses (read_text (parts_of (readers n None)) k) (missing_text (parts_of (readers n None)) (parts_miss n) k) [] (λ x. all_of []) ts)

-- the tokens that complete those that were passed to an algorithm
abbrev pub completion : List Token → List Token
completion = completed_by read_algorithm missing_algorithm
