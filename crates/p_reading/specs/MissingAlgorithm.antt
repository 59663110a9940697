-- What is missing where an algorithm is refused, and the tokens that complete what was passed ("A PlusCal User's Manual, P-Syntax Version", appendix A).
use Rattle.std.specs.Prelude.{ℕ, suc, ◌*◌, true, List, [], ◌∷◌, length, None, codes}
use Rattle.tla_token.specs.declared.place.Place.{Place}
use Rattle.tla_token.specs.Places.{nowhere}
use Rattle.tla_tree.specs.Tree.{Word}
use Rattle.tla_tree.specs.Lexical.{TokenView, Token}
use Rattle.tla_tree.specs.Lexical as tk
use Rattle.tla_tree.specs.Reader.{readers}
use Rattle.pcal_tree.specs.GrammarParts.{key}
use Rattle.syntax_reading.specs.TokenReaders.{pick, Parts, parts_of}
use Rattle.syntax_reading.specs.ReadParts.{read_semicolon, read_section, read_definitions}
use Rattle.syntax_reading.specs.ReadAround.{read_head}
use Rattle.syntax_reading.specs.ReadRoutines.{read_macros, read_procedures, read_define}
use Rattle.syntax_reading.specs.Missing.{Missing, completed_by, then_misses, by_next_misses, past_misses, all_of, an_identifier, a_number, key_then, name_then, PartsMiss, parts_miss, expr_then}
use Rattle.syntax_reading.specs.MissingParts.{missing_section, missing_definitions, a_value, bind_then}
use Rattle.syntax_reading.specs.MissingSimple.{a_skip}
use Rattle.syntax_reading.specs.MissingRoutines.{missing_head, WaysMiss, missing_macros, missing_procedures, missing_define, missing_main_processes}
use Rattle.p_reading.specs.ReadStatements.{read_sequence, ends_with}
use Rattle.p_reading.specs.ReadAlgorithm.{ways, read_main, read_text, read_algorithm}
use Rattle.p_reading.specs.Resume.{main_rest, end_rest}
use Rattle.p_reading.specs.MissingStatements.{missing_sequence}

-- ---- bodies; the word is after `end`
abbrev pub missing_body : Parts → PartsMiss → ℕ → Word → Missing
missing_body m w n z =
    key_then (codes "begin") (a_skip (ends_with z []))
    (λ a. then_misses (read_sequence m n) (missing_sequence m w n) (ends_with z []) (λ ss. key_then (codes "end") (key nowhere z []) (λ b. key_then z [] (λ d. then_misses read_semicolon (all_of []) [] (λ s. all_of [])))))

-- which process it is, and `define` after its word
abbrev pub missing_identity : Parts → PartsMiss → Missing
missing_identity m w = name_then (a_value []) (λ x. bind_then (a_number []) (λ b. expr_then m w [] (λ e. all_of [])))

abbrev pub missing_define_from : Parts → PartsMiss → ℕ → Missing
missing_define_from m w n =
    then_misses (read_definitions m n) (missing_definitions m w n) (ends_with (codes "define") [])
    (λ ds. key_then (codes "end") (key nowhere (codes "define") []) (λ b. key_then (codes "define") [] (λ d. then_misses read_semicolon (all_of []) [] (λ s. all_of []))))

abbrev pub ways_miss : Parts → PartsMiss → WaysMiss
ways_miss m w = record {
  a_body = λ z. key nowhere (codes "begin") (a_skip (ends_with z []));
  an_identity = an_identifier (a_value []);
  body = missing_body m w;
  identity = missing_identity m w;
  define = missing_define_from m w;
}

-- ---- the whole
-- `begin skip`, before the end of the algorithm
abbrev pub a_main : List Token
a_main = key nowhere (codes "begin") (a_skip [])

abbrev pub missing_main_words : Parts → PartsMiss → ℕ → List (Word × Missing)
missing_main_words m w n = (codes "begin", past_misses (then_misses (read_sequence m n) (missing_sequence m w n) [] (λ ss. all_of []))) ∷ []

abbrev pub missing_main_by : Parts → PartsMiss → ℕ → Place → TokenView → Missing
missing_main_by m w n p (tk.reserved z) = pick z (missing_main_words m w n) (missing_main_processes m w (ways m) (ways_miss m w) n p z)
missing_main_by m w n p k = all_of a_main

abbrev pub missing_main : Parts → PartsMiss → ℕ → Missing
missing_main m w n = by_next_misses (missing_main_by m w n)

abbrev pub missing_text : Parts → PartsMiss → ℕ → Missing
missing_text m w n =
    then_misses read_head missing_head (an_identifier main_rest)
    (λ h. name_then main_rest
    (λ x. then_misses (read_section true m n) (missing_section true m w n) main_rest
    (λ vs. then_misses (read_define (ways m) n) (missing_define (ways_miss m w) n) main_rest
    (λ d. then_misses (read_macros (ways m) n) (missing_macros (ways m) (ways_miss m w) n) main_rest
    (λ ms. then_misses (read_procedures m (ways m) n) (missing_procedures m w (ways m) (ways_miss m w) n) main_rest
    (λ ps. then_misses (read_main m n) (missing_main m w n) end_rest (λ b. key_then (codes "end") (key nowhere (codes "algorithm") []) (λ e. key_then (codes "algorithm") [] (λ f. all_of [])))))))))

-- where the reading of an algorithm is refused; after it no token comes
abbrev pub missing_algorithm : Missing
missing_algorithm ts =
    then_misses (read_text (parts_of (readers (4 * length ts) None)) (suc (length ts))) (missing_text (parts_of (readers (4 * length ts) None)) (parts_miss (4 * length ts)) (suc (length ts))) [] (λ x. all_of []) ts

-- the tokens that complete those that were passed to an algorithm
abbrev pub completion : List Token → List Token
completion = completed_by read_algorithm missing_algorithm
