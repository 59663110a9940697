-- What is missing where the head of an algorithm, a macro, a procedure, a process or a `define` is refused ("A PlusCal User's Manual", section 3).
use Rattle.std.specs.Prelude.{ℕ, zero, suc, true, false, List, [], ◌∷◌, ◌++◌, codes}
use Rattle.tla_token.specs.declared.place.Place.{Place}
use Rattle.tla_token.specs.Places.{nowhere}
use Rattle.tla_tree.specs.Tree.{Word}
use Rattle.tla_tree.specs.Lexical.{TokenView, Token, token}
use Rattle.tla_tree.specs.Lexical as tk
use Rattle.tla_tree.specs.Reader.{Reader, refuses}
use Rattle.pcal_tree.specs.GrammarParts.{key, word}
use Rattle.syntax_reading.specs.TokenReaders.{by_next, pick, Parts}
use Rattle.syntax_reading.specs.ReadParts.{read_section, read_macro_parameters, read_procedure_parameters}
use Rattle.syntax_reading.specs.ReadAround.{fair_by}
use Rattle.syntax_reading.specs.ReadRoutines.{Ways, read_macro, read_procedure, process_words}
use Rattle.syntax_reading.specs.Missing.{Missing, then_misses, by_next_misses, past_misses, all_of, key_then, name_then, PartsMiss}
use Rattle.syntax_reading.specs.MissingParts.{no_list, missing_section, missing_macro_parameters, missing_procedure_parameters}

-- ---- the head
abbrev pub a_head : List Token → List Token
a_head ts = word nowhere (codes "--algorithm") ts

abbrev pub missing_head_words : List (Word × Missing)
missing_head_words = (codes "--algorithm", all_of []) ∷ (codes "--fair", all_of (key nowhere (codes "algorithm") [])) ∷ []

abbrev pub missing_head_by : Place → TokenView → Missing
missing_head_by p (tk.word w) = pick w missing_head_words (all_of (a_head []))
missing_head_by p k = all_of (a_head [])

abbrev pub missing_head : Missing
missing_head = by_next_misses missing_head_by

-- ---- what is spelled in two ways: the shortest body and the shortest identity of a process, and what is missing of them and of a `define`
pub record WaysMiss : Type 0 where
  pub a_body : Word → List Token
  pub an_identity : List Token
  pub body : ℕ → Word → Missing
  pub identity : Missing
  pub define : ℕ → Missing

-- ---- after their words
abbrev pub missing_macro : WaysMiss → ℕ → Missing
missing_macro v n = name_then (no_list (v.a_body (codes "macro"))) (λ x. then_misses (read_macro_parameters n) (missing_macro_parameters n) (v.a_body (codes "macro")) (λ ps. v.body n (codes "macro")))

abbrev pub missing_procedure : Parts → PartsMiss → WaysMiss → ℕ → Missing
missing_procedure m w v n =
    name_then (no_list (v.a_body (codes "procedure"))) (λ x. then_misses (read_procedure_parameters m n) (missing_procedure_parameters m w n) (v.a_body (codes "procedure"))
    (λ ps. then_misses (read_section false m n) (missing_section false m w n) (v.a_body (codes "procedure")) (λ vs. v.body n (codes "procedure"))))

abbrev pub missing_process : Parts → PartsMiss → Ways → WaysMiss → ℕ → Missing
missing_process m w f v n = then_misses f.identity v.identity (v.a_body (codes "process")) (λ i. then_misses (read_section true m n) (missing_section true m w n) (v.a_body (codes "process")) (λ vs. v.body n (codes "process")))

-- from its identity on
abbrev pub process_after_word : WaysMiss → List Token
process_after_word v = v.an_identity ++ v.a_body (codes "process")

abbrev pub missing_process_words : Parts → PartsMiss → Ways → WaysMiss → ℕ → Place → List (Word × Missing)
missing_process_words m w f v n p =
    (codes "process", past_misses (missing_process m w f v n))
    ∷ (codes "fair", past_misses (then_misses (by_next (fair_by p)) (all_of []) (key nowhere (codes "process") (process_after_word v)) (λ a. key_then (codes "process") (process_after_word v) (λ q. missing_process m w f v n))))
    ∷ []

-- ---- those that come
abbrev pub missing_macros_by : Ways → WaysMiss → ℕ → Missing → Place → TokenView → Missing
missing_macros_by f v n r p (tk.reserved w) = pick w ((codes "macro", past_misses (then_misses (read_macro f n p) (missing_macro v n) [] (λ x. r))) ∷ []) (all_of [])
missing_macros_by f v n r p k = all_of []

abbrev pub missing_macros : Ways → WaysMiss → ℕ → Missing
missing_macros f v zero = all_of []
missing_macros f v (suc n) = by_next_misses (missing_macros_by f v n (missing_macros f v n))

abbrev pub missing_procedures_by : Parts → PartsMiss → Ways → WaysMiss → ℕ → Missing → Place → TokenView → Missing
missing_procedures_by m w f v n r p (tk.reserved z) = pick z ((codes "procedure", past_misses (then_misses (read_procedure m f n p) (missing_procedure m w v n) [] (λ x. r))) ∷ []) (all_of [])
missing_procedures_by m w f v n r p k = all_of []

abbrev pub missing_procedures : Parts → PartsMiss → Ways → WaysMiss → ℕ → Missing
missing_procedures m w f v zero = all_of []
missing_procedures m w f v (suc n) = by_next_misses (missing_procedures_by m w f v n (missing_procedures m w f v n))

-- each of them, and then those that come
abbrev pub all_more_miss : {A : Type 0} → Missing → List (Word × Reader A) → List (Word × Missing) → List (Word × Missing)
all_more_miss r ((z, q) ∷ qs) ((w, n) ∷ ns) = (w, then_misses q n [] (λ x. r)) ∷ all_more_miss r qs ns
all_more_miss r qs ns = []

abbrev pub missing_processes_by : Parts → PartsMiss → Ways → WaysMiss → ℕ → Missing → Place → TokenView → Missing
missing_processes_by m w f v n r p (tk.reserved z) = pick z (all_more_miss r (process_words m f n p) (missing_process_words m w f v n p)) (all_of [])
missing_processes_by m w f v n r p k = all_of []

abbrev pub missing_processes : Parts → PartsMiss → Ways → WaysMiss → ℕ → Missing
missing_processes m w f v zero = all_of []
missing_processes m w f v (suc n) = by_next_misses (missing_processes_by m w f v n (missing_processes m w f v n))

-- ---- `define`, and the processes of a whole algorithm
abbrev pub missing_define_by : WaysMiss → ℕ → Place → TokenView → Missing
missing_define_by v n p (tk.reserved w) = pick w ((codes "define", past_misses (v.define n)) ∷ []) (all_of [])
missing_define_by v n p k = all_of []

abbrev pub missing_define : WaysMiss → ℕ → Missing
missing_define v n = by_next_misses (missing_define_by v n)

-- the word of the first process; another word is none
abbrev pub missing_main_processes : Parts → PartsMiss → Ways → WaysMiss → ℕ → Place → Word → Missing
missing_main_processes m w f v n p z =
    then_misses (pick z (process_words m f n p) refuses) (pick z (missing_process_words m w f v n p) (all_of (key nowhere (codes "process") (process_after_word v)))) [] (λ x. missing_processes m w f v n)
