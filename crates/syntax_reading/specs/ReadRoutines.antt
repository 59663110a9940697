-- Reading macros, procedures, processes and `define`, by readers of what the syntaxes spell in two ways ("A PlusCal User's Manual", section 3).
use Rattle.std.specs.Prelude.{ℕ, zero, suc, true, false, List, [], ◌∷◌, codes}
use Rattle.tla_token.specs.declared.place.Place.{Place}
use Rattle.tla_tree.specs.Tree.{Word}
use Rattle.tla_tree.specs.Lexical.{TokenView}
use Rattle.tla_tree.specs.Lexical as tk
use Rattle.tla_tree.specs.Reader.{Reader, ◌>>=◌, gives, refuses, skip}
use Rattle.pcal_tree.specs.Grammar.{Body, Macro, Procedure, Fair, unfair, Identity, Process, Define, no_define, Main, processes}
use Rattle.syntax_reading.specs.TokenReaders.{by_next, a_key, a_name, pick, Parts}
use Rattle.syntax_reading.specs.ReadParts.{read_section, read_macro_parameters, read_procedure_parameters}
use Rattle.syntax_reading.specs.ReadAround.{fair_by, more_of, all_more}

-- what is spelled in two ways: the body of a macro, a procedure or a process, by that word, and a `define` after its word, with lists of so many steps; and which process it is
pub record Ways : Type 0 where
  pub body : ℕ → Word → Reader Body
  pub identity : Reader Identity
  pub define : ℕ → Place → Reader Define

-- ---- after their words
abbrev pub read_macro : Ways → ℕ → Place → Reader Macro
read_macro f n p =
    a_name >>= λ x. read_macro_parameters n >>= λ ps. f.body n (codes "macro") >>= λ b. gives (record { place = p; name = x; parameters = ps; body = b })

abbrev pub read_procedure : Parts → Ways → ℕ → Place → Reader Procedure
read_procedure m f n p =
    a_name >>= λ x. read_procedure_parameters m n >>= λ ps. read_section false m n >>= λ vs. f.body n (codes "procedure") >>= λ b.
    gives (record { place = p; name = x; parameters = ps; variables = vs; body = b })

abbrev pub read_process : Parts → Ways → ℕ → Fair → Place → Reader Process
read_process m f n a p =
    f.identity >>= λ i. read_section true m n >>= λ vs. f.body n (codes "process") >>= λ b.
    gives (record { fair = a; place = p; identity = i; variables = vs; body = b })

abbrev pub process_words : Parts → Ways → ℕ → Place → List (Word × Reader Process)
process_words m f n p =
    (codes "process", skip (read_process m f n unfair p))
    ∷ (codes "fair", skip (by_next (fair_by p) >>= λ a. a_key (codes "process") >>= λ q. read_process m f n a q))
    ∷ []

-- ---- those that come, to the first word that begins none
abbrev pub macro_words : Ways → ℕ → Reader (List Macro) → Place → List (Word × Reader (List Macro))
macro_words f n r p = (codes "macro", skip (more_of (read_macro f n p) r)) ∷ []

abbrev pub macros_by : Ways → ℕ → Reader (List Macro) → Place → TokenView → Reader (List Macro)
macros_by f n r p (tk.reserved w) = pick w (macro_words f n r p) (gives [])
macros_by f n r p k = gives []

abbrev pub read_macros : Ways → ℕ → Reader (List Macro)
read_macros f zero = refuses
read_macros f (suc n) = by_next (macros_by f n (read_macros f n))

abbrev pub procedure_words : Parts → Ways → ℕ → Reader (List Procedure) → Place → List (Word × Reader (List Procedure))
procedure_words m f n r p = (codes "procedure", skip (more_of (read_procedure m f n p) r)) ∷ []

abbrev pub procedures_by : Parts → Ways → ℕ → Reader (List Procedure) → Place → TokenView → Reader (List Procedure)
procedures_by m f n r p (tk.reserved w) = pick w (procedure_words m f n r p) (gives [])
procedures_by m f n r p k = gives []

abbrev pub read_procedures : Parts → Ways → ℕ → Reader (List Procedure)
read_procedures m f zero = refuses
read_procedures m f (suc n) = by_next (procedures_by m f n (read_procedures m f n))

abbrev pub processes_by : Parts → Ways → ℕ → Reader (List Process) → Place → TokenView → Reader (List Process)
processes_by m f n r p (tk.reserved w) = pick w (all_more r (process_words m f n p)) (gives [])
processes_by m f n r p k = gives []

abbrev pub read_processes : Parts → Ways → ℕ → Reader (List Process)
read_processes m f zero = refuses
read_processes m f (suc n) = by_next (processes_by m f n (read_processes m f n))

-- ---- `define`, and the processes of a whole algorithm
abbrev pub define_words : Ways → ℕ → Place → List (Word × Reader Define)
define_words f n p = (codes "define", skip (f.define n p)) ∷ []

abbrev pub define_by : Ways → ℕ → Place → TokenView → Reader Define
define_by f n p (tk.reserved w) = pick w (define_words f n p) (gives no_define)
define_by f n p k = gives no_define

abbrev pub read_define : Ways → ℕ → Reader Define
read_define f n = by_next (define_by f n)

-- the word of the first process
abbrev pub main_processes : Parts → Ways → ℕ → Place → Word → Reader Main
main_processes m f n p w = pick w (process_words m f n p) refuses >>= λ x. read_processes m f n >>= λ xs. gives (processes x xs)
