-- Reading an algorithm in C-syntax ("A PlusCal User's Manual, C-Syntax Version", appendix A).
use Rattle.std.specs.Prelude.{ℕ, suc, ◌*◌, true, length, None}
use Rattle.tla_token.specs.declared.place.Place.{Place}
use Rattle.tla_tree.specs.Lexical.{TokenView}
use Rattle.tla_tree.specs.Lexical as tk
use Rattle.tla_tree.specs.Reader.{Reader, ◌>>=◌, gives, refuses, skip, readers}
use Rattle.pcal_tree.specs.Grammar.{Body, braces, Identity, bracketed, Define, define_braces, Main, block, in_braces, Text}
use Rattle.syntax_reading.specs.TokenReaders.{by_next, past, a_mark, a_name, Parts, parts_of, limited_parts}
use Rattle.syntax_reading.specs.ReadParts.{read_semicolon, read_section, read_definitions, bind_by}
use Rattle.syntax_reading.specs.ReadAround.{read_head, to_last}
use Rattle.syntax_reading.specs.ReadRoutines.{Ways, read_macros, read_procedures, read_define, main_processes}
use Rattle.c_reading.specs.ReadStatements.{read_sequence}

-- ---- { .. }; of a macro, a procedure or a process
abbrev pub read_body : Parts → ℕ → Reader Body
read_body m n = a_mark tk.open_brace >>= λ a. read_sequence m n >>= λ ss. a_mark tk.close_brace >>= λ b. read_semicolon >>= λ s. gives (braces a ss b s)

-- which process it is, and `define` after its word
abbrev pub read_identity : Parts → Reader Identity
read_identity m = a_mark tk.open_bracket >>= λ q. a_name >>= λ x. past bind_by >>= λ b. m.expr >>= λ e. a_mark tk.close_bracket >>= λ r. gives (bracketed q x b.0 b.1 e r)

abbrev pub define_from : Parts → ℕ → Place → Reader Define
define_from m n p = a_mark tk.open_brace >>= λ b. read_definitions m n >>= λ ds. a_mark tk.close_brace >>= λ d. read_semicolon >>= λ s. gives (define_braces p b ds d s)

abbrev pub ways : Parts → Ways
ways m = record { body = λ n w. read_body m n; identity = read_identity m; define = define_from m }

-- ---- the whole
abbrev pub main_block : Parts → ℕ → Place → Reader Main
main_block m n p = skip (read_sequence m n >>= λ ss. a_mark tk.close_brace >>= λ b. read_semicolon >>= λ s. gives (block p ss b s))

abbrev pub main_by : Parts → ℕ → Place → TokenView → Reader Main
main_by m n p (tk.reserved w) = main_processes m (ways m) n p w
main_by m n p (tk.mark tk.open_brace) = main_block m n p
main_by m n p k = refuses

abbrev pub read_main : Parts → ℕ → Reader Main
read_main m n = by_next (main_by m n)

abbrev pub read_text : Parts → ℕ → Reader Text
read_text m n =
    read_head >>= λ h. a_name >>= λ x. a_mark tk.open_brace >>= λ e. read_section true m n >>= λ vs. read_define (ways m) n >>= λ d. read_macros (ways m) n >>= λ ms. read_procedures m (ways m) n >>= λ ps. read_main m n >>= λ b.
    a_mark tk.close_brace >>= λ f.
    gives (record { head = h; name = x; around = in_braces e f; variables = vs; define = d; macros = ms; procedures = ps; main = b })

-- an algorithm, wherever any number of forms may be open; a list takes a step for each of its members, and an expression four for each token at most
abbrev pub read_algorithm : Reader Text
read_algorithm ts = (read_text (parts_of (readers (4 * length ts) None)) (suc (length ts)) >>= to_last) ts

-- and one in which nowhere too many forms are open
abbrev pub read_limited_algorithm : Reader Text
read_limited_algorithm ts = (read_text (limited_parts (4 * length ts)) (suc (length ts)) >>= to_last) ts
