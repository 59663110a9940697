-- Reading an algorithm in P-syntax ("A PlusCal User's Manual, P-Syntax Version", appendix A).
use Rattle.std.specs.Prelude.{ℕ, suc, ◌*◌, true, List, [], ◌∷◌, length, None, codes}
use Rattle.tla_token.specs.declared.place.Place.{Place}
use Rattle.tla_tree.specs.Tree.{Word}
use Rattle.tla_tree.specs.Lexical.{TokenView}
use Rattle.tla_tree.specs.Lexical as tk
use Rattle.tla_tree.specs.Reader.{Reader, ◌>>=◌, gives, refuses, skip, readers}
use Rattle.pcal_tree.specs.Grammar.{Body, begin_end, Identity, bare, Define, define_end, Main, begin, to_end, Text}
use Rattle.syntax_reading.specs.TokenReaders.{by_next, past, a_key, a_name, pick, Parts, parts_of, limited_parts}
use Rattle.syntax_reading.specs.ReadParts.{read_semicolon, read_section, read_definitions, bind_by}
use Rattle.syntax_reading.specs.ReadAround.{read_head, to_last}
use Rattle.syntax_reading.specs.ReadRoutines.{Ways, read_macros, read_procedures, read_define, main_processes}
use Rattle.p_reading.specs.ReadStatements.{read_sequence}

-- ---- bodies; the word is after `end`
abbrev pub read_body : Parts → ℕ → Word → Reader Body
read_body m n w =
    a_key (codes "begin") >>= λ a. read_sequence m n >>= λ ss. a_key (codes "end") >>= λ b. a_key w >>= λ d. read_semicolon >>= λ s. gives (begin_end a ss b d s)

-- which process it is, and `define` after its word
abbrev pub read_identity : Parts → Reader Identity
read_identity m = a_name >>= λ x. past bind_by >>= λ b. m.expr >>= λ e. gives (bare x b.0 b.1 e)

abbrev pub define_from : Parts → ℕ → Place → Reader Define
define_from m n p = read_definitions m n >>= λ ds. a_key (codes "end") >>= λ b. a_key (codes "define") >>= λ d. read_semicolon >>= λ s. gives (define_end p ds b d s)

abbrev pub ways : Parts → Ways
ways m = record { body = read_body m; identity = read_identity m; define = define_from m }

-- ---- the whole
abbrev pub main_words : Parts → ℕ → Place → List (Word × Reader Main)
main_words m n p =
    (codes "begin", skip (read_sequence m n >>= λ ss. gives (begin p ss)))
    ∷ []

abbrev pub main_by : Parts → ℕ → Place → TokenView → Reader Main
main_by m n p (tk.reserved w) = pick w (main_words m n p) (main_processes m (ways m) n p w)
main_by m n p k = refuses

abbrev pub read_main : Parts → ℕ → Reader Main
read_main m n = by_next (main_by m n)

abbrev pub read_text : Parts → ℕ → Reader Text
read_text m n =
    read_head >>= λ h. a_name >>= λ x. read_section true m n >>= λ vs. read_define (ways m) n >>= λ d. read_macros (ways m) n >>= λ ms. read_procedures m (ways m) n >>= λ ps. read_main m n >>= λ b.
    a_key (codes "end") >>= λ e. a_key (codes "algorithm") >>= λ f.
    gives (record { head = h; name = x; around = to_end e f; variables = vs; define = d; macros = ms; procedures = ps; main = b })

-- an algorithm, wherever any number of forms may be open; a list takes a step for each of its members, and an expression four for each token at most
abbrev pub read_algorithm : Reader Text
read_algorithm ts = (read_text (parts_of (readers (4 * length ts) None)) (suc (length ts)) >>= to_last) ts

-- and one in which nowhere too many forms are open
abbrev pub read_limited_algorithm : Reader Text
read_limited_algorithm ts = (read_text (limited_parts (4 * length ts)) (suc (length ts)) >>= to_last) ts
