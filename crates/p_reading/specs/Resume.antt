-- Where reading stands inside the lists of statements of an algorithm, and what closes all that stands open there ("A PlusCal User's Manual, P-Syntax Version", appendix A).
use Rattle.std.specs.Prelude.{ℕ, true, List, [], ◌∷◌, ◌++◌, codes}
use Rattle.tla_token.specs.declared.place.Place.{Place}
use Rattle.tla_token.specs.Places.{nowhere}
use Rattle.tla_tree.specs.Tree.{Word, Name}
use Rattle.tla_tree.specs.Lexical.{Token}
use Rattle.tla_tree.specs.Reader.{Reader, ◌>>=◌, gives}
use Rattle.pcal_tree.specs.GrammarParts.{key, Section}
use Rattle.pcal_tree.specs.Grammar.{Body, begin_end, Macro, Procedure, Process, Head, Define, Main, begin, to_end, Text}
use Rattle.syntax_reading.specs.TokenReaders.{a_key, a_name, Parts}
use Rattle.syntax_reading.specs.ReadParts.{read_semicolon, read_section}
use Rattle.syntax_reading.specs.ReadAround.{read_head}
use Rattle.syntax_reading.specs.ReadRoutines.{read_define, read_macros, read_procedures, read_processes}
use Rattle.syntax_reading.specs.Owners.{Owner, in_macro, in_procedure, in_process, in_main, main_of}
use Rattle.p_reading.specs.ReadStatements.{State, run, ends_with, rest}
use Rattle.p_reading.specs.ReadAlgorithm.{ways, read_main}

-- what stands before the macros
pub record Front : Type 0 where
  pub head : Head
  pub name : Name
  pub variables : Section
  pub define : Define

abbrev pub read_front : Parts → ℕ → Reader Front
read_front m n =
    read_head >>= λ h. a_name >>= λ x. read_section true m n >>= λ vs. read_define (ways m) n >>= λ d.
    gives (record { head = h; name = x; variables = vs; define = d })

-- ---- reading on
abbrev pub finish : Front → List Macro → List Procedure → Main → Reader Text
finish f ms ps b =
    a_key (codes "end") >>= λ e. a_key (codes "algorithm") >>= λ d.
    gives (record { head = f.head; name = f.name; around = to_end e d; variables = f.variables; define = f.define; macros = ms; procedures = ps; main = b })

abbrev pub body_from : Parts → ℕ → Place → Word → State → Reader Body
body_from m n a w s = run m n s >>= λ ss. a_key (codes "end") >>= λ b. a_key w >>= λ d. read_semicolon >>= λ c. gives (begin_end a ss b d c)

abbrev pub main_from : Parts → ℕ → Front → List Macro → List Procedure → Reader Text
main_from m k f ms ps = read_main m k >>= finish f ms ps

abbrev pub procedures_from : Parts → ℕ → ℕ → Front → List Macro → List Procedure → Reader Text
procedures_from m j k f ms qs = read_procedures m (ways m) j >>= λ ps. main_from m k f ms (qs ++ ps)

abbrev pub macros_from : Parts → ℕ → ℕ → Front → List Macro → Reader Text
macros_from m k j f ns = read_macros (ways m) j >>= λ ms. procedures_from m k k f (ns ++ ms) []

abbrev pub text_from : Parts → ℕ → Reader Text
text_from m n = read_front m n >>= λ f. macros_from m n n f []

abbrev pub processes_from : Parts → ℕ → Front → List Macro → List Procedure → List Process → Process → Reader Text
processes_from m j f ms ps ys x = read_processes m (ways m) j >>= λ xs. finish f ms ps (main_of ys x xs)

-- from a state of the list, with n steps for it, j for others of the kind of its owner, and k for those after
abbrev pub resume : Parts → ℕ → ℕ → ℕ → Front → Owner → State → Reader Text
resume m k j n f (in_macro ns p x xs a) s =
    body_from m n a (codes "macro") s >>= λ b. macros_from m k j f (ns ++ record { place = p; name = x; parameters = xs; body = b } ∷ [])
resume m k j n f (in_procedure ms qs p x xs vs a) s =
    body_from m n a (codes "procedure") s >>= λ b. procedures_from m j k f ms (qs ++ record { place = p; name = x; parameters = xs; variables = vs; body = b } ∷ [])
resume m k j n f (in_process ms ps ys q p x vs a) s =
    body_from m n a (codes "process") s >>= λ b. processes_from m j f ms ps ys (record { fair = q; place = p; identity = x; variables = vs; body = b })
resume m k j n f (in_main ms ps a) s = run m n s >>= λ ss. finish f ms ps (begin a ss)

-- ---- what closes all that stands open
-- where the main part may come, and after a process
abbrev pub main_rest : List Token
main_rest = key nowhere (codes "begin") (key nowhere (codes "skip") (ends_with (codes "algorithm") []))

abbrev pub end_rest : List Token
end_rest = ends_with (codes "algorithm") []

-- after the list; a whole algorithm has a main part
abbrev pub after_list : Owner → List Token
after_list (in_macro ns p x xs a) = ends_with (codes "macro") main_rest
after_list (in_procedure ms qs p x xs vs a) = ends_with (codes "procedure") main_rest
after_list (in_process ms ps ys q p x vs a) = ends_with (codes "process") end_rest
after_list (in_main ms ps a) = end_rest

abbrev pub rest_of_all : Owner → State → List Token
rest_of_all o s = rest s ++ after_list o
