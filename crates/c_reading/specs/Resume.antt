-- Where reading stands inside the lists of statements of an algorithm, and what closes all that stands open there ("A PlusCal User's Manual, C-Syntax Version", appendix A).
use Rattle.std.specs.Prelude.{ℕ, true, List, [], ◌∷◌, ◌++◌, codes}
use Rattle.tla_token.specs.declared.place.Place.{Place}
use Rattle.tla_token.specs.Places.{nowhere}
use Rattle.tla_tree.specs.Tree.{Name}
use Rattle.tla_tree.specs.Lexical.{Token, open_brace, close_brace}
use Rattle.tla_tree.specs.Reader.{Reader, ◌>>=◌, gives}
use Rattle.pcal_tree.specs.GrammarParts.{key, mark, Section}
use Rattle.pcal_tree.specs.Grammar.{Body, braces, Macro, Procedure, Process, Head, Define, Main, block, in_braces, Text}
use Rattle.syntax_reading.specs.TokenReaders.{a_mark, a_name, Parts}
use Rattle.syntax_reading.specs.ReadParts.{read_semicolon, read_section}
use Rattle.syntax_reading.specs.ReadAround.{read_head}
use Rattle.syntax_reading.specs.ReadRoutines.{read_define, read_macros, read_procedures, read_processes}
use Rattle.syntax_reading.specs.Owners.{Owner, in_macro, in_procedure, in_process, in_main, main_of}
use Rattle.c_reading.specs.ReadStatements.{State, run, rest}
use Rattle.c_reading.specs.ReadAlgorithm.{ways, read_main}

-- what stands before the macros
pub record Front : Type 0 where
  pub head : Head
  pub name : Name
  pub brace : Place
  pub variables : Section
  pub define : Define

abbrev pub read_front : Parts → ℕ → Reader Front
read_front m n =
    read_head >>= λ h. a_name >>= λ x. a_mark open_brace >>= λ e. read_section true m n >>= λ vs. read_define (ways m) n >>= λ d.
    gives (record { head = h; name = x; brace = e; variables = vs; define = d })

-- ---- reading on
abbrev pub finish : Front → List Macro → List Procedure → Main → Reader Text
finish f ms ps b =
    a_mark close_brace >>= λ d.
    gives (record { head = f.head; name = f.name; around = in_braces f.brace d; variables = f.variables; define = f.define; macros = ms; procedures = ps; main = b })

abbrev pub body_from : Parts → ℕ → Place → State → Reader Body
body_from m n a s = run m n s >>= λ ss. a_mark close_brace >>= λ b. read_semicolon >>= λ c. gives (braces a ss b c)

abbrev pub main_from : Parts → ℕ → Front → List Macro → List Procedure → Reader Text
main_from m k f ms ps = read_main m k >>= finish f ms ps

abbrev pub procedures_from : Parts → ℕ → ℕ → Front → List Macro → List Procedure → Reader Text
procedures_from m j k f ms qs = read_procedures m (ways m) j >>= λ ps. main_from m k f ms (qs ++ ps)

abbrev pub macros_from : Parts → ℕ → ℕ → Front → List Macro → Reader Text
macros_from m k j f ns = read_macros (ways m) j >>= λ ms. procedures_from m k k f (ns ++ ms) []

abbrev pub text_from : Parts → ℕ → Reader Text
text_from m n = read_front m n >>= λ f. macros_from m n n f []

abbrev pub processes_from : Parts → ℕ → Front → List Macro → List Procedure → List Process → Process → Reader Text
processes_from m j f ms ps ys x = read_processes m (ways m) j >>= λ xs. finish f ms ps (main_of ys x xs)

-- from a state of the list, with n steps for it, j for others of the kind of its owner, and k for those after
abbrev pub resume : Parts → ℕ → ℕ → ℕ → Front → Owner → State → Reader Text
resume m k j n f (in_macro ns p x xs a) s =
    body_from m n a s >>= λ b. macros_from m k j f (ns ++ record { place = p; name = x; parameters = xs; body = b } ∷ [])
resume m k j n f (in_procedure ms qs p x xs vs a) s =
    body_from m n a s >>= λ b. procedures_from m j k f ms (qs ++ record { place = p; name = x; parameters = xs; variables = vs; body = b } ∷ [])
resume m k j n f (in_process ms ps ys q p x vs a) s =
    body_from m n a s >>= λ b. processes_from m j f ms ps ys (record { fair = q; place = p; identity = x; variables = vs; body = b })
resume m k j n f (in_main ms ps a) s = run m n s >>= λ ss. a_mark close_brace >>= λ b. read_semicolon >>= λ c. finish f ms ps (block a ss b c)

-- ---- what closes all that stands open
abbrev pub closing_brace : List Token → List Token
closing_brace ts = mark nowhere close_brace ts

-- where the main part may come, and after a process
abbrev pub main_rest : List Token
main_rest = mark nowhere open_brace (key nowhere (codes "skip") (closing_brace (closing_brace [])))

abbrev pub end_rest : List Token
end_rest = closing_brace []

-- after the list; a whole algorithm has a main part
abbrev pub after_list : Owner → List Token
after_list (in_macro ns p x xs a) = closing_brace main_rest
after_list (in_procedure ms qs p x xs vs a) = closing_brace main_rest
after_list (in_process ms ps ys q p x vs a) = closing_brace end_rest
after_list (in_main ms ps a) = closing_brace end_rest

abbrev pub rest_of_all : Owner → State → List Token
rest_of_all o s = rest s ++ after_list o
