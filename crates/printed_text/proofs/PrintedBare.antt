-- What is printed of an algorithm rests on no place.
use Rattle.std.proofs.Common.{◌≡◌, ℕ, ◌+◌, List, [], ◌∷◌, ◌++◌, map, refl, sym, ap, ◌∙◌, codes}
use Rattle.tla_tree.specs.Tree.{Name, Trees, no_trees, tree}
use Rattle.tla_tree.specs.laws.Placeless.{names_placeless, trees_placeless}
use Rattle.tla_tree.proofs.WrittenBare.{written_bare}
use Rattle.pcal_tree.specs.Marks.{text_of_mark, text_of_fairness}
use Rattle.pcal_tree.specs.Algorithm.{Assignments, no_assignments, assignment, Binds, no_binds, one_of, is, Statement, assign, await, print, assert, skip, branch, either, with, while, goto, macro, call, return, Statements, done, then, mark, Branches, no_branches, or, Start, unset, equals, among, Declaration, Definition, Macro, Procedure, Process, Main, alone, processes, Algorithm}
use Rattle.pcal_tree.specs.Placeless.{assignments_placeless, binds_placeless, statement_placeless, statements_placeless, branches_placeless, start_placeless, declarations_placeless, definitions_placeless, macros_placeless, procedures_placeless, processes_placeless, main_placeless, placeless}
use Rattle.pcal_tree.specs.Grammar.{Syntax, p_syntax, c_syntax}
use Rattle.pcal_tree.specs.Printed.{Text, Lines, line, separated, listed, bracketed, start_text, declaration_text, name_text, trees_texts, assignments_texts, binds_texts, head, opening, middle, closing, parameters_text, sign_text, identity_text, algorithm_word, last_line, printed}
use Rattle.pcal_tree.specs.Printed as lines

-- ---- parts of a line

start_bare : (i : Start) → start_text (start_placeless i) ≡ start_text i
start_bare unset = refl
start_bare (equals e) = λ i. codes " = " ++ written_bare e i
start_bare (among e) = λ i. codes " \\in " ++ written_bare e i

declarations_bare : (ds : List Declaration) → map declaration_text (declarations_placeless ds) ≡ map declaration_text ds
declarations_bare [] = refl
declarations_bare (d ∷ ds) = λ i. (d.name.word ++ start_bare d.start i) ∷ declarations_bare ds i

names_bare : (xs : List Name) → map name_text (names_placeless xs) ≡ map name_text xs
names_bare [] = refl
names_bare (x ∷ xs) = λ i. x.word ∷ names_bare xs i

trees_bare : (ts : Trees) → trees_texts (trees_placeless ts) ≡ trees_texts ts
trees_bare no_trees = refl
trees_bare (tree t ts) = λ i. written_bare t i ∷ trees_bare ts i

assignments_bare : (ms : Assignments) → assignments_texts (assignments_placeless ms) ≡ assignments_texts ms
assignments_bare no_assignments = refl
assignments_bare (assignment l e ms) = λ i. (written_bare l i ++ codes " := " ++ written_bare e i) ∷ assignments_bare ms i

binds_bare : (bs : Binds) → binds_texts (binds_placeless bs) ≡ binds_texts bs
binds_bare no_binds = refl
binds_bare (one_of x e bs) = λ i. (x.word ++ codes " \\in " ++ written_bare e i) ∷ binds_bare bs i
binds_bare (is x e bs) = λ i. (x.word ++ codes " = " ++ written_bare e i) ∷ binds_bare bs i

-- ---- statements

mutual
  statement_bare : (s : Syntax) (n : ℕ) (ls : Text) (st : Statement) → ◌≡◌ {A = Lines} (lines.statement s n ls (statement_placeless st)) (lines.statement s n ls st)
  statement_bare s n ls (assign ms) = λ i. line n (ls ++ separated (codes " || ") (assignments_bare ms i) ++ codes ";")
  statement_bare s n ls (await e) = λ i. line n (ls ++ codes "await " ++ written_bare e i ++ codes ";")
  statement_bare s n ls (print e) = λ i. line n (ls ++ codes "print " ++ written_bare e i ++ codes ";")
  statement_bare s n ls (assert e) = λ i. line n (ls ++ codes "assert " ++ written_bare e i ++ codes ";")
  statement_bare s n ls skip = refl
  statement_bare s n ls (branch e a b) = λ i rest. line n (ls ++ head s (codes "if") (written_bare e i) (codes "then")) (statements_bare s (n + 2) [] a i (otherwise_bare s n b i (line n (closing s (codes "if")) rest)))
  statement_bare s n ls (either bs) = λ i rest. branches_bare s n (ls ++ opening s (codes "either")) bs i (line n (closing s (codes "either")) rest)
  statement_bare s n ls (with bs a) = λ i rest. line n (ls ++ head s (codes "with") (listed (binds_bare bs i)) (codes "do")) (statements_bare s (n + 2) [] a i (line n (closing s (codes "with")) rest))
  statement_bare s n ls (while e a) = λ i rest. line n (ls ++ head s (codes "while") (written_bare e i) (codes "do")) (statements_bare s (n + 2) [] a i (line n (closing s (codes "while")) rest))
  statement_bare s n ls (goto l) = refl
  statement_bare s n ls (macro m ts) = λ i. line n (ls ++ m ++ bracketed (listed (trees_bare ts i)) ++ codes ";")
  statement_bare s n ls (call x ts) = λ i. line n (ls ++ codes "call " ++ x.word ++ bracketed (listed (trees_bare ts i)) ++ codes ";")
  statement_bare s n ls return = refl

  statements_bare : (s : Syntax) (n : ℕ) (ls : Text) (ss : Statements) → ◌≡◌ {A = Lines} (lines.statements s n ls (statements_placeless ss)) (lines.statements s n ls ss)
  statements_bare s n ls done = refl
  statements_bare s n ls (then at st ss) = λ i rest. statement_bare s n ls st i (statements_bare s n [] ss i rest)
  statements_bare s n ls (mark l m ss) = statements_bare s n (ls ++ l.word ++ text_of_mark m ++ codes " ") ss

  otherwise_bare : (s : Syntax) (n : ℕ) (ss : Statements) → ◌≡◌ {A = Lines} (lines.otherwise s n (statements_placeless ss)) (lines.otherwise s n ss)
  otherwise_bare s n done = refl
  otherwise_bare s n (then at st ss) = λ i rest. line n (middle s (codes "else")) (statement_bare s (n + 2) [] st i (statements_bare s (n + 2) [] ss i rest))
  otherwise_bare s n (mark l m ss) = λ i rest. line n (middle s (codes "else")) (statements_bare s (n + 2) (l.word ++ text_of_mark m ++ codes " ") ss i rest)

  branches_bare : (s : Syntax) (n : ℕ) (w : Text) (bs : Branches) → ◌≡◌ {A = Lines} (lines.branches s n w (branches_placeless bs)) (lines.branches s n w bs)
  branches_bare s n w no_branches = refl
  branches_bare s n w (or a bs) = λ i rest. line n w (statements_bare s (n + 2) [] a i (branches_bare s n (middle s (codes "or")) bs i rest))

-- ---- declarations and units, each before the same lines

variables_bare : (ds : List Declaration) (ls : List Text) → lines.variables (declarations_placeless ds) ls ≡ lines.variables ds ls
variables_bare [] ls = refl
variables_bare (d ∷ ds) ls = λ i. line 0 (codes "variables " ++ listed (declarations_bare (d ∷ ds) i) ++ codes ";") ls

parameters_bare : (xs : List Name) → parameters_text (names_placeless xs) ≡ parameters_text xs
parameters_bare [] = refl
parameters_bare (x ∷ xs) = λ i. bracketed (listed (names_bare (x ∷ xs) i))

definitions_bare : (ds : List Definition) (ls : List Text) → lines.definitions (definitions_placeless ds) ls ≡ lines.definitions ds ls
definitions_bare [] ls = refl
definitions_bare (d ∷ ds) ls = λ i. line 2 (d.name.word ++ parameters_bare d.params i ++ codes " == " ++ written_bare d.body i) (definitions_bare ds ls i)

define_bare : (s : Syntax) (ds : List Definition) (ls : List Text) → lines.define s (definitions_placeless ds) ls ≡ lines.define s ds ls
define_bare s [] ls = refl
define_bare s (d ∷ ds) ls = λ i. line 0 (opening s (codes "define")) (definitions_bare (d ∷ ds) (line 0 (lines.define_end s) ls) i)

body_bare : (s : Syntax) (w : Text) (ss : Statements) (ls : List Text) → lines.body s w (statements_placeless ss) ls ≡ lines.body s w ss ls
body_bare p_syntax w ss ls = λ i. line 0 (codes "begin") (statements_bare p_syntax 2 [] ss i (line 0 (closing p_syntax w) ls))
body_bare c_syntax w ss ls = λ i. line 0 (codes "{") (statements_bare c_syntax 2 [] ss i (line 0 (codes "}") ls))

macros_bare : (s : Syntax) (ms : List Macro) (ls : List Text) → lines.macros s (macros_placeless ms) ls ≡ lines.macros s ms ls
macros_bare s [] ls = refl
macros_bare s (m ∷ ms) ls = λ i. line 0 (codes "macro " ++ m.name.word ++ bracketed (listed (names_bare m.params i))) (body_bare s (codes "macro") m.body (macros_bare s ms ls i) i)

procedures_bare : (s : Syntax) (xs : List Procedure) (ls : List Text) → lines.procedures s (procedures_placeless xs) ls ≡ lines.procedures s xs ls
procedures_bare s [] ls = refl
procedures_bare s (x ∷ xs) ls = λ i. line 0 (codes "procedure " ++ x.name.word ++ bracketed (listed (declarations_bare x.params i))) (variables_bare x.variables (body_bare s (codes "procedure") x.body (procedures_bare s xs ls i) i) i)

processes_bare : (s : Syntax) (xs : List Process) (ls : List Text) → lines.process_lines s (processes_placeless xs) ls ≡ lines.process_lines s xs ls
processes_bare s [] ls = refl
processes_bare s (x ∷ xs) ls = λ i. line 0 (text_of_fairness x.fairness ++ codes "process " ++ identity_text s (x.name.word ++ sign_text x.several ++ written_bare x.identity i)) (variables_bare x.variables (body_bare s (codes "process") x.body (processes_bare s xs ls i) i) i)

main_bare : (s : Syntax) (m : Main) (ls : List Text) → lines.main s (main_placeless m) ls ≡ lines.main s m ls
main_bare p_syntax (alone ss) ls = λ i. line 0 (codes "begin") (statements_bare p_syntax 2 [] ss i ls)
main_bare c_syntax (alone ss) ls = λ i. line 0 (codes "{") (statements_bare c_syntax 2 [] ss i (line 0 (codes "}") ls))
main_bare p_syntax (processes ps) ls = processes_bare p_syntax ps ls
main_bare c_syntax (processes ps) ls = processes_bare c_syntax ps ls

printed_bare : (s : Syntax) (a : Algorithm) → printed s (placeless a) ≡ printed s a
printed_bare s a =
    λ i. separated (codes "\n") (line 0 (algorithm_word a.fair ++ opening s a.name.word)
    (variables_bare a.globals (define_bare s a.definitions (macros_bare s a.macros (procedures_bare s a.procedures (main_bare s a.main (line 0 (last_line s) []) i) i) i) i) i))

pub same_printed : (s : Syntax) (a b : Algorithm) → placeless a ≡ placeless b → printed s a ≡ printed s b
same_printed s a b e = sym (printed_bare s a) ∙ ap (printed s) e ∙ printed_bare s b
