-- The text of an algorithm in each syntax: lines with LF between them, bodies two deeper than their heads ("A PlusCal User's Manual", section 3 and appendix A).
use Rattle.std.specs.Prelude.{ℕ, zero, suc, ◌+◌, List, [], ◌∷◌, ◌++◌, Bool, true, false, map, codes}
use Rattle.tla_tree.specs.Tree.{Trees, no_trees, tree}
use Rattle.tla_tree.specs.Written.{written}
use Rattle.pcal_tree.specs.Algorithm.{Name, Assignments, no_assignments, assignment, Binds, no_binds, one_of, is, Statement, assign, await, print, assert, skip, branch, either, with, while, goto, macro, call, return, Statements, done, then, mark, Branches, no_branches, or, Start, unset, equals, among, Declaration, Definition, Macro, Procedure, Process, Main, alone, processes, Algorithm}
use Rattle.pcal_tree.specs.Marks.{text_of_mark, text_of_fairness}
use Rattle.pcal_tree.specs.Grammar.{Syntax, p_syntax, c_syntax}

abbrev pub Text : Type 0
Text = List ℕ

-- lines before others: part rest
abbrev pub Lines : Type 0
Lines = List Text → List Text

abbrev pub blanks : ℕ → Text
blanks zero = []
blanks (suc n) = 32 ∷ blanks n

abbrev pub line : ℕ → Text → Lines
line n w ls = (blanks n ++ w) ∷ ls

abbrev pub separated : Text → List Text → Text
separated s [] = []
separated s (w ∷ []) = w
separated s (w ∷ v ∷ vs) = w ++ s ++ separated s (v ∷ vs)

abbrev pub listed : List Text → Text
listed ws = separated (codes ", ") ws

abbrev pub bracketed : Text → Text
bracketed w = codes "(" ++ w ++ codes ")"

-- ---- parts of a line

abbrev pub start_text : Start → Text
start_text unset = []
start_text (equals e) = codes " = " ++ written e
start_text (among e) = codes " \\in " ++ written e

abbrev pub declaration_text : Declaration → Text
declaration_text d = d.name.word ++ start_text d.start

abbrev pub declarations_text : List Declaration → Text
declarations_text ds = listed (map declaration_text ds)

abbrev pub name_text : Name → Text
name_text x = x.word

abbrev pub names_text : List Name → Text
names_text xs = listed (map name_text xs)

abbrev pub trees_texts : Trees → List Text
trees_texts no_trees = []
trees_texts (tree t ts) = written t ∷ trees_texts ts

abbrev pub arguments_text : Trees → Text
arguments_text ts = bracketed (listed (trees_texts ts))

abbrev pub assignments_texts : Assignments → List Text
assignments_texts no_assignments = []
assignments_texts (assignment l e ms) = (written l ++ codes " := " ++ written e) ∷ assignments_texts ms

abbrev pub binds_texts : Binds → List Text
binds_texts no_binds = []
binds_texts (one_of x e bs) = (x.word ++ codes " \\in " ++ written e) ∷ binds_texts bs
binds_texts (is x e bs) = (x.word ++ codes " = " ++ written e) ∷ binds_texts bs

-- ---- lines of compound statements

-- `if e then`, or `if (e) {`
abbrev pub head : Syntax → Text → Text → Text → Text
head p_syntax w e v = w ++ codes " " ++ e ++ codes " " ++ v
head c_syntax w e v = w ++ codes " (" ++ e ++ codes ") {"

-- `either`, or `either {`
abbrev pub opening : Syntax → Text → Text
opening p_syntax w = w
opening c_syntax w = w ++ codes " {"

-- `else`, or `} else {`
abbrev pub middle : Syntax → Text → Text
middle p_syntax w = w
middle c_syntax w = codes "} " ++ w ++ codes " {"

-- `end if;`, or `};`
abbrev pub closing : Syntax → Text → Text
closing p_syntax w = codes "end " ++ w ++ codes ";"
closing c_syntax w = codes "};"

-- ---- statements, at an indentation, the first one after its labels

-- the line of a statement with no statements in it, after a text; of another, the text alone
abbrev pub simple_line : Text → Statement → Text
simple_line ls (assign ms) = ls ++ separated (codes " || ") (assignments_texts ms) ++ codes ";"
simple_line ls (await e) = ls ++ codes "await " ++ written e ++ codes ";"
simple_line ls (print e) = ls ++ codes "print " ++ written e ++ codes ";"
simple_line ls (assert e) = ls ++ codes "assert " ++ written e ++ codes ";"
simple_line ls skip = ls ++ codes "skip;"
simple_line ls (goto l) = ls ++ codes "goto " ++ l ++ codes ";"
simple_line ls (macro m ts) = ls ++ m ++ arguments_text ts ++ codes ";"
simple_line ls (call x ts) = ls ++ codes "call " ++ x.word ++ arguments_text ts ++ codes ";"
simple_line ls return = ls ++ codes "return;"
simple_line ls _ = ls

abbrev mutual
  pub statement : Syntax → ℕ → Text → Statement → Lines
  statement s n ls (branch e a b) = λ rest. line n (ls ++ head s (codes "if") (written e) (codes "then")) (statements s (n + 2) [] a (otherwise s n b (line n (closing s (codes "if")) rest)))
  statement s n ls (either bs) = λ rest. branches s n (ls ++ opening s (codes "either")) bs (line n (closing s (codes "either")) rest)
  statement s n ls (with bs a) = λ rest. line n (ls ++ head s (codes "with") (listed (binds_texts bs)) (codes "do")) (statements s (n + 2) [] a (line n (closing s (codes "with")) rest))
  statement s n ls (while e a) = λ rest. line n (ls ++ head s (codes "while") (written e) (codes "do")) (statements s (n + 2) [] a (line n (closing s (codes "while")) rest))
  statement s n ls st = line n (simple_line ls st)

  -- with the texts of the labels that are before the next statement
  pub statements : Syntax → ℕ → Text → Statements → Lines
  statements s n ls done = λ rest. rest
  statements s n ls (then at st ss) = λ rest. statement s n ls st (statements s n [] ss rest)
  statements s n ls (mark l m ss) = statements s n (ls ++ l.word ++ text_of_mark m ++ codes " ") ss

  -- the `else`, where it has statements
  pub otherwise : Syntax → ℕ → Statements → Lines
  otherwise s n done = λ rest. rest
  otherwise s n (then at st ss) = λ rest. line n (middle s (codes "else")) (statement s (n + 2) [] st (statements s (n + 2) [] ss rest))
  otherwise s n (mark l m ss) = λ rest. line n (middle s (codes "else")) (statements s (n + 2) (l.word ++ text_of_mark m ++ codes " ") ss rest)

  -- each branch after its line: the first is given
  pub branches : Syntax → ℕ → Text → Branches → Lines
  branches s n w no_branches = λ rest. rest
  branches s n w (or a bs) = λ rest. line n w (statements s (n + 2) [] a (branches s n (middle s (codes "or")) bs rest))

-- ---- declarations

-- `variables x = 0, y \in S;`, where there are some
abbrev pub variables : List Declaration → Lines
variables [] ls = ls
variables (d ∷ ds) ls = line 0 (codes "variables " ++ declarations_text (d ∷ ds) ++ codes ";") ls

abbrev pub parameters_text : List Name → Text
parameters_text [] = []
parameters_text (x ∷ xs) = bracketed (names_text (x ∷ xs))

abbrev pub definitions : List Definition → Lines
definitions [] ls = ls
definitions (d ∷ ds) ls = line 2 (d.name.word ++ parameters_text d.params ++ codes " == " ++ written d.body) (definitions ds ls)

abbrev pub define_end : Syntax → Text
define_end p_syntax = codes "end define;"
define_end c_syntax = codes "}"

abbrev pub define : Syntax → List Definition → Lines
define s [] ls = ls
define s (d ∷ ds) ls = line 0 (opening s (codes "define")) (definitions (d ∷ ds) (line 0 (define_end s) ls))

-- `begin`, statements, `end macro;`, or these between `{` and `}`
abbrev pub body : Syntax → Text → Statements → Lines
body p_syntax w ss ls = line 0 (codes "begin") (statements p_syntax 2 [] ss (line 0 (closing p_syntax w) ls))
body c_syntax w ss ls = line 0 (codes "{") (statements c_syntax 2 [] ss (line 0 (codes "}") ls))

abbrev pub macros : Syntax → List Macro → Lines
macros s [] ls = ls
macros s (m ∷ ms) ls = line 0 (codes "macro " ++ m.name.word ++ bracketed (names_text m.params)) (body s (codes "macro") m.body (macros s ms ls))

abbrev pub procedures : Syntax → List Procedure → Lines
procedures s [] ls = ls
procedures s (x ∷ xs) ls =
    line 0 (codes "procedure " ++ x.name.word ++ bracketed (declarations_text x.params))
    (variables x.variables (body s (codes "procedure") x.body (procedures s xs ls)))

abbrev pub sign_text : Bool → Text
sign_text true = codes " \\in "
sign_text false = codes " = "

abbrev pub identity_text : Syntax → Text → Text
identity_text p_syntax w = w
identity_text c_syntax w = bracketed w

abbrev pub process_lines : Syntax → List Process → Lines
process_lines s [] ls = ls
process_lines s (x ∷ xs) ls =
    line 0 (text_of_fairness x.fairness ++ codes "process " ++ identity_text s (x.name.word ++ sign_text x.several ++ written x.identity))
    (variables x.variables (body s (codes "process") x.body (process_lines s xs ls)))

-- ---- algorithms

abbrev pub main : Syntax → Main → Lines
main p_syntax (alone ss) ls = line 0 (codes "begin") (statements p_syntax 2 [] ss ls)
main c_syntax (alone ss) ls = line 0 (codes "{") (statements c_syntax 2 [] ss (line 0 (codes "}") ls))
main s (processes ps) ls = process_lines s ps ls

abbrev pub algorithm_word : Bool → Text
algorithm_word false = codes "--algorithm "
algorithm_word true = codes "--fair algorithm "

abbrev pub last_line : Syntax → Text
last_line p_syntax = codes "end algorithm"
last_line c_syntax = codes "}"

abbrev pub lines_of : Syntax → Algorithm → List Text
lines_of s a =
    line 0 (algorithm_word a.fair ++ opening s a.name.word)
    (variables a.globals (define s a.definitions (macros s a.macros (procedures s a.procedures (main s a.main (line 0 (last_line s) []))))))

abbrev pub printed : Syntax → Algorithm → Text
printed s a = separated (codes "\n") (lines_of s a)

abbrev pub PText : Algorithm → Text
PText a = printed p_syntax a

abbrev pub CText : Algorithm → Text
CText a = printed c_syntax a
