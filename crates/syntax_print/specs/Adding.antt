-- What is appended to a printed text: lines behind others, and what stands round a test.
use Rattle.std.specs.Prelude.{◌≡◌, ℕ, List, [], ◌∷◌, ◌++◌, codes}
use Rattle.pcal_tree.specs.Grammar as pure
use Rattle.pcal_tree.specs.Algorithm.{Algorithm, Statements}
use Rattle.pcal_tree.specs.Printed.{Text, Lines, line, statements, variables, define, macros, procedures, main, last_line}
use Rattle.pcal_tree.specs.Marks.{text_of_mark}
use Rattle.pcal_tree.specs.declared.algorithm.Stmt.{Stmt}
use Rattle.pcal_tree.specs.declared.algorithm.Stmt.TheOpen.{Stmt-F}
use Rattle.pcal_tree.specs.declared.algorithm.Stmt.TheFolds.{fold-Stmt}

-- each line with the LF before it
abbrev pub behind : List Text → Text
behind [] = []
behind (w ∷ ws) = 10 ∷ (w ++ behind ws)

-- what is appended to a text are the lines that f has before others
abbrev pub Adds : Text → Text → Lines → Type 0
Adds old new f = (rest : List Text) → new ++ behind rest ≡ old ++ behind (f rest)

-- before and behind the test of `if e then`, or of `if (e) {`
abbrev pub head_start : pure.Syntax → Text → Text
head_start pure.p_syntax w = w ++ codes " "
head_start pure.c_syntax w = w ++ codes " ("

abbrev pub head_end : pure.Syntax → Text → Text
head_end pure.p_syntax v = codes " " ++ v
head_end pure.c_syntax v = codes ") {"

-- the lines of an algorithm behind its first
abbrev pub lines_behind : pure.Syntax → Algorithm → List Text
lines_behind s a = variables a.globals (define s a.definitions (macros s a.macros (procedures s a.procedures (main s a.main (line 0 (last_line s) [])))))

-- the text of the labels before the next statement: one more, or used up
abbrev pub labels_step : Stmt-F (Text → Text) → Text → Text
labels_step (Stmt-F.Label x m) w = w ++ x.word ++ text_of_mark m ++ codes " "
labels_step _ w = []

abbrev pub labels_after : Stmt → Text → Text
labels_after = fold-Stmt (Text → Text) labels_step

-- appended is what is printed of the first of a list, before the others
abbrev pub AddsFirst : Text → Text → pure.Syntax → ℕ → Text → Text → (Statements → Statements) → Type 0
AddsFirst old new s k labels left f = (ss : Statements) (rest : List Text) → new ++ behind (statements s k left ss rest) ≡ old ++ behind (statements s k labels (f ss) rest)
