-- Lines of labels, by computation.
use Rattle.std.proofs.Common.{◌≡◌, ℕ, List, [], ◌∷◌, false, refl, codes}
use Rattle.std.specs.Fmt.{digits}
use Rattle.tla_token.specs.declared.place.Place.{Place}
use Rattle.tla_tree.specs.Tree.{Word, Tree, number, name, node, no_trees}
use Rattle.tla_value.specs.Outside.{Outside}
use Rattle.pcal_tree.specs.declared.mark.Mark.TheVariants.{Plain}
use Rattle.pcal_tree.specs.declared.mark.Fairness.TheVariants.{Unfair}
use Rattle.pcal_tree.specs.Algorithm.{Name, Statement, Statements, done, then, mark, no_branches, or, no_assignments, assignment, assign, skip, branch, either, while, return, call, Procedure, Process, Main, alone, processes, Algorithm}
use Rattle.pcal_tree.specs.Names.{naming}
use Rattle.pcal_tree.specs.Labelled.{labelled}
use Rattle.source_map.specs.Lines.{lines, lines_text}

abbrev at : ℕ → ℕ → Place
at l c = record { line = l; col = c }

abbrev named : ℕ → ℕ → Word → Name
named l c w = record { word = w; place = at l c }

-- a statement on a line, from a column to the column of its last token
abbrev stands : ℕ → ℕ → ℕ → Statement → Statements → Statements
stands l c d st rest = then (record { first = at l c; last = at l d }) st rest

abbrev label : ℕ → ℕ → Word → Statements → Statements
label l c w rest = mark (named l c w) Plain rest

abbrev x : Tree
x = node (name (codes "x")) (at 1 1) no_trees

abbrev sets_x : Statement
sets_x = assign (assignment x (node (number 0) (at 1 1) no_trees) no_assignments)

abbrev algorithm : Word → List Procedure → Main → Algorithm
algorithm n ps m = record { name = named 4 13 n; fair = false; globals = []; definitions = []; macros = []; procedures = ps; main = m }

abbrev no_outside : Outside
no_outside = record { extended = []; constants = []; definitions = []; opaque = [] }

abbrev shown : Algorithm → List ℕ
shown g = lines_text (lines g (naming g no_outside))

-- ---- A: x := x + 1;

one_label : shown (algorithm (codes "Inc") [] (alone (label 7 3 (codes "A") (stands 7 6 15 sets_x done)))) ≡ codes "A Inc 7:3 7:15\n"
unfolding digits
one_label = refl

-- ---- a loop and branches: each label has the end of what is before the next label of its own list

-- A: while .. do skip; if .. then B: skip; skip; end if; C: skip; end while; skip; D: either E: skip; or skip; end either
abbrev nested : Statements
nested =
    label 7 3 (codes "A") (stands 7 6 60 (while x (
    stands 7 15 15 skip (stands 7 21 50 (branch x (label 7 31 (codes "B") (stands 7 34 34 skip (stands 7 40 40 skip done))) done)
    (label 7 52 (codes "C") (stands 7 55 55 skip done)))))
    (stands 7 70 70 skip
    (label 8 3 (codes "D") (stands 8 6 40 (either (or (label 8 13 (codes "E") (stands 8 16 16 skip done)) (or (stands 8 25 25 skip done) no_branches))) done))))

of_lists : shown (algorithm (codes "R") [] (alone nested)) ≡ codes "A R 7:3 7:70\nB R 7:31 7:40\nC R 7:52 7:55\nD R 8:3 8:40\nE R 8:13 8:16\n"
unfolding digits
of_lists = refl

-- ---- units by their written names, procedures first; a label's name is its written one

-- procedure P() begin A: skip; return; end procedure
abbrev proc : Procedure
proc = record { name = named 5 11 (codes "P"); params = []; variables = []; body = label 6 3 (codes "A") (stands 6 6 6 skip (stands 6 12 12 return done)) }

-- process Q = x begin A: call P(); end process
abbrev process : Word → Process
process w = record { name = named 7 9 w; fairness = Unfair; several = false; identity = x; variables = []; body = label 8 3 (codes "A") (stands 8 6 13 (call (named 8 11 (codes "P")) no_trees) done) }

of_units : shown (algorithm (codes "R") (proc ∷ []) (processes (process (codes "Q") ∷ []))) ≡ codes "A P 6:3 6:12\nA_1 Q 8:3 8:13\n"
unfolding digits
of_units = refl

-- ---- added labels are at their statements

-- x := 0; x := 0; without a label
added : shown (labelled false (algorithm (codes "R") [] (alone (stands 7 3 8 sets_x (stands 7 11 16 sets_x done))))) ≡ codes "Lbl_1 R 7:3 7:8\nLbl_2 R 7:11 7:16\n"
unfolding digits
added = refl
