-- Algorithms without their places, in which the trees of one algorithm in the two syntaxes are equal.
use Rattle.std.specs.Prelude.{List, [], ◌∷◌}
pub use Rattle.tla_tree.specs.laws.Placeless.{name_placeless, names_placeless, tree_placeless, trees_placeless}
use Rattle.pcal_tree.specs.Algorithm.{nowhere, Span, Assignments, no_assignments, assignment, Binds, no_binds, one_of, is, Statement, assign, await, print, assert, skip, branch, either, with, while, goto, macro, call, return, Statements, done, then, mark, Branches, no_branches, or, Start, unset, equals, among, Declaration, Definition, Macro, Procedure, Process, Main, alone, processes, Algorithm}

abbrev pub no_span : Span
no_span = record { first = nowhere; last = nowhere }

abbrev pub assignments_placeless : Assignments → Assignments
assignments_placeless no_assignments = no_assignments
assignments_placeless (assignment l e ms) = assignment (tree_placeless l) (tree_placeless e) (assignments_placeless ms)

abbrev pub binds_placeless : Binds → Binds
binds_placeless no_binds = no_binds
binds_placeless (one_of x e bs) = one_of (name_placeless x) (tree_placeless e) (binds_placeless bs)
binds_placeless (is x e bs) = is (name_placeless x) (tree_placeless e) (binds_placeless bs)

abbrev mutual
  pub statement_placeless : Statement → Statement
  statement_placeless (assign ms) = assign (assignments_placeless ms)
  statement_placeless (await e) = await (tree_placeless e)
  statement_placeless (print e) = print (tree_placeless e)
  statement_placeless (assert e) = assert (tree_placeless e)
  statement_placeless skip = skip
  statement_placeless (branch e a b) = branch (tree_placeless e) (statements_placeless a) (statements_placeless b)
  statement_placeless (either bs) = either (branches_placeless bs)
  statement_placeless (with bs b) = with (binds_placeless bs) (statements_placeless b)
  statement_placeless (while e b) = while (tree_placeless e) (statements_placeless b)
  statement_placeless (goto l) = goto l
  statement_placeless (macro m ts) = macro m (trees_placeless ts)
  statement_placeless (call p ts) = call (name_placeless p) (trees_placeless ts)
  statement_placeless return = return

  pub statements_placeless : Statements → Statements
  statements_placeless done = done
  statements_placeless (then at st rest) = then no_span (statement_placeless st) (statements_placeless rest)
  statements_placeless (mark l m rest) = mark (name_placeless l) m (statements_placeless rest)

  pub branches_placeless : Branches → Branches
  branches_placeless no_branches = no_branches
  branches_placeless (or b bs) = or (statements_placeless b) (branches_placeless bs)

abbrev pub start_placeless : Start → Start
start_placeless unset = unset
start_placeless (equals e) = equals (tree_placeless e)
start_placeless (among e) = among (tree_placeless e)

abbrev pub declarations_placeless : List Declaration → List Declaration
declarations_placeless [] = []
declarations_placeless (d ∷ ds) = record { name = name_placeless d.name; start = start_placeless d.start } ∷ declarations_placeless ds

abbrev pub definitions_placeless : List Definition → List Definition
definitions_placeless [] = []
definitions_placeless (d ∷ ds) =
    record { name = name_placeless d.name; params = names_placeless d.params; body = tree_placeless d.body } ∷ definitions_placeless ds

abbrev pub macros_placeless : List Macro → List Macro
macros_placeless [] = []
macros_placeless (m ∷ ms) =
    record { name = name_placeless m.name; params = names_placeless m.params; body = statements_placeless m.body } ∷ macros_placeless ms

abbrev pub procedures_placeless : List Procedure → List Procedure
procedures_placeless [] = []
procedures_placeless (p ∷ ps) = record {
  name = name_placeless p.name;
  params = declarations_placeless p.params;
  variables = declarations_placeless p.variables;
  body = statements_placeless p.body;
} ∷ procedures_placeless ps

abbrev pub processes_placeless : List Process → List Process
processes_placeless [] = []
processes_placeless (p ∷ ps) = record {
  name = name_placeless p.name;
  fairness = p.fairness;
  several = p.several;
  identity = tree_placeless p.identity;
  variables = declarations_placeless p.variables;
  body = statements_placeless p.body;
} ∷ processes_placeless ps

abbrev pub main_placeless : Main → Main
main_placeless (alone ss) = alone (statements_placeless ss)
main_placeless (processes ps) = processes (processes_placeless ps)

abbrev pub placeless : Algorithm → Algorithm
placeless a = record {
  name = name_placeless a.name;
  fair = a.fair;
  globals = declarations_placeless a.globals;
  definitions = definitions_placeless a.definitions;
  macros = macros_placeless a.macros;
  procedures = procedures_placeless a.procedures;
  main = main_placeless a.main;
}
