-- The names that expressions and each `with` bind, list by list, where they are ("A PlusCal User's Manual", section 3.2, with; "Specifying Systems",
-- sections 16.1.1 and 16.1.5, bound names and LET).
use Rattle.std.specs.Prelude.{List, [], ◌∷◌, ◌++◌}
use Rattle.std.specs.List.{flat_map}
use Rattle.tla_tree.specs.Tree.{Name, Form, binding, local, Tree, node, Trees, no_trees, tree}
use Rattle.pcal_tree.specs.Algorithm.{Assignments, no_assignments, assignment, Binds, no_binds, one_of, is, Statement, assign, await, print, assert, skip, branch, either, with, while, goto, macro, call, return, Statements, done, then, mark, Branches, no_branches, or, Start, unset, equals, among, Declaration, Procedure, Process, Main, alone, processes, Algorithm}

abbrev pub Lists : Type 0
Lists = List (List Name)

-- all names of lists
abbrev pub all_of : Lists → List Name
all_of xss = flat_map (λ (xs : List Name). xs) xss

-- ---- expressions

-- the groups of a binder are one list, and so are the names of a LET
abbrev pub lists_of : Form → Lists
lists_of (binding b groups) = all_of groups ∷ []
lists_of (local xs) = xs ∷ []
lists_of _ = []

abbrev mutual
  pub lists_in : Tree → Lists
  lists_in (node m at ts) = lists_of m ++ lists_in_all ts

  pub lists_in_all : Trees → Lists
  lists_in_all no_trees = []
  lists_in_all (tree t ts) = lists_in t ++ lists_in_all ts

-- ---- statements

abbrev pub lists_in_assignments : Assignments → Lists
lists_in_assignments no_assignments = []
lists_in_assignments (assignment l e ms) = lists_in l ++ (lists_in e ++ lists_in_assignments ms)

abbrev pub names_of_binds : Binds → List Name
names_of_binds no_binds = []
names_of_binds (one_of x e bs) = x ∷ names_of_binds bs
names_of_binds (is x e bs) = x ∷ names_of_binds bs

abbrev pub lists_in_binds : Binds → Lists
lists_in_binds no_binds = []
lists_in_binds (one_of x e bs) = lists_in e ++ lists_in_binds bs
lists_in_binds (is x e bs) = lists_in e ++ lists_in_binds bs

-- what a `with` names is one list
abbrev mutual
  pub lists_in_one : Statement → Lists
  lists_in_one (assign ms) = lists_in_assignments ms
  lists_in_one (await e) = lists_in e
  lists_in_one (print e) = lists_in e
  lists_in_one (assert e) = lists_in e
  lists_in_one skip = []
  lists_in_one (branch e a b) = lists_in e ++ (lists_in_body a ++ lists_in_body b)
  lists_in_one (either bs) = lists_in_branches bs
  lists_in_one (with bs b) = names_of_binds bs ∷ (lists_in_binds bs ++ lists_in_body b)
  lists_in_one (while e b) = lists_in e ++ lists_in_body b
  lists_in_one (goto l) = []
  lists_in_one (macro m ts) = lists_in_all ts
  lists_in_one (call p ts) = lists_in_all ts
  lists_in_one return = []

  pub lists_in_body : Statements → Lists
  lists_in_body done = []
  lists_in_body (then at st rest) = lists_in_one st ++ lists_in_body rest
  lists_in_body (mark l k rest) = lists_in_body rest

  pub lists_in_branches : Branches → Lists
  lists_in_branches no_branches = []
  lists_in_branches (or b bs) = lists_in_body b ++ lists_in_branches bs

-- ---- algorithms

abbrev pub lists_in_start : Start → Lists
lists_in_start unset = []
lists_in_start (equals e) = lists_in e
lists_in_start (among e) = lists_in e

abbrev pub lists_in_declared : List Declaration → Lists
lists_in_declared ds = flat_map (λ d. lists_in_start d.start) ds

abbrev pub lists_in_procedure : Procedure → Lists
lists_in_procedure p = lists_in_declared (p.params ++ p.variables) ++ lists_in_body p.body

abbrev pub lists_in_process : Process → Lists
lists_in_process p = lists_in p.identity ++ (lists_in_declared p.variables ++ lists_in_body p.body)

abbrev pub lists_in_main : Main → Lists
lists_in_main (alone b) = lists_in_body b
lists_in_main (processes ps) = flat_map lists_in_process ps

abbrev pub bound_lists : Algorithm → Lists
bound_lists a =
    lists_in_declared a.globals
    ++ (flat_map (λ d. lists_in d.body) a.definitions
    ++ (flat_map (λ d. lists_in_body d.body) a.macros ++ (flat_map lists_in_procedure a.procedures ++ lists_in_main a.main)))
