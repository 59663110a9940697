-- All statements of an algorithm, and all of its expressions, wherever they are ("A PlusCal User's Manual", sections 3.1 to 3.5).
use Rattle.std.specs.Prelude.{List, [], ◌∷◌, ◌++◌, map}
use Rattle.std.specs.List.{flat_map}
use Rattle.tla_token.specs.declared.place.Place.{Place}
use Rattle.tla_tree.specs.Tree.{Tree, Trees, no_trees, tree}
use Rattle.pcal_tree.specs.Algorithm.{Assignments, no_assignments, assignment, Binds, no_binds, one_of, is, Statement, assign, await, print, assert, branch, either, with, while, macro, call, Statements, done, then, mark, Branches, no_branches, or, Declaration, Main, alone, processes, Algorithm, locals, routines}
use Rattle.pcal_tree.specs.Reads.{initial}

-- ---- statements

pub record StatementAt : Type 0 where
  pub place : Place
  pub statement : Statement

-- those inside others too, in the order of the text
abbrev mutual
  pub statements_inside : Statement → List StatementAt
  statements_inside (branch e a b) = statements_in a ++ statements_in b
  statements_inside (either bs) = statements_in_some bs
  statements_inside (with bs b) = statements_in b
  statements_inside (while e b) = statements_in b
  statements_inside _ = []

  pub statements_in : Statements → List StatementAt
  statements_in done = []
  statements_in (then at st rest) = record { place = at.first; statement = st } ∷ (statements_inside st ++ statements_in rest)
  statements_in (mark l k rest) = statements_in rest

  pub statements_in_some : Branches → List StatementAt
  statements_in_some no_branches = []
  statements_in_some (or b bs) = statements_in b ++ statements_in_some bs

-- macros, called or not, procedures, and the one body or processes
abbrev pub bodies : Algorithm → List Statements
bodies a = map (λ d. d.body) a.macros ++ map (λ u. u.body) (routines a)

abbrev pub all_statements : Algorithm → List StatementAt
all_statements a = flat_map statements_in (bodies a)

-- ---- expressions

abbrev pub tree_list : Trees → List Tree
tree_list no_trees = []
tree_list (tree t ts) = t ∷ tree_list ts

abbrev pub expressions_of_assignments : Assignments → List Tree
expressions_of_assignments no_assignments = []
expressions_of_assignments (assignment l e ms) = l ∷ e ∷ expressions_of_assignments ms

abbrev pub expressions_of_binds : Binds → List Tree
expressions_of_binds no_binds = []
expressions_of_binds (one_of x e bs) = e ∷ expressions_of_binds bs
expressions_of_binds (is x e bs) = e ∷ expressions_of_binds bs

-- those of a statement itself, not of statements inside it
abbrev pub expressions_of : Statement → List Tree
expressions_of (assign ms) = expressions_of_assignments ms
expressions_of (await e) = e ∷ []
expressions_of (print e) = e ∷ []
expressions_of (assert e) = e ∷ []
expressions_of (branch e a b) = e ∷ []
expressions_of (with bs b) = expressions_of_binds bs
expressions_of (while e b) = e ∷ []
expressions_of (macro m ts) = tree_list ts
expressions_of (call p ts) = tree_list ts
expressions_of _ = []

abbrev pub identities : Main → List Tree
identities (alone b) = []
identities (processes ps) = map (λ p. p.identity) ps

abbrev pub all_declarations : Algorithm → List Declaration
all_declarations a = a.globals ++ flat_map locals (routines a)

abbrev pub all_expressions : Algorithm → List Tree
all_expressions a =
    flat_map (λ d. initial d.start) (all_declarations a)
    ++ (map (λ d. d.body) a.definitions ++ (identities a.main ++ flat_map (λ st. expressions_of st.statement) (all_statements a)))
