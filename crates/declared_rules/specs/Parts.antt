-- The parts of an algorithm that rules on declared names and on modules look at, and names that are taken from the start, in the order of the text.
use Rattle.std.specs.Prelude.{ℕ, List, [], ◌∷◌, ◌++◌, map}
use Rattle.std.specs.List.{flat_map}
use Rattle.tla_token.specs.declared.place.Place.{Place}
use Rattle.tla_tree.specs.Tree.{Name, Tree, Trees, no_trees, tree}
use Rattle.tla_tree.specs.Pool.{at}
use Rattle.pcal_tree.specs.declared.algorithm.Assignment.{Assignment}
use Rattle.pcal_tree.specs.declared.algorithm.Bind as code_bind
use Rattle.pcal_tree.specs.declared.algorithm.Bind.TheVariants as bind
use Rattle.pcal_tree.specs.declared.algorithm.Simple as code_simple
use Rattle.pcal_tree.specs.declared.algorithm.Simple.TheVariants as simple
use Rattle.pcal_tree.specs.declared.algorithm.Stmt.{Stmt}
use Rattle.pcal_tree.specs.declared.algorithm.Start as code_start
use Rattle.pcal_tree.specs.declared.algorithm.Start.TheVariants as start
use Rattle.pcal_tree.specs.declared.algorithm.Declaration.{Declaration}
use Rattle.pcal_tree.specs.declared.algorithm.Definition.{Definition}
use Rattle.pcal_tree.specs.declared.algorithm.Macro.{Macro}
use Rattle.pcal_tree.specs.declared.algorithm.Procedure.{Procedure}
use Rattle.pcal_tree.specs.declared.algorithm.Process.{Process}
use Rattle.pcal_tree.specs.declared.algorithm.Main as code_main
use Rattle.pcal_tree.specs.declared.algorithm.Main.TheVariants as main
use Rattle.pcal_tree.specs.declared.algorithm.Algorithm.{Algorithm}
use Rattle.pcal_tree.specs.Algorithm.{Assignments, no_assignments, assignment, Binds, no_binds, one_of, is, Statement, assign, await, print, assert, skip, branch, either, with, while, goto, macro, call, return, Statements, done, then, mark, Branches, no_branches, or}
use Rattle.pcal_tree.specs.BoundNames.{names_of_binds}
use Rattle.pcal_tree.specs.InMemory.{statements_at}

pub data Part : Type 0 where
  expression : Tree → Part
  bound : List Name → Part  -- names of one list
  takes : List Name → Part  -- names that are taken from the start
  declares : Name → Part
  labels : Name → Part
  prints : Place → Part  -- a statement that needs TLC
  stacks : Place → Part  -- a procedure, which needs a stack

-- ---- of pure trees

abbrev pub in_trees : Trees → List Part
in_trees no_trees = []
in_trees (tree t ts) = expression t ∷ in_trees ts

abbrev pub in_assignments : Assignments → List Part
in_assignments no_assignments = []
in_assignments (assignment l e ms) = expression l ∷ expression e ∷ in_assignments ms

abbrev pub in_binds : Binds → List Part
in_binds no_binds = []
in_binds (one_of x e bs) = expression e ∷ in_binds bs
in_binds (is x e bs) = expression e ∷ in_binds bs

abbrev mutual
  pub in_one : Place → Statement → List Part
  in_one p (assign ms) = in_assignments ms
  in_one p (await e) = expression e ∷ []
  in_one p (print e) = expression e ∷ prints p ∷ []
  in_one p (assert e) = expression e ∷ prints p ∷ []
  in_one p skip = []
  in_one p (branch e a b) = expression e ∷ (in_body a ++ in_body b)
  in_one p (either bs) = in_branches bs
  in_one p (with bs b) = bound (names_of_binds bs) ∷ takes (names_of_binds bs) ∷ (in_binds bs ++ in_body b)
  in_one p (while e b) = expression e ∷ in_body b
  in_one p (goto l) = []
  in_one p (macro m ts) = in_trees ts
  in_one p (call q ts) = in_trees ts
  in_one p return = []

  pub in_body : Statements → List Part
  in_body done = []
  in_body (then s st rest) = in_one s.first st ++ in_body rest
  in_body (mark l k rest) = labels l ∷ in_body rest

  pub in_branches : Branches → List Part
  in_branches no_branches = []
  in_branches (or b bs) = in_body b ++ in_branches bs

-- ---- of each part in memory, where the pool has these trees

abbrev pub expr_parts : List Tree → ℕ → List Part
expr_parts ts e = expression (at ts e) ∷ []

abbrev pub assignment_parts : List Tree → Assignment → List Part
assignment_parts ts m = expression (at ts m.left) ∷ expression (at ts m.right) ∷ []

abbrev pub bind_parts : List Tree → code_bind.Bind → List Part
bind_parts ts (bind.Among x e) = expr_parts ts e
bind_parts ts (bind.Is x e) = expr_parts ts e

abbrev pub bind_name : code_bind.Bind → Name
bind_name (bind.Among x e) = x
bind_name (bind.Is x e) = x

abbrev pub simple_parts : List Tree → Place → code_simple.Simple → List Part
simple_parts ts p (simple.Assign ms) = flat_map (assignment_parts ts) ms.items
simple_parts ts p (simple.Await e) = expr_parts ts e
simple_parts ts p (simple.Print e) = expression (at ts e) ∷ prints p ∷ []
simple_parts ts p (simple.Assert e) = expression (at ts e) ∷ prints p ∷ []
simple_parts ts p simple.Skip = []
simple_parts ts p (simple.Goto x) = []
simple_parts ts p (simple.Macro x es) = flat_map (expr_parts ts) es.items
simple_parts ts p (simple.Call x es) = flat_map (expr_parts ts) es.items
simple_parts ts p simple.Return = []

abbrev pub body_parts : List Tree → List Stmt → List Part
body_parts ts ss = in_body (statements_at ts ss)

abbrev pub start_parts : List Tree → code_start.Start → List Part
start_parts ts start.Unset = []
start_parts ts (start.Equals e) = expr_parts ts e
start_parts ts (start.Among e) = expr_parts ts e

abbrev pub declaration_parts : List Tree → Declaration → List Part
declaration_parts ts d = start_parts ts d.start

abbrev pub global_parts : List Tree → Declaration → List Part
global_parts ts d = declares d.name ∷ takes (d.name ∷ []) ∷ start_parts ts d.start

abbrev pub declaration_names : List Declaration → List Name
declaration_names ds = map (λ (d : Declaration). d.name) ds

abbrev pub definition_parts : List Tree → Definition → List Part
definition_parts ts d = declares d.name ∷ takes (d.name ∷ []) ∷ bound d.params.items ∷ takes d.params.items ∷ expr_parts ts d.body

abbrev pub macro_parts : List Tree → Macro → List Part
macro_parts ts m = declares m.name ∷ bound m.params.items ∷ takes m.params.items ∷ body_parts ts m.body.items

abbrev pub procedure_parts : List Tree → Procedure → List Part
procedure_parts ts p =
    declares p.name ∷ stacks p.name.place ∷ bound (declaration_names p.params.items ++ declaration_names p.variables.items)
    ∷ (flat_map (declaration_parts ts) p.params.items ++ (flat_map (declaration_parts ts) p.variables.items ++ body_parts ts p.body.items))

abbrev pub process_parts : List Tree → Process → List Part
process_parts ts p =
    declares p.name ∷ bound (declaration_names p.variables.items) ∷ expression (at ts p.identity)
    ∷ (flat_map (declaration_parts ts) p.variables.items ++ body_parts ts p.body.items)

abbrev pub main_parts : List Tree → code_main.Main → List Part
main_parts ts (main.Alone ss) = body_parts ts ss.items
main_parts ts (main.Processes ps) = flat_map (process_parts ts) ps.items

abbrev pub parts_of_algorithm : List Tree → Algorithm → List Part
parts_of_algorithm ts a =
    flat_map (global_parts ts) a.globals.items
    ++ (flat_map (definition_parts ts) a.definitions.items
    ++ (flat_map (macro_parts ts) a.macros.items ++ (flat_map (procedure_parts ts) a.procedures.items ++ main_parts ts a.main)))
