-- What algorithms in memory stand for, where the pool has these trees; and that their numbers are of the pool.
use Rattle.std.specs.Prelude.{ℕ, ◌+◌, max, List, [], ◌∷◌, map, Vec}
use Rattle.std.specs.declared.alloc.Global.{Global}
use Rattle.tla_tree.specs.Tree.{Tree}
use Rattle.tla_tree.specs.Pool.{at, trees_at}
use Rattle.tla_tree.specs.Nesting.{greatest}
use Rattle.pcal_tree.specs.declared.algorithm.Span.{Span}
use Rattle.pcal_tree.specs.declared.algorithm.Assignment.{Assignment}
use Rattle.pcal_tree.specs.declared.algorithm.Bind.{Bind}
use Rattle.pcal_tree.specs.declared.algorithm.Bind.TheVariants as bind
use Rattle.pcal_tree.specs.declared.algorithm.Simple.{Simple}
use Rattle.pcal_tree.specs.declared.algorithm.Simple.TheVariants as simple
use Rattle.pcal_tree.specs.declared.algorithm.Stmt.{Stmt}
use Rattle.pcal_tree.specs.declared.algorithm.Stmt.TheOpen.{Stmt-F}
use Rattle.pcal_tree.specs.declared.algorithm.Stmt.TheFolds.{fold-Stmt}
use Rattle.pcal_tree.specs.declared.algorithm.Start.{Start}
use Rattle.pcal_tree.specs.declared.algorithm.Start.TheVariants as start
use Rattle.pcal_tree.specs.declared.algorithm.Declaration.{Declaration}
use Rattle.pcal_tree.specs.declared.algorithm.Definition.{Definition}
use Rattle.pcal_tree.specs.declared.algorithm.Macro.{Macro}
use Rattle.pcal_tree.specs.declared.algorithm.Procedure.{Procedure}
use Rattle.pcal_tree.specs.declared.algorithm.Process.{Process}
use Rattle.pcal_tree.specs.declared.algorithm.Main.{Main}
use Rattle.pcal_tree.specs.declared.algorithm.Main.TheVariants as main
use Rattle.pcal_tree.specs.declared.algorithm.Algorithm.{Algorithm}
use Rattle.pcal_tree.specs.Algorithm as tree

-- ---- statements

abbrev pub span_of : Span → tree.Span
span_of s = record { first = s.first; last = s.last }

abbrev pub assignments_at : List Tree → List Assignment → tree.Assignments
assignments_at ts [] = tree.no_assignments
assignments_at ts (m ∷ ms) = tree.assignment (at ts m.left) (at ts m.right) (assignments_at ts ms)

abbrev pub bind_at : List Tree → Bind → tree.Binds → tree.Binds
bind_at ts (bind.Among x e) bs = tree.one_of x (at ts e) bs
bind_at ts (bind.Is x e) bs = tree.is x (at ts e) bs

abbrev pub binds_at : List Tree → List Bind → tree.Binds
binds_at ts [] = tree.no_binds
binds_at ts (b ∷ bs) = bind_at ts b (binds_at ts bs)

abbrev pub simple_at : List Tree → Simple → tree.Statement
simple_at ts (simple.Assign ms) = tree.assign (assignments_at ts ms.items)
simple_at ts (simple.Await e) = tree.await (at ts e)
simple_at ts (simple.Print e) = tree.print (at ts e)
simple_at ts (simple.Assert e) = tree.assert (at ts e)
simple_at ts simple.Skip = tree.skip
simple_at ts (simple.Goto x) = tree.goto x
simple_at ts (simple.Macro x es) = tree.macro x (trees_at ts es.items)
simple_at ts (simple.Call x es) = tree.call x (trees_at ts es.items)
simple_at ts simple.Return = tree.return

-- a label or a statement stands for what goes before the rest of its list
abbrev pub Before : Type 0
Before = tree.Statements → tree.Statements

abbrev pub statements_from : List Before → tree.Statements
statements_from [] = tree.done
statements_from (f ∷ fs) = f (statements_from fs)

abbrev pub branches_from : List tree.Statements → tree.Branches
branches_from [] = tree.no_branches
branches_from (b ∷ bs) = tree.or b (branches_from bs)

-- one, with what those in it stand for
abbrev pub stmt_step : List Tree → Stmt-F Before → Before
stmt_step ts (Stmt-F.Label x m) = tree.mark x m
stmt_step ts (Stmt-F.Simple s x) = tree.then (span_of s) (simple_at ts x)
stmt_step ts (Stmt-F.If s e a b) = tree.then (span_of s) (tree.branch (at ts e) (statements_from a.items) (statements_from b.items))
stmt_step ts (Stmt-F.Either s bs) = tree.then (span_of s) (tree.either (branches_from (map (λ (b : Vec Before Global). statements_from b.items) bs.items)))
stmt_step ts (Stmt-F.With s bs a) = tree.then (span_of s) (tree.with (binds_at ts bs.items) (statements_from a.items))
stmt_step ts (Stmt-F.While s e a) = tree.then (span_of s) (tree.while (at ts e) (statements_from a.items))

abbrev pub stmt_at : List Tree → Stmt → Before
stmt_at ts = fold-Stmt Before (stmt_step ts)

abbrev pub statements_at : List Tree → List Stmt → tree.Statements
statements_at ts ss = statements_from (map (stmt_at ts) ss)

abbrev pub branches_at : List Tree → List (Vec Stmt Global) → tree.Branches
branches_at ts bs = branches_from (map (λ (b : Vec Stmt Global). statements_at ts b.items) bs)

-- ---- declarations

abbrev pub start_at : List Tree → Start → tree.Start
start_at ts start.Unset = tree.unset
start_at ts (start.Equals e) = tree.equals (at ts e)
start_at ts (start.Among e) = tree.among (at ts e)

abbrev pub declaration_at : List Tree → Declaration → tree.Declaration
declaration_at ts d = record { name = d.name; start = start_at ts d.start }

abbrev pub declarations_at : List Tree → List Declaration → List tree.Declaration
declarations_at ts ds = map (declaration_at ts) ds

abbrev pub definition_at : List Tree → Definition → tree.Definition
definition_at ts d = record { name = d.name; params = d.params.items; body = at ts d.body }

abbrev pub definitions_at : List Tree → List Definition → List tree.Definition
definitions_at ts ds = map (definition_at ts) ds

-- ---- the algorithm

abbrev pub macro_at : List Tree → Macro → tree.Macro
macro_at ts m = record { name = m.name; params = m.params.items; body = statements_at ts m.body.items }

abbrev pub procedure_at : List Tree → Procedure → tree.Procedure
procedure_at ts p = record {
  name = p.name;
  params = declarations_at ts p.params.items;
  variables = declarations_at ts p.variables.items;
  body = statements_at ts p.body.items;
}

abbrev pub process_at : List Tree → Process → tree.Process
process_at ts p = record {
  name = p.name;
  fairness = p.fairness;
  several = p.several;
  identity = at ts p.identity;
  variables = declarations_at ts p.variables.items;
  body = statements_at ts p.body.items;
}

abbrev pub main_at : List Tree → Main → tree.Main
main_at ts (main.Alone ss) = tree.alone (statements_at ts ss.items)
main_at ts (main.Processes ps) = tree.processes (map (process_at ts) ps.items)

abbrev pub algorithm_at : List Tree → Algorithm → tree.Algorithm
algorithm_at ts a = record {
  name = a.name;
  fair = a.fair;
  globals = declarations_at ts a.globals.items;
  definitions = definitions_at ts a.definitions.items;
  macros = map (macro_at ts) a.macros.items;
  procedures = map (procedure_at ts) a.procedures.items;
  main = main_at ts a.main;
}

-- ---- past which numbers theirs are: the least number that is above each; those of an algorithm are of a pool of at least so many

abbrev pub past_number : ℕ → ℕ
past_number e = e + 1

abbrev pub past_numbers : List ℕ → ℕ
past_numbers es = greatest (map past_number es)

abbrev pub past_assignment : Assignment → ℕ
past_assignment a = max (a.left + 1) (a.right + 1)

abbrev pub past_bind : Bind → ℕ
past_bind (bind.Among x e) = e + 1
past_bind (bind.Is x e) = e + 1

abbrev pub past_binds : List Bind → ℕ
past_binds bs = greatest (map past_bind bs)

abbrev pub past_simple : Simple → ℕ
past_simple (simple.Assign ms) = greatest (map past_assignment ms.items)
past_simple (simple.Await e) = e + 1
past_simple (simple.Print e) = e + 1
past_simple (simple.Assert e) = e + 1
past_simple simple.Skip = 0
past_simple (simple.Goto x) = 0
past_simple (simple.Macro x es) = past_numbers es.items
past_simple (simple.Call x es) = past_numbers es.items
past_simple simple.Return = 0

abbrev pub past_step : Stmt-F ℕ → ℕ
past_step (Stmt-F.Label x m) = 0
past_step (Stmt-F.Simple s x) = past_simple x
past_step (Stmt-F.If s e a b) = max (e + 1) (max (greatest a.items) (greatest b.items))
past_step (Stmt-F.Either s bs) = greatest (map (λ (b : Vec ℕ Global). greatest b.items) bs.items)
past_step (Stmt-F.With s bs a) = max (past_binds bs.items) (greatest a.items)
past_step (Stmt-F.While s e a) = max (e + 1) (greatest a.items)

abbrev pub past_stmt : Stmt → ℕ
past_stmt = fold-Stmt ℕ past_step

abbrev pub past_statements : List Stmt → ℕ
past_statements ss = greatest (map past_stmt ss)

abbrev pub past_branches : List (Vec Stmt Global) → ℕ
past_branches bs = greatest (map (λ (b : Vec Stmt Global). past_statements b.items) bs)

abbrev pub past_start : Start → ℕ
past_start start.Unset = 0
past_start (start.Equals e) = e + 1
past_start (start.Among e) = e + 1

abbrev pub past_declaration : Declaration → ℕ
past_declaration d = past_start d.start

abbrev pub past_declarations : List Declaration → ℕ
past_declarations ds = greatest (map past_declaration ds)

abbrev pub past_definition : Definition → ℕ
past_definition d = d.body + 1

abbrev pub past_definitions : List Definition → ℕ
past_definitions ds = greatest (map past_definition ds)

abbrev pub past_macro : Macro → ℕ
past_macro m = past_statements m.body.items

abbrev pub past_procedure : Procedure → ℕ
past_procedure p = max (past_declarations p.params.items) (max (past_declarations p.variables.items) (past_statements p.body.items))

abbrev pub past_process : Process → ℕ
past_process p = max (p.identity + 1) (max (past_declarations p.variables.items) (past_statements p.body.items))

abbrev pub past_main : Main → ℕ
past_main (main.Alone ss) = past_statements ss.items
past_main (main.Processes ps) = greatest (map past_process ps.items)

abbrev pub past_algorithm : Algorithm → ℕ
past_algorithm a =
    max (past_declarations a.globals.items) (max (past_definitions a.definitions.items) (max (greatest (map past_macro a.macros.items)) (max (greatest (map past_procedure a.procedures.items)) (past_main a.main))))
