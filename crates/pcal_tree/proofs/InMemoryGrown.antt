-- Algorithms in memory, as the pool grows that their expressions are numbers of.
use Rattle.std.proofs.Common.{◌≡◌, ℕ, ◌≤◌, List, [], ◌∷◌, length, map, Vec, Global, refl, sym, ap, subst, ◌∙◌, arith}
use Rattle.std.specs.formers.vec.Vec.{mapped}
use Rattle.tla_tree.specs.Tree.{Tree}
use Rattle.tla_tree.specs.Tree as expression
use Rattle.tla_tree.specs.Pool.{trees_at, Keeps}
use Rattle.tla_tree.specs.Nesting.{greatest}
use Rattle.pcal_tree.specs.declared.algorithm.Assignment.{Assignment}
use Rattle.pcal_tree.specs.declared.algorithm.Bind.{Bind}
use Rattle.pcal_tree.specs.declared.algorithm.Bind.TheVariants as bind
use Rattle.pcal_tree.specs.declared.algorithm.Simple.{Simple}
use Rattle.pcal_tree.specs.declared.algorithm.Simple.TheVariants as simple
use Rattle.pcal_tree.specs.declared.algorithm.Stmt.{Stmt}
use Rattle.pcal_tree.specs.declared.algorithm.Stmt.TheOpen.{Stmt-F}
use Rattle.pcal_tree.specs.declared.algorithm.Stmt.TheFolds.{fold-roll-Stmt, ind-Stmt, map-Stmt}
use Rattle.pcal_tree.specs.declared.algorithm.Stmt.TheViews.{roll-Stmt}
use Rattle.pcal_tree.specs.declared.algorithm.Start.{Start}
use Rattle.pcal_tree.specs.declared.algorithm.Start.TheVariants as start
use Rattle.pcal_tree.specs.declared.algorithm.Declaration.{Declaration}
use Rattle.pcal_tree.specs.declared.algorithm.Definition.{Definition}
use Rattle.pcal_tree.specs.declared.algorithm.Macro.{Macro}
use Rattle.pcal_tree.specs.declared.algorithm.Procedure.{Procedure}
use Rattle.pcal_tree.specs.declared.algorithm.Process.{Process}
use Rattle.pcal_tree.specs.declared.algorithm.Main.{Main}
use Rattle.pcal_tree.specs.declared.algorithm.Main.TheVariants as main
use Rattle.pcal_tree.specs.declared.algorithm.Algorithm.{Algorithm}
use Rattle.pcal_tree.specs.Algorithm as tree
use Rattle.pcal_tree.specs.InMemory.{span_of, assignments_at, binds_at, simple_at, Before, statements_from, branches_from, stmt_step, stmt_at, statements_at, start_at, declaration_at, declarations_at, definition_at, definitions_at, macro_at, procedure_at, process_at, main_at, algorithm_at, past_numbers, past_assignment, past_binds, past_simple, past_step, past_stmt, past_statements, past_start, past_declaration, past_declarations, past_definition, past_definitions, past_macro, past_procedure, past_process, past_main, past_algorithm}

module _ (ts us : List Tree) (k : Keeps ts us) where
  pub numbers_kept : (es : List ℕ) → past_numbers es ≤ length ts → trees_at us es ≡ trees_at ts es
  numbers_kept [] h = refl
  numbers_kept (e ∷ es) h = λ j. expression.tree (k.same e (omega (arith, h)) j) (numbers_kept es (omega (arith, h)) j)

  pub assignments_at-kept : (ms : List Assignment) → greatest (map past_assignment ms) ≤ length ts → assignments_at us ms ≡ assignments_at ts ms
  assignments_at-kept [] h = refl
  assignments_at-kept (a ∷ ms) h = λ j. tree.assignment (k.same a.left (omega (arith, h)) j) (k.same a.right (omega (arith, h)) j) (assignments_at-kept ms (omega (arith, h)) j)

  pub binds_at-kept : (bs : List Bind) → past_binds bs ≤ length ts → binds_at us bs ≡ binds_at ts bs
  binds_at-kept [] h = refl
  binds_at-kept (bind.Among x e ∷ bs) h = λ j. tree.one_of x (k.same e (omega (arith, h)) j) (binds_at-kept bs (omega (arith, h)) j)
  binds_at-kept (bind.Is x e ∷ bs) h = λ j. tree.is x (k.same e (omega (arith, h)) j) (binds_at-kept bs (omega (arith, h)) j)

  pub simple_at-kept : (s : Simple) → past_simple s ≤ length ts → simple_at us s ≡ simple_at ts s
  simple_at-kept (simple.Assign ms) h = ap tree.assign (assignments_at-kept ms.items h)
  simple_at-kept (simple.Await e) h = ap tree.await (k.same e (omega (arith, h)))
  simple_at-kept (simple.Print e) h = ap tree.print (k.same e (omega (arith, h)))
  simple_at-kept (simple.Assert e) h = ap tree.assert (k.same e (omega (arith, h)))
  simple_at-kept simple.Skip h = refl
  simple_at-kept (simple.Goto x) h = refl
  simple_at-kept (simple.Macro x es) h = ap (tree.macro x) (numbers_kept es.items h)
  simple_at-kept (simple.Call x es) h = ap (tree.call x) (numbers_kept es.items h)
  simple_at-kept simple.Return h = refl

  -- ---- statements: by induction, with the fact beside each statement in a statement
  abbrev IsKept : Stmt → Type 0
  IsKept s = past_stmt s ≤ length ts → stmt_at us s ≡ stmt_at ts s

  abbrev Sure : Type 0
  Sure = (s : Stmt) × IsKept s

  abbrev bare : Stmt-F Sure → Stmt-F Stmt
  bare y = map-Stmt Sure Stmt (λ e. e.0) y

  some_kept : (es : List Sure) → past_statements (map (λ e. e.0) es) ≤ length ts → statements_at us (map (λ e. e.0) es) ≡ statements_at ts (map (λ e. e.0) es)
  some_kept [] h = refl
  some_kept (e ∷ es) h = λ j. e.1 (omega (arith, h)) j (some_kept es (omega (arith, h)) j)

  branches_kept : (bs : List (Vec Sure Global)) → greatest (map (λ (b : Vec Sure Global). past_statements (map (λ e. e.0) b.items)) bs) ≤ length ts
      → map (λ (b : Vec Sure Global). statements_at us (map (λ e. e.0) b.items)) bs ≡ map (λ (b : Vec Sure Global). statements_at ts (map (λ e. e.0) b.items)) bs
  branches_kept [] h = refl
  branches_kept (b ∷ bs) h = λ j. some_kept b.items (omega (arith, h)) j ∷ branches_kept bs (omega (arith, h)) j

  -- a function of the statements of each branch, through the two maps
  each_branch : {X Y : Type 0} (f : Stmt → X) (g : List X → Y) (bs : List (Vec Sure Global))
      → map (λ (b : Vec X Global). g b.items) (map (mapped f) (map (mapped (λ (e : Sure). e.0)) bs)) ≡ map (λ (b : Vec Sure Global). g (map f (map (λ e. e.0) b.items))) bs
  each_branch f g [] = refl
  each_branch f g (b ∷ bs) = λ j. g (map f (map (λ (e : Sure). e.0) b.items)) ∷ each_branch f g bs j

  layer_kept : (y : Stmt-F Sure) → past_step (map-Stmt Stmt ℕ past_stmt (bare y)) ≤ length ts
      → stmt_step us (map-Stmt Stmt Before (stmt_at us) (bare y)) ≡ stmt_step ts (map-Stmt Stmt Before (stmt_at ts) (bare y))
  layer_kept (Stmt-F.Label x m) h = refl
  layer_kept (Stmt-F.Simple s x) h = ap (λ x rest. tree.then (span_of s) x rest) (simple_at-kept x h)
  layer_kept (Stmt-F.If s e a b) h =
      λ j rest. tree.then (span_of s) (tree.branch (k.same e (omega (arith, h)) j) (some_kept a.items (omega (arith, h)) j) (some_kept b.items (omega (arith, h)) j)) rest
  layer_kept (Stmt-F.Either s bs) h =
      let all = branches_kept bs.items (omega (arith, h, ap greatest (each_branch past_stmt greatest bs.items))) in
      ap {B = Before} (λ (l : List tree.Statements) rest. tree.then (span_of s) (tree.either (branches_from l)) rest) (each_branch (stmt_at us) statements_from bs.items ∙ all ∙ sym (each_branch (stmt_at ts) statements_from bs.items))
  layer_kept (Stmt-F.With s bs a) h = λ j rest. tree.then (span_of s) (tree.with (binds_at-kept bs.items (omega (arith, h)) j) (some_kept a.items (omega (arith, h)) j)) rest
  layer_kept (Stmt-F.While s e a) h = λ j rest. tree.then (span_of s) (tree.while (k.same e (omega (arith, h)) j) (some_kept a.items (omega (arith, h)) j)) rest

  pub stmt_at-kept : (s : Stmt) → past_stmt s ≤ length ts → stmt_at us s ≡ stmt_at ts s
  stmt_at-kept = ind-Stmt IsKept (λ x y is. subst (λ z. IsKept (roll-Stmt z)) is (λ h.
      fold-roll-Stmt Before (stmt_step us) (bare y) ∙ layer_kept y (omega (arith, h, fold-roll-Stmt ℕ past_step (bare y))) ∙ sym (fold-roll-Stmt Before (stmt_step ts) (bare y))))

  pub statements_at-kept : (ss : List Stmt) → past_statements ss ≤ length ts → statements_at us ss ≡ statements_at ts ss
  statements_at-kept [] h = refl
  statements_at-kept (s ∷ ss) h = λ j. stmt_at-kept s (omega (arith, h)) j (statements_at-kept ss (omega (arith, h)) j)

  -- ---- declarations
  pub start_at-kept : (s : Start) → past_start s ≤ length ts → start_at us s ≡ start_at ts s
  start_at-kept start.Unset h = refl
  start_at-kept (start.Equals e) h = ap tree.equals (k.same e (omega (arith, h)))
  start_at-kept (start.Among e) h = ap tree.among (k.same e (omega (arith, h)))

  -- each member's, and so the list's
  pub each_kept : {A B : Type 0} (f g : A → B) (past : A → ℕ) (each : (a : A) → past a ≤ length ts → f a ≡ g a) (xs : List A) → greatest (map past xs) ≤ length ts → map f xs ≡ map g xs
  each_kept f g past each [] h = refl
  each_kept f g past each (x ∷ xs) h = λ j. each x (omega (arith, h)) j ∷ each_kept f g past each xs (omega (arith, h)) j

  pub declarations_at-kept : (ds : List Declaration) → past_declarations ds ≤ length ts → declarations_at us ds ≡ declarations_at ts ds
  declarations_at-kept = each_kept (declaration_at us) (declaration_at ts) past_declaration (λ d h j. record { name = d.name; start = start_at-kept d.start h j })

  pub definitions_at-kept : (ds : List Definition) → past_definitions ds ≤ length ts → definitions_at us ds ≡ definitions_at ts ds
  definitions_at-kept = each_kept (definition_at us) (definition_at ts) past_definition (λ d h j. record { name = d.name; params = d.params.items; body = k.same d.body (omega (arith, h)) j })

  -- ---- the algorithm
  macro_kept : (m : Macro) → past_macro m ≤ length ts → macro_at us m ≡ macro_at ts m
  macro_kept m h = λ j. record { name = m.name; params = m.params.items; body = statements_at-kept m.body.items h j }

  procedure_kept : (p : Procedure) → past_procedure p ≤ length ts → procedure_at us p ≡ procedure_at ts p
  procedure_kept p h = λ j. record {
    name = p.name;
    params = declarations_at-kept p.params.items (omega (arith, h)) j;
    variables = declarations_at-kept p.variables.items (omega (arith, h)) j;
    body = statements_at-kept p.body.items (omega (arith, h)) j;
  }

  process_kept : (p : Process) → past_process p ≤ length ts → process_at us p ≡ process_at ts p
  process_kept p h = λ j. record {
    name = p.name;
    fairness = p.fairness;
    several = p.several;
    identity = k.same p.identity (omega (arith, h)) j;
    variables = declarations_at-kept p.variables.items (omega (arith, h)) j;
    body = statements_at-kept p.body.items (omega (arith, h)) j;
  }

  pub main_at-kept : (m : Main) → past_main m ≤ length ts → main_at us m ≡ main_at ts m
  main_at-kept (main.Alone ss) h = ap tree.alone (statements_at-kept ss.items h)
  main_at-kept (main.Processes ps) h = ap tree.processes (each_kept (process_at us) (process_at ts) past_process process_kept ps.items h)

  pub algorithm_at-kept : (a : Algorithm) → past_algorithm a ≤ length ts → algorithm_at us a ≡ algorithm_at ts a
  algorithm_at-kept a h = λ j. record {
    name = a.name;
    fair = a.fair;
    globals = declarations_at-kept a.globals.items (omega (arith, h)) j;
    definitions = definitions_at-kept a.definitions.items (omega (arith, h)) j;
    macros = each_kept (macro_at us) (macro_at ts) past_macro macro_kept a.macros.items (omega (arith, h)) j;
    procedures = each_kept (procedure_at us) (procedure_at ts) past_procedure procedure_kept a.procedures.items (omega (arith, h)) j;
    main = main_at-kept a.main (omega (arith, h)) j;
  }
