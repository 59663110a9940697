-- Statements and algorithms measured part by part, in any measure ("A PlusCal User's Manual", section 3).
use Rattle.std.specs.Prelude.{ℕ, zero, suc, List, [], ◌∷◌}
use Rattle.tla_tree.specs.Tree.{Word, Tree, Trees, no_trees, tree}
use Rattle.pcal_tree.specs.Algorithm.{Assignments, no_assignments, assignment, Binds, no_binds, one_of, is, Statement, assign, await, print, assert, skip, branch, either, with, while, goto, macro, call, return, Statements, done, then, mark, Branches, no_branches, or, Start, unset, equals, among, Declaration, Procedure, Process, Main, alone, processes, Algorithm}

pub record Measure (X : Type 0) : Type 0 where
  pub nothing : X
  pub both : X → X → X
  pub expression : Tree → X
  pub left : Tree → X  -- a left side
  pub statement : X → X  -- a statement with these parts
  pub inside : ℕ → X → X  -- parts that are inside so many forms of statements
  pub label : X → X  -- statements with a label before them

-- the measure of a macro call
abbrev pub Calls : Type 0 → Type 0
Calls X = Word → Trees → X

abbrev pub of_trees : {X : Type 0} → Measure X → Trees → X
of_trees M no_trees = M.nothing
of_trees M (tree t ts) = M.both (M.expression t) (of_trees M ts)

abbrev pub of_assignments : {X : Type 0} → Measure X → Assignments → X
of_assignments M no_assignments = M.nothing
of_assignments M (assignment l e ms) = M.both (M.left l) (M.both (M.expression e) (of_assignments M ms))

abbrev pub of_binds : {X : Type 0} → Measure X → Binds → X
of_binds M no_binds = M.nothing
of_binds M (one_of x e bs) = M.both (M.expression e) (of_binds M bs)
of_binds M (is x e bs) = M.both (M.expression e) (of_binds M bs)

-- each bind of a `with` is a form
abbrev pub how_many : Binds → ℕ
how_many no_binds = 0
how_many (one_of x e bs) = suc (how_many bs)
how_many (is x e bs) = suc (how_many bs)

abbrev mutual
  pub of_one : {X : Type 0} → Measure X → Calls X → Statement → X
  of_one M C (assign ms) = M.statement (of_assignments M ms)
  of_one M C (await e) = M.statement (M.expression e)
  of_one M C (print e) = M.statement (M.expression e)
  of_one M C (assert e) = M.statement (M.expression e)
  of_one M C skip = M.statement M.nothing
  of_one M C (branch e a b) = M.statement (M.both (M.expression e) (M.inside 1 (M.both (of_all M C a) (of_all M C b))))
  of_one M C (either bs) = M.statement (M.inside 1 (of_some M C bs))
  of_one M C (with bs b) = M.statement (M.both (of_binds M bs) (M.inside (how_many bs) (of_all M C b)))
  of_one M C (while e b) = M.statement (M.both (M.expression e) (M.inside 1 (of_all M C b)))
  of_one M C (goto l) = M.statement M.nothing
  of_one M C (macro m ts) = C m ts
  of_one M C (call p ts) = M.statement (of_trees M ts)
  of_one M C return = M.statement M.nothing

  pub of_all : {X : Type 0} → Measure X → Calls X → Statements → X
  of_all M C done = M.nothing
  of_all M C (then at st rest) = M.both (of_one M C st) (of_all M C rest)
  of_all M C (mark l k rest) = M.label (of_all M C rest)

  pub of_some : {X : Type 0} → Measure X → Calls X → Branches → X
  of_some M C no_branches = M.nothing
  of_some M C (or b bs) = M.both (of_all M C b) (of_some M C bs)

-- ---- algorithms

abbrev pub of_each : {X A : Type 0} → Measure X → (A → X) → List A → X
of_each M f [] = M.nothing
of_each M f (x ∷ xs) = M.both (f x) (of_each M f xs)

abbrev pub of_start : {X : Type 0} → Measure X → Start → X
of_start M unset = M.nothing
of_start M (equals e) = M.expression e
of_start M (among e) = M.expression e

abbrev pub of_declared : {X : Type 0} → Measure X → List Declaration → X
of_declared M ds = of_each M (λ (d : Declaration). of_start M d.start) ds

abbrev pub of_procedure : {X : Type 0} → Measure X → Calls X → Procedure → X
of_procedure M C p = M.both (of_declared M p.params) (M.both (of_declared M p.variables) (of_all M C p.body))

abbrev pub of_process : {X : Type 0} → Measure X → Calls X → Process → X
of_process M C p = M.both (M.expression p.identity) (M.both (of_declared M p.variables) (of_all M C p.body))

abbrev pub of_main : {X : Type 0} → Measure X → Calls X → Main → X
of_main M C (alone b) = of_all M C b
of_main M C (processes ps) = of_each M (of_process M C) ps

-- of all but its macros
abbrev pub of_algorithm : {X : Type 0} → Measure X → Calls X → Algorithm → X
of_algorithm M C a =
    M.both (of_declared M a.globals) (M.both (of_each M (λ d. M.expression d.body) a.definitions)
    (M.both (of_each M (of_procedure M C) a.procedures) (of_main M C a.main)))
