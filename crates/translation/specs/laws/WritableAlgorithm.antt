-- What is asked of an algorithm so that its translation can be written and read back: all its names are names and no reserved words, its expressions can be
-- written, and what rules say of labels, of names and of what is assigned twice ("A PlusCal User's Manual", sections 3 and 4).
use Rattle.std.specs.Prelude.{◌≡◌, List, [], ◌∷◌, Bool, true, false, not, ◌||◌, reverse, map, Some}
use Rattle.std.specs.Bool.{IsTrue}
use Rattle.std.specs.List.{AllByRecursion}
use Rattle.tla_token.specs.Signs.{is_among}
use Rattle.tla_token.specs.Words.{is_own}
use Rattle.tla_tree.specs.Tree.{Word, words, Tree}
use Rattle.tla_tree.specs.laws.Writable.{IsIdentifier, IsWritable, AreWritable}
use Rattle.tla_value.specs.Outside.{Outside}
use Rattle.pcal_tree.specs.Algorithm.{Assignments, no_assignments, assignment, Binds, no_binds, one_of, is, Statement, assign, await, print, assert, skip, branch, either, with, while, goto, macro, call, return, Statements, done, then, mark, Branches, no_branches, or, Start, unset, equals, among, Declaration, declares, Definition, Process, Main, alone, processes, Routine, locals, routines, Algorithm}
use Rattle.pcal_tree.specs.Expand.{expanded}
use Rattle.pcal_tree.specs.OffencesLabels.{label_words}
use Rattle.pcal_tree.specs.Paths.{root, clashes}
use Rattle.pcal_tree.specs.Processes.{OneOf}
use Rattle.pcal_tree.specs.Variables.{declared}
use Rattle.pcal_tree.specs.laws.Apart.{FewNames}
use Rattle.action_builder.specs.laws.Jumps.{AllUnlike}

-- ---- statements, with macro calls written out

-- a variable of V, or a subscript or a field of one
abbrev pub IsLeftSide : (Word → Bool) → Tree → Type 0
IsLeftSide V l = IsWritable l × ((x : Word) × (root l ≡ Some x) × (V x ≡ true))

abbrev pub AreWritableAssignments : (Word → Bool) → Assignments → Type 0
AreWritableAssignments V no_assignments = Unit {0}
AreWritableAssignments V (assignment l e ms) = IsLeftSide V l × IsWritable e × AreWritableAssignments V ms

abbrev pub AreWritableBinds : Binds → Type 0
AreWritableBinds no_binds = Unit {0}
AreWritableBinds (one_of x e bs) = IsIdentifier x.word × IsWritable e × AreWritableBinds bs
AreWritableBinds (is x e bs) = IsIdentifier x.word × IsWritable e × AreWritableBinds bs

-- C: the procedures; V: the variables that may be assigned
abbrev mutual
  pub IsWritableStatement : (Word → Bool) → (Word → Bool) → Statement → Type 0
  IsWritableStatement C V (assign ms) = AreWritableAssignments V ms × (clashes ms ≡ false)
  IsWritableStatement C V (await e) = IsWritable e
  IsWritableStatement C V (print e) = IsWritable e
  IsWritableStatement C V (assert e) = IsWritable e
  IsWritableStatement C V skip = Unit {0}
  IsWritableStatement C V (branch e a b) = IsWritable e × AreWritableStatements C V a × AreWritableStatements C V b
  IsWritableStatement C V (either no_branches) = ⊥
  IsWritableStatement C V (either (or b bs)) = AreWritableStatements C V b × AreWritableBranches C V bs
  IsWritableStatement C V (with bs b) = AreWritableBinds bs × AreWritableStatements C V b
  IsWritableStatement C V (while e b) = IsWritable e × AreWritableStatements C V b
  IsWritableStatement C V (goto l) = IsIdentifier l
  IsWritableStatement C V (macro m ts) = ⊥
  IsWritableStatement C V (call p ts) = (C p.word ≡ true) × AreWritable ts
  IsWritableStatement C V return = Unit {0}

  pub AreWritableStatements : (Word → Bool) → (Word → Bool) → Statements → Type 0
  AreWritableStatements C V done = Unit {0}
  AreWritableStatements C V (then at st rest) = IsWritableStatement C V st × AreWritableStatements C V rest
  AreWritableStatements C V (mark l k rest) = IsIdentifier l.word × AreWritableStatements C V rest

  pub AreWritableBranches : (Word → Bool) → (Word → Bool) → Branches → Type 0
  AreWritableBranches C V no_branches = Unit {0}
  AreWritableBranches C V (or b bs) = AreWritableStatements C V b × AreWritableBranches C V bs

-- ---- declarations

abbrev pub IsWritableStart : Start → Type 0
IsWritableStart unset = Unit {0}
IsWritableStart (equals e) = IsWritable e
IsWritableStart (among e) = IsWritable e

abbrev pub IsWritableDeclaration : Declaration → Type 0
IsWritableDeclaration d = IsIdentifier d.name.word × IsWritableStart d.start

-- no definition has a name of the translation
abbrev pub IsWritableDefinition : Definition → Type 0
IsWritableDefinition d = IsIdentifier d.name.word × IsTrue (not (is_own d.name.word)) × AllByRecursion IsIdentifier (words d.params) × IsWritable d.body

-- ---- routines

abbrev pub is_procedure : Algorithm → Word → Bool
is_procedure a x = is_among (map (λ p. p.name.word) a.procedures) x

abbrev pub is_variable : Algorithm → Routine → Word → Bool
is_variable a u x = declares a.globals x || declares (locals u) x

-- there is a statement, or a label
abbrev pub IsStarted : Statements → Type 0
IsStarted done = ⊥
IsStarted _ = Unit {0}

-- some statement has a label
abbrev pub IsLabelled : List Word → Type 0
IsLabelled [] = ⊥
IsLabelled (l ∷ ls) = Unit {0}

abbrev own_of : Routine → List Declaration
own_of u = locals u

pub record IsWritableRoutine (a : Algorithm) (u : Routine) : Type 0 where
  pub name : IsIdentifier u.name.word
  pub locals : AllByRecursion IsWritableDeclaration (own_of u)
  pub once : AllUnlike (declared (own_of u))  -- none is declared twice
  pub labelled : IsLabelled (label_words u.body)
  pub body : AreWritableStatements (is_procedure a) (is_variable a u) (expanded (reverse a.macros) u.body)

-- ---- algorithms

-- the one body, or some processes
abbrev pub IsWritableMain : Main → Type 0
IsWritableMain (alone ss) = Unit {0}
IsWritableMain (processes []) = ⊥
IsWritableMain (processes (p ∷ ps)) = AllByRecursion (λ (q : Process). IsWritable q.identity) (p ∷ ps)

abbrev all_of : Algorithm → List Routine
all_of a = routines a

pub record IsWritableAlgorithm (o : Outside) (a : Algorithm) : Type 0 where
  pub few : FewNames a o
  pub globals : AllByRecursion IsWritableDeclaration a.globals
  pub definitions : AllByRecursion IsWritableDefinition a.definitions
  pub main : IsWritableMain a.main
  pub routines : (u : Routine) → OneOf u (all_of a) → IsWritableRoutine a u
