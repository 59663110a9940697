-- What an algorithm has of the text that spells it: names are identifiers, expressions can be written, left sides begin with a name, and bodies have a
-- statement ("A PlusCal User's Manual", section 3 and its grammars).
use Rattle.std.specs.Prelude.{[], ◌∷◌, is_some}
use Rattle.std.specs.Bool.{IsTrue}
use Rattle.std.specs.List.{AllByRecursion}
use Rattle.tla_tree.specs.Tree.{words}
use Rattle.tla_tree.specs.laws.Writable.{IsIdentifier, IsWritable, AreWritable}
use Rattle.pcal_tree.specs.Algorithm.{Assignments, no_assignments, assignment, Statement, assign, await, print, assert, skip, branch, either, with, while, goto, macro, call, return, Statements, done, then, mark, Branches, no_branches, or, Definition, Macro, Procedure, Process, Main, alone, processes, Algorithm}
use Rattle.pcal_tree.specs.Paths.{root}
use Rattle.translation.specs.laws.WritableAlgorithm.{AreWritableBinds, IsWritableDeclaration, IsStarted}

-- a left side begins with a name
abbrev pub AreTypedAssignments : Assignments → Type 0
AreTypedAssignments no_assignments = Unit {0}
AreTypedAssignments (assignment l e ms) = IsWritable l × IsTrue (is_some (root l)) × IsWritable e × AreTypedAssignments ms

abbrev mutual
  pub IsTypedStatement : Statement → Type 0
  IsTypedStatement (assign ms) = AreTypedAssignments ms
  IsTypedStatement (await e) = IsWritable e
  IsTypedStatement (print e) = IsWritable e
  IsTypedStatement (assert e) = IsWritable e
  IsTypedStatement skip = Unit {0}
  IsTypedStatement (branch e a b) = IsWritable e × AreTypedStatements a × AreTypedStatements b
  IsTypedStatement (either no_branches) = ⊥
  IsTypedStatement (either (or b bs)) = AreTypedStatements b × AreTypedBranches bs
  IsTypedStatement (with bs b) = AreWritableBinds bs × AreTypedStatements b
  IsTypedStatement (while e b) = IsWritable e × AreTypedStatements b
  IsTypedStatement (goto l) = IsIdentifier l
  IsTypedStatement (macro m ts) = IsIdentifier m × AreWritable ts
  IsTypedStatement (call p ts) = IsIdentifier p.word × AreWritable ts
  IsTypedStatement return = Unit {0}

  pub AreTypedStatements : Statements → Type 0
  AreTypedStatements done = Unit {0}
  AreTypedStatements (then at st rest) = IsTypedStatement st × AreTypedStatements rest
  AreTypedStatements (mark l k rest) = IsIdentifier l.word × AreTypedStatements rest

  pub AreTypedBranches : Branches → Type 0
  AreTypedBranches no_branches = Unit {0}
  AreTypedBranches (or b bs) = AreTypedStatements b × AreTypedBranches bs

-- ---- algorithms

abbrev pub IsTypedBody : Statements → Type 0
IsTypedBody b = IsStarted b × AreTypedStatements b

abbrev pub IsTypedDefinition : Definition → Type 0
IsTypedDefinition d = IsIdentifier d.name.word × AllByRecursion IsIdentifier (words d.params) × IsWritable d.body

abbrev pub IsTypedMacro : Macro → Type 0
IsTypedMacro m = IsIdentifier m.name.word × AllByRecursion IsIdentifier (words m.params) × IsTypedBody m.body

abbrev pub IsTypedProcedure : Procedure → Type 0
IsTypedProcedure p = IsIdentifier p.name.word × AllByRecursion IsWritableDeclaration p.params × AllByRecursion IsWritableDeclaration p.variables × IsTypedBody p.body

abbrev pub IsTypedProcess : Process → Type 0
IsTypedProcess p = IsIdentifier p.name.word × IsWritable p.identity × AllByRecursion IsWritableDeclaration p.variables × IsTypedBody p.body

abbrev pub IsTypedMain : Main → Type 0
IsTypedMain (alone b) = IsTypedBody b
IsTypedMain (processes []) = ⊥
IsTypedMain (processes (p ∷ ps)) = AllByRecursion IsTypedProcess (p ∷ ps)

pub record IsTypedAlgorithm (a : Algorithm) : Type 0 where
  pub name : IsIdentifier a.name.word
  pub globals : AllByRecursion IsWritableDeclaration a.globals
  pub definitions : AllByRecursion IsTypedDefinition a.definitions
  pub macros : AllByRecursion IsTypedMacro a.macros
  pub procedures : AllByRecursion IsTypedProcedure a.procedures
  pub main : IsTypedMain a.main
