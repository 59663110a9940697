-- Algorithms that can be printed and read back: their names are names and no reserved words, their expressions can be written in an algorithm, and no list is empty that can't be ("A PlusCal User's Manual", section 3 and appendix A).
use Rattle.std.specs.Prelude.{Bool, true, false, not, List, [], ◌∷◌}
use Rattle.std.specs.Bool.{IsTrue}
use Rattle.std.specs.List.{AllByRecursion}
use Rattle.tla_token.specs.Tokens.{holds_mark}
use Rattle.tla_tree.specs.Tree.{Form, Tree, Trees, node, no_trees, tree, Every}
use Rattle.tla_tree.specs.Tree as expr
use Rattle.tla_tree.specs.laws.Writable.{IsIdentifier, IsWritable}
use Rattle.pcal_tree.specs.Algorithm.{Name, Assignments, no_assignments, assignment, Binds, no_binds, one_of, is, Statement, assign, await, print, assert, skip, branch, either, with, while, goto, macro, call, return, Statements, done, then, mark, Branches, no_branches, or, Start, unset, equals, among, Declaration, Definition, Macro, Procedure, Process, Main, alone, processes, Algorithm}

-- no variable is primed, and no string holds a mark of a comment
abbrev pub is_plain : Form → Bool
is_plain (expr.next x) = false
is_plain (expr.string x) = not (holds_mark x)
is_plain m = true

abbrev pub IsExpression : Tree → Type 0
IsExpression t = IsWritable t × Every (λ m at. IsTrue (is_plain m)) t

abbrev pub AreExpressions : Trees → Type 0
AreExpressions no_trees = Unit {0}
AreExpressions (tree t ts) = IsExpression t × AreExpressions ts

-- a name, or a subscript or field of a left side
abbrev pub is_left_side : Tree → Bool
is_left_side (node (expr.name x) at no_trees) = true
is_left_side (node (expr.strict expr.apply) at (tree l (tree e no_trees))) = is_left_side l
is_left_side (node (expr.strict (expr.select x)) at (tree l no_trees)) = is_left_side l
is_left_side t = false

abbrev pub IsName : Name → Type 0
IsName x = IsIdentifier x.word

-- ---- statements

abbrev pub IsAssignment : Tree → Tree → Type 0
IsAssignment l e = IsTrue (is_left_side l) × IsExpression l × IsExpression e

-- at least one
abbrev pub AreAssignments : Assignments → Type 0
AreAssignments no_assignments = ⊥
AreAssignments (assignment l e no_assignments) = IsAssignment l e
AreAssignments (assignment l e (assignment k f ms)) = IsAssignment l e × AreAssignments (assignment k f ms)

abbrev pub AreBinds : Binds → Type 0
AreBinds no_binds = Unit {0}
AreBinds (one_of x e bs) = IsName x × IsExpression e × AreBinds bs
AreBinds (is x e bs) = IsName x × IsExpression e × AreBinds bs

abbrev mutual
  pub IsStatement : Statement → Type 0
  IsStatement (assign ms) = AreAssignments ms
  IsStatement (await e) = IsExpression e
  IsStatement (print e) = IsExpression e
  IsStatement (assert e) = IsExpression e
  IsStatement skip = Unit {0}
  IsStatement (branch e a b) = IsExpression e × AreStatements a × AreOrNone b
  IsStatement (either no_branches) = ⊥
  IsStatement (either (or a bs)) = AreStatements a × AreBranches bs
  IsStatement (with no_binds a) = ⊥
  IsStatement (with bs a) = AreBinds bs × AreStatements a
  IsStatement (while e a) = IsExpression e × AreStatements a
  IsStatement (goto l) = IsIdentifier l
  IsStatement (macro m ts) = IsIdentifier m × AreExpressions ts
  IsStatement (call x ts) = IsName x × AreExpressions ts
  IsStatement return = Unit {0}

  -- at least one, with a statement behind each label
  pub AreStatements : Statements → Type 0
  AreStatements done = ⊥
  AreStatements (then at st ss) = IsStatement st × AreOrNone ss
  AreStatements (mark l m ss) = IsName l × AreStatements ss

  -- those of an `else`, which may be missing
  pub AreOrNone : Statements → Type 0
  AreOrNone done = Unit {0}
  AreOrNone (then at st ss) = IsStatement st × AreOrNone ss
  AreOrNone (mark l m ss) = IsName l × AreStatements ss

  -- at least one
  pub AreBranches : Branches → Type 0
  AreBranches no_branches = ⊥
  AreBranches (or a no_branches) = AreStatements a
  AreBranches (or a (or b bs)) = AreStatements a × AreBranches (or b bs)

-- ---- declarations

-- with false, `\in` is none of its forms
abbrev pub IsStart : Bool → Start → Type 0
IsStart b unset = Unit {0}
IsStart b (equals e) = IsExpression e
IsStart b (among e) = IsTrue b × IsExpression e

abbrev pub IsDeclaration : Bool → Declaration → Type 0
IsDeclaration b d = IsName d.name × IsStart b d.start

abbrev pub AreDeclarations : Bool → List Declaration → Type 0
AreDeclarations b ds = AllByRecursion (IsDeclaration b) ds

abbrev pub AreNames : List Name → Type 0
AreNames xs = AllByRecursion IsName xs

abbrev pub IsDefinition : Definition → Type 0
IsDefinition d = IsName d.name × AreNames d.params × IsExpression d.body

abbrev pub IsMacro : Macro → Type 0
IsMacro m = IsName m.name × AreNames m.params × AreStatements m.body

abbrev pub IsProcedure : Procedure → Type 0
IsProcedure p = IsName p.name × AreDeclarations false p.params × AreDeclarations false p.variables × AreStatements p.body

abbrev pub IsProcess : Process → Type 0
IsProcess p = IsName p.name × IsExpression p.identity × AreDeclarations true p.variables × AreStatements p.body

-- ---- algorithms

abbrev pub IsMain : Main → Type 0
IsMain (alone ss) = AreStatements ss
IsMain (processes []) = ⊥
IsMain (processes (p ∷ ps)) = IsProcess p × AllByRecursion IsProcess ps

pub record IsPrintable (a : Algorithm) : Type 0 where
  pub name : IsName a.name
  pub globals : AreDeclarations true a.globals
  pub definitions : AllByRecursion IsDefinition a.definitions
  pub macros : AllByRecursion IsMacro a.macros
  pub procedures : AllByRecursion IsProcedure a.procedures
  pub main : IsMain a.main
