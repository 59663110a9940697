-- Algorithms in which nothing is primed, behind labels too: what the tokens of an algorithm give of its expressions ("A PlusCal User's Manual", section 3.1: they are of one state).
use Rattle.std.specs.Prelude.{List, [], ◌∷◌}
use Rattle.std.specs.List.{AllByRecursion}
use Rattle.tla_tree.specs.Lexical.{TokenView, Token}
use Rattle.tla_tree.specs.Lexical as tk
use Rattle.tla_tree.specs.Tree.{Tree, Trees, Every, EveryOf}
use Rattle.tla_value.specs.laws.Grafting.{IsUnprimed}
use Rattle.pcal_tree.specs.Algorithm.{Start, unset, equals, among, Declaration, Assignments, no_assignments, assignment, Binds, no_binds, one_of, is, Statement, assign, await, print, assert, skip, branch, either, with, while, goto, macro, call, return, Statements, done, then, mark, Branches, no_branches, or, Definition, Macro, Procedure, Process, Main, alone, processes, Algorithm}

-- ---- tokens

abbrev pub IsBare : TokenView → Type 0
IsBare (tk.mark tk.prime) = ⊥
IsBare k = Unit {0}

abbrev pub AreBare : List Token → Type 0
AreBare [] = Unit {0}
AreBare (t ∷ ts) = IsBare t.kind × AreBare ts

-- ---- expressions

abbrev pub Unprimed : Tree → Type 0
Unprimed e = Every IsUnprimed e

abbrev pub AreUnprimed : Trees → Type 0
AreUnprimed ts = EveryOf IsUnprimed ts

-- ---- statements

abbrev pub SidesUnprimed : Assignments → Type 0
SidesUnprimed no_assignments = Unit {0}
SidesUnprimed (assignment l e ms) = Unprimed l × Unprimed e × SidesUnprimed ms

abbrev pub BindsUnprimed : Binds → Type 0
BindsUnprimed no_binds = Unit {0}
BindsUnprimed (one_of x e bs) = Unprimed e × BindsUnprimed bs
BindsUnprimed (is x e bs) = Unprimed e × BindsUnprimed bs

abbrev mutual
  pub OneUnprimed : Statement → Type 0
  OneUnprimed (assign ms) = SidesUnprimed ms
  OneUnprimed (await e) = Unprimed e
  OneUnprimed (print e) = Unprimed e
  OneUnprimed (assert e) = Unprimed e
  OneUnprimed skip = Unit {0}
  OneUnprimed (branch e a b) = Unprimed e × BodyUnprimed a × BodyUnprimed b
  OneUnprimed (either bs) = SomeUnprimed bs
  OneUnprimed (with bs b) = BindsUnprimed bs × BodyUnprimed b
  OneUnprimed (while e b) = Unprimed e × BodyUnprimed b
  OneUnprimed (goto l) = Unit {0}
  OneUnprimed (macro m ts) = AreUnprimed ts
  OneUnprimed (call p ts) = AreUnprimed ts
  OneUnprimed return = Unit {0}

  pub BodyUnprimed : Statements → Type 0
  BodyUnprimed done = Unit {0}
  BodyUnprimed (then at st rest) = OneUnprimed st × BodyUnprimed rest
  BodyUnprimed (mark l k rest) = BodyUnprimed rest

  pub SomeUnprimed : Branches → Type 0
  SomeUnprimed no_branches = Unit {0}
  SomeUnprimed (or b bs) = BodyUnprimed b × SomeUnprimed bs

-- ---- algorithms

abbrev pub InitialUnprimed : Start → Type 0
InitialUnprimed unset = Unit {0}
InitialUnprimed (equals e) = Unprimed e
InitialUnprimed (among e) = Unprimed e

abbrev pub DeclaredUnprimed : List Declaration → Type 0
DeclaredUnprimed ds = AllByRecursion (λ (d : Declaration). InitialUnprimed d.start) ds

abbrev pub MacroUnprimed : Macro → Type 0
MacroUnprimed m = BodyUnprimed m.body

abbrev pub ProcedureUnprimed : Procedure → Type 0
ProcedureUnprimed p = DeclaredUnprimed p.params × DeclaredUnprimed p.variables × BodyUnprimed p.body

abbrev pub ProcessUnprimed : Process → Type 0
ProcessUnprimed p = Unprimed p.identity × DeclaredUnprimed p.variables × BodyUnprimed p.body

abbrev pub MainUnprimed : Main → Type 0
MainUnprimed (alone b) = BodyUnprimed b
MainUnprimed (processes ps) = AllByRecursion ProcessUnprimed ps

pub record AlgorithmUnprimed (a : Algorithm) : Type 0 where
  pub definitions : AllByRecursion (λ (d : Definition). Unprimed d.body) a.definitions
  pub macros : AllByRecursion MacroUnprimed a.macros
  pub procedures : AllByRecursion ProcedureUnprimed a.procedures
  pub main : MainUnprimed a.main
