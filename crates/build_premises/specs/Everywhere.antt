-- What is asked of the parts of statements wherever these stand in a list, in one another, and behind labels ("A PlusCal User's Manual", section 3.2).
use Rattle.tla_tree.specs.Tree.{Word}
use Rattle.pcal_tree.specs.Algorithm.{Name, Assignments, Statement, assign, branch, either, with, while, macro, call, return, Statements, done, then, mark, Branches, no_branches, or}
use Rattle.action_builder.specs.laws.Settling.{EachBind}

-- of the assignments of one statement, of each name of a `with`, of the procedure of a call, and of a `return` and a macro call, where there is one
pub record Parts : Type 1 where
  pub assigns : Assignments → Type 0
  pub binds : Word → Type 0
  pub calls : Name → Type 0
  pub returns : Type 0
  pub macros : Type 0

-- nothing is asked of any
abbrev pub anything : Parts
anything = record { assigns = λ ms. Unit {0}; binds = λ x. Unit {0}; calls = λ p. Unit {0}; returns = Unit {0}; macros = Unit {0} }

abbrev mutual
  pub EverywhereOne : Parts → Statement → Type 0
  EverywhereOne R (assign ms) = R.assigns ms
  EverywhereOne R (branch e a b) = Everywhere R a × Everywhere R b
  EverywhereOne R (either bs) = EverywhereSome R bs
  EverywhereOne R (with bs b) = EachBind R.binds bs × Everywhere R b
  EverywhereOne R (while e b) = Everywhere R b
  EverywhereOne R (macro m ts) = R.macros
  EverywhereOne R (call p ts) = R.calls p
  EverywhereOne R return = R.returns
  EverywhereOne R _ = Unit {0}

  pub Everywhere : Parts → Statements → Type 0
  Everywhere R done = Unit {0}
  Everywhere R (then at st rest) = EverywhereOne R st × Everywhere R rest
  Everywhere R (mark l k rest) = Everywhere R rest

  pub EverywhereSome : Parts → Branches → Type 0
  EverywhereSome R no_branches = Unit {0}
  EverywhereSome R (or b bs) = Everywhere R b × EverywhereSome R bs
