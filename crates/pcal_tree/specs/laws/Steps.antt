-- Words of the laws on steps.
use Rattle.std.specs.Prelude.{◌≡◌, List, [], ◌∷◌, Bool, true, false, ◌||◌}
use Rattle.tla_tree.specs.Tree.{Word}
use Rattle.pcal_tree.specs.Variables.{Agree}
use Rattle.pcal_tree.specs.Algorithm.{Statement, branch, either, with, while, return, Statements, done, then, mark, Branches, no_branches, or, Macro, Algorithm, Routine, main_routines}
use Rattle.pcal_tree.specs.Scope.{State}
use Rattle.pcal_tree.specs.Program.{Program, Actor}
use Rattle.pcal_tree.specs.Processes.{OneOf}
use Rattle.pcal_tree.specs.Step.{Stand, StandsAt}

-- the process is at one place, as where written labels are apart
abbrev pub StandsOnce : Program → State → Actor → Type 0
StandsOnce P s v = (d e : Stand) → StandsAt P s v d → StandsAt P s v e → d ≡ e

-- a statement of the list is a `return`
abbrev mutual
  pub has_return_in : Statement → Bool
  has_return_in (branch e a b) = has_return a || has_return b
  has_return_in (either bs) = has_return_of bs
  has_return_in (with bs b) = has_return b
  has_return_in (while e b) = has_return b
  has_return_in return = true
  has_return_in _ = false

  pub has_return : Statements → Bool
  has_return done = false
  has_return (then at st rest) = has_return_in st || has_return rest
  has_return (mark l k rest) = has_return rest

  pub has_return_of : Branches → Bool
  has_return_of no_branches = false
  has_return_of (or b bs) = has_return b || has_return_of bs

-- each `return` is in a procedure, as the rule on it asks for
pub record ReturnsInProcedures (a : Algorithm) : Type 0 where
  pub macros : (d : Macro) → OneOf d a.macros → has_return d.body ≡ false
  pub main : (u : Routine) → OneOf u (main_routines a a.main) → has_return u.body ≡ false

-- as many states, each of which agrees with its fellow
abbrev pub AgreeAll : List Word → List State → List State → Type 0
AgreeAll xs [] [] = Unit {0}
AgreeAll xs (s ∷ ss) (t ∷ ts) = Agree xs s t × AgreeAll xs ss ts
AgreeAll xs _ _ = ⊥
