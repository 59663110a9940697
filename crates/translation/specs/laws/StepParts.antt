-- What is asked of the parts of a step's statements, from the label on, where some variables were assigned since the label; and what statements are that items can be written for.
use Rattle.std.specs.Prelude.{◌≡◌, List, Bool, true, false}
use Rattle.tla_token.specs.Signs.{is_among}
use Rattle.tla_tree.specs.Tree.{Word, Tree, Trees}
use Rattle.pcal_tree.specs.Algorithm.{Name, Assignments, Binds, Statement, assign, await, print, assert, skip, branch, either, with, while, goto, macro, call, return, Statements, done, then, mark, Branches, no_branches, or}
use Rattle.pcal_tree.specs.Run.{Partner, partner_of}
use Rattle.action_builder.specs.Assigned.{Names, more}
use Rattle.action_builder.specs.laws.Ready.{Readable, Settled, Fine, Once}
use Rattle.translation.specs.laws.StepsOnce.{set_by}

-- each where the variables of A are assigned
pub record Asked : Type 1 where
  pub assigns : Names → Assignments → Type 0
  pub reads : Names → Tree → Type 0
  pub binds : Names → Binds → Type 0
  pub goes : Names → Type 0  -- of a jump, and where the step ends
  pub calls : Names → Name → Trees → Partner → Type 0
  pub returns : Names → Type 0

-- what follows it may be in the step
abbrev pub goes_on : Statement → Bool
goes_on (goto l) = false
goes_on (call p ts) = false
goes_on return = false
goes_on _ = true

-- no macro call is left
abbrev mutual
  pub AskedOne : Asked → Names → Statement → Partner → Type 0
  AskedOne R A (assign ms) j = R.assigns A ms
  AskedOne R A (await e) j = R.reads A e
  AskedOne R A (print e) j = R.reads A e
  AskedOne R A (assert e) j = R.reads A e
  AskedOne R A skip j = Unit {0}
  AskedOne R A (branch e a b) j = R.reads A e × AskedIn R A a × AskedIn R A b
  AskedOne R A (either bs) j = AskedSome R A bs
  AskedOne R A (with bs b) j = R.binds A bs × AskedIn R A b
  AskedOne R A (while e b) j = R.reads A e × AskedIn R A b
  AskedOne R A (goto l) j = R.goes A
  AskedOne R A (macro m ts) j = ⊥
  AskedOne R A (call p ts) j = R.calls A p ts j
  AskedOne R A return j = R.returns A

  pub AskedIn : Asked → Names → Statements → Type 0
  AskedIn R A done = R.goes A
  AskedIn R A (then at st rest) = AskedOne R A st (partner_of rest) × (goes_on st ≡ true → AskedIn R (more A (set_by st)) rest)
  AskedIn R A (mark l k rest) = R.goes A

  pub AskedSome : Asked → Names → Branches → Type 0
  AskedSome R A no_branches = Unit {0}
  AskedSome R A (or b bs) = AskedIn R A b × AskedSome R A bs

-- vs: all variables; A: those that are assigned already
pub record Readied (U : Readable) (vs : List Word) (A : Names) (b : Statements) : Type 0 where
  pub settled : Settled (is_among vs) b
  pub fine : Fine U vs A b
  pub once : Once A b
