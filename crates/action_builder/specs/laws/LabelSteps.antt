-- A step from a label, with all that its items are written from; what is asked of it, and what it ends in.
use Rattle.std.specs.Prelude.{List, Bool, Ok, Err}
use Rattle.tla_token.specs.Signs.{is_among}
use Rattle.tla_tree.specs.Tree.{Word}
use Rattle.tla_value.specs.Value.{Trouble, Outcome}
use Rattle.tla_value.specs.Grafts.{owned}
use Rattle.tla_value.specs.Meaning.{Env}
use Rattle.tla_value.specs.laws.Grafting.{In}
use Rattle.module_tree.specs.Module.{Items}
use Rattle.pcal_tree.specs.Algorithm.{Statements}
use Rattle.pcal_tree.specs.Scope.{State, Scope}
use Rattle.pcal_tree.specs.Run.{Has, Rules, run, exit_to}
use Rattle.pcal_tree.specs.laws.Expansion.{Clean, AnyPlace}
use Rattle.action_builder.specs.Assigned.{Names, more, assigned_in}
use Rattle.action_builder.specs.laws.States.{mid, SameOn}
use Rattle.action_builder.specs.laws.Scopes.{own_scope, Inner}
use Rattle.action_builder.specs.Settled.{WrittenJumps, settled}
use Rattle.action_builder.specs.laws.Settling.{Callable, Tidy, DoesAsRules}
use Rattle.action_builder.specs.laws.Ready.{Readable, unlimited, Ready}
use Rattle.action_builder.specs.Written.{write}
use Rattle.action_builder.specs.Prepared.{prepared, none, action_items}

-- ---- steps

pub record LabelStep : Type 0 where
  pub rules : Rules
  pub jumps : WrittenJumps  -- the assignments for jumps, calls and returns
  pub names : Word → Bool  -- those that a `with` may bind
  pub callable : Callable
  pub self : Word
  pub own : Word → Bool  -- the variables that are functions of identifiers
  pub scope : Scope  -- that of the written names
  pub here : Word  -- the label
  pub exit : Word
  pub statements : Statements  -- with written names, and without macro calls

abbrev pub prepared_of : LabelStep → Statements
prepared_of d = prepared d.jumps d.self d.own d.here d.exit d.statements

-- A: the variables that are assigned already; vs: all variables, in the order of `vars`
abbrev pub items_of : List Word → Names → LabelStep → Items
items_of vs A d = write vs A (prepared_of d)

abbrev pub action_of : List Word → LabelStep → Items
action_of vs d = action_items vs (prepared_of d)

-- ---- what is asked of them

-- the assignments for jumps do what M does, what jumps ends its list, and no bound name is self or a variable of the process
pub record Prepares (M : Rules) (d : LabelStep) : Type 0 where
  pub free : AnyPlace d.scope
  pub does : DoesAsRules M d.jumps (Inner d.names (own_scope M.check d.self d.own d.scope)) (In d.names) d.callable
  pub tidy : Tidy (In d.names) d.callable d.statements
  pub clean : Clean M.check (owned d.self d.own) (settled d.jumps d.here d.exit d.statements)

-- its jumps and variables can be written out
abbrev pub IsPrepared : LabelStep → Type 0
IsPrepared d = Prepares (unlimited d.rules) d

-- items can be written for what it then is
abbrev pub IsReady : Readable → List Word → (State → State → Env) → Names → LabelStep → Type 0
IsReady U vs env A d = Ready U vs A (prepared_of d) d.scope env

-- ---- what it ends in

-- an outcome of the statements as they are, by the rules M, in the process's own scope
abbrev pub Stepped : Rules → LabelStep → State → Outcome State → Type 0
Stepped M d s r = Has (run M d.here d.statements (own_scope M.check d.self d.own d.scope) (exit_to M d.exit) s) r

-- without limits, begun where the variables of A have their new values already
abbrev pub HasOutcome : Names → LabelStep → State → State → Outcome State → Type 0
HasOutcome A d s t r = Stepped (unlimited d.rules) d (mid s t A) r

-- it ends in a state that agrees with t on A and on what is assigned
abbrev pub EndsIn : Names → LabelStep → State → State → Type 0
EndsIn A d s t = (u : State) × HasOutcome A d s t (Ok u) × SameOn (more A (assigned_in (prepared_of d))) u t

abbrev pub IsTroubled : Names → LabelStep → State → State → Type 0
IsTroubled A d s t = (k : Trouble) × HasOutcome A d s t (Err k)

-- begun in s, it ends in a state that agrees with t on all variables
abbrev pub StepsTo : List Word → LabelStep → State → State → Type 0
StepsTo vs d s t = (u : State) × HasOutcome none d s s (Ok u) × SameOn (is_among vs) u t

abbrev pub MeetsTrouble : LabelStep → State → Type 0
MeetsTrouble d s = IsTroubled none d s s
