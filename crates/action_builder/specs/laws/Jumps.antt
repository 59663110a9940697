-- What is asked of a scope so that the assignments written for jumps, calls and returns do what these do.
use Rattle.std.specs.Prelude.{◌≡◌, List, [], ◌∷◌, codes, Bool, true, false, not, ◌&&◌, nat_eq, bytes_eq, Option, Some, None}
use Rattle.tla_token.specs.declared.place.Place.{Place}
use Rattle.tla_tree.specs.Tree.{Word, Form, name, Each, Tree, node, Trees, no_trees, tree}
use Rattle.tla_value.specs.Standard.{first_of, rest_of, standard_sense}
use Rattle.pcal_tree.specs.Algorithm.{Declaration, Routine, locals, procedure_routines}
use Rattle.tla_value.specs.Value.{Value}
use Rattle.pcal_tree.specs.Scope.{State, put, Scope, value_of}
use Rattle.pcal_tree.specs.Run.{is_return}
use Rattle.pcal_tree.specs.Program.{Program, Actor, index, local_index}
use Rattle.pcal_tree.specs.Variables.{written_all, pc, stack}
use Rattle.pcal_tree.specs.Calls.{initial_value, routine_named}
use Rattle.action_builder.specs.Written.{old_stack}
use Rattle.action_builder.specs.Jumps.{InitialValues}
use Rattle.action_builder.specs.laws.Settling.{Callable}
use Rattle.tla_value.specs.laws.Places.{AgreeButPlaces}
use Rattle.action_builder.specs.laws.Scopes.{StandsAtPath, Inner}

-- pc, the stack and the variables of p are at the process's identifier, and Head and Tail are those of Sequences
pub record RoutineStands (P : Program) (v : Actor) (p : Routine) (sc : Scope) : Type 0 where
  pub pc : StandsAtPath sc (index v.self) pc
  pub stack : StandsAtPath sc (index v.self) stack
  pub own : Each (StandsAtPath sc (local_index v p)) (written_all P p (locals p))
  pub head : (s : State) → (sc.env s).defs (codes "Head") ≡ Some (standard_sense P.check first_of)
  pub tail : (s : State) → (sc.env s).defs (codes "Tail") ≡ Some (standard_sense P.check rest_of)
  pub origin : (x : Word) (at : Place) → sc.origin x at ≡ at

-- the written initial value of each variable of p is the variable's initial value, but for where a fault is
abbrev pub Initials : Program → Actor → Routine → Place → Scope → (Declaration → Tree) → List Declaration → Type 0
Initials P v p at sc initial [] = Unit {0}
Initials P v p at sc initial (d ∷ ds) =
    ((s : State) → AgreeButPlaces (value_of P.check (initial d) sc s) (initial_value P v p at d.start s)) × Initials P v p at sc initial ds

-- an argument for each parameter
abbrev pub as_many : List Word → Trees → Bool
as_many [] no_trees = true
as_many (x ∷ xs) (tree t ts) = as_many xs ts
as_many _ _ = false

-- there is such a procedure, and as many arguments as it has parameters
abbrev pub fitting : Program → Option Routine → Trees → Bool
fitting P None ts = false
fitting P (Some p) ts = as_many (written_all P p p.params) ts

-- no call that is one statement with a `return`
abbrev pub callable : Program → Callable
callable P = record { calls = λ p ts j. not (is_return j) && fitting P (routine_named p.word (procedure_routines P.algorithm)) ts; returns = true }

-- where there are no procedures
abbrev pub no_calls : Callable
no_calls = record { calls = λ p ts j. false; returns = false }

-- x stands nowhere in the tree as a name
abbrev pub is_name : Word → Form → Bool
is_name x (name y) = bytes_eq x y
is_name x _ = false

abbrev mutual
  pub lacks : Word → Tree → Bool
  lacks x (node m at ts) = not (is_name x m) && all_lack x ts

  pub all_lack : Word → Trees → Bool
  all_lack x no_trees = true
  all_lack x (tree t ts) = lacks x t && all_lack x ts

-- also those that are one statement with a `return`; no argument has the name of the old stack
abbrev pub callable_in_pairs : Program → Callable
callable_in_pairs P = record { calls = λ p ts j. fitting P (routine_named p.word (procedure_routines P.algorithm)) ts && all_lack old_stack ts; returns = true }

-- the variables of the routine and of each procedure are at the process's identifier, and initial values are written as they are
pub record RoutinesStand (P : Program) (v : Actor) (u : Routine) (I : InitialValues) (sc : Scope) : Type 0 where
  pub own : RoutineStands P v u sc
  pub called : (x : Word) (p : Routine) → routine_named x (procedure_routines P.algorithm) ≡ Some p → RoutineStands P v p sc
  pub initials : (x : Word) (p : Routine) → routine_named x (procedure_routines P.algorithm) ≡ Some p → (at : Place) → Initials P v p at sc (I.initial p) p.variables

-- also with names of f bound
abbrev pub RoutinesStandWithin : Program → Actor → Routine → InitialValues → (Word → Bool) → Scope → Type 0
RoutinesStandWithin P v u I f sc = (inner : Scope) → Inner f sc inner → RoutinesStand P v u I inner

-- ---- a call that is one statement with a return

-- x is none of the names
abbrev pub Unlike : Word → List Word → Type 0
Unlike x ys = Each (λ y. bytes_eq x y ≡ false) ys

-- each is there once
abbrev pub AllUnlike : List Word → Type 0
AllUnlike [] = Unit {0}
AllUnlike (x ∷ xs) = Unlike x xs × AllUnlike xs

-- the initial value of each variable is the same, whatever pc is and the variables that are not set yet
abbrev pub RestOnEarlier : Program → Actor → Routine → Place → List Declaration → Type 0
RestOnEarlier P v p at [] = Unit {0}
RestOnEarlier P v p at (d ∷ ds) =
    Each (λ x. (w : Value) (s : State) → initial_value P v p at d.start (put x w s) ≡ initial_value P v p at d.start s) (pc ∷ written_all P p (d ∷ ds)) × RestOnEarlier P v p at ds

-- nor does it rest on one of these variables
abbrev pub Unread : Program → Actor → Routine → Place → List Word → List Declaration → Type 0
Unread P v p at xs [] = Unit {0}
Unread P v p at xs (d ∷ ds) = Each (λ x. (w : Value) (s : State) → initial_value P v p at d.start (put x w s) ≡ initial_value P v p at d.start s) xs × Unread P v p at xs ds

-- of a call of p and a return in u: written names are apart, and routines of one number are one
pub record PairStands (P : Program) (v : Actor) (u p : Routine) : Type 0 where
  pub same : nat_eq u.number p.number ≡ true → u ≡ p
  pub pc_of_u : Unlike pc (written_all P u (locals u))
  pub pc_of_p : Unlike pc (written_all P p (locals p))
  pub stack_of_u : Unlike stack (written_all P u (locals u))
  pub stack_of_p : Unlike stack (written_all P p (locals p))
  pub apart : nat_eq u.number p.number ≡ false → Each (λ x. Unlike x (written_all P p (locals p))) (written_all P u (locals u))
  pub once : AllUnlike (written_all P p (locals p))
  pub initials : (at : Place) → RestOnEarlier P v p at p.variables
  pub unread : nat_eq u.number p.number ≡ false → (at : Place) → Unread P v p at (written_all P u (locals u)) p.variables

abbrev pub PairsStand : Program → Actor → Routine → Type 0
PairsStand P v u = (x : Word) (p : Routine) → routine_named x (procedure_routines P.algorithm) ≡ Some p → PairStands P v u p
