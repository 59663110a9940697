-- Initial states: each variable in turn has a value that its declaration allows ("A PlusCal User's Manual", sections 3.3 and 3.4, processes, procedures).
use Rattle.std.specs.Prelude.{◌≡◌, ◌==◌, List, [], ◌∷◌, Bool, true, false, cond, map, Ok, Err}
use Rattle.std.specs.Ordering.{is_eq}
use Rattle.tla_token.specs.declared.place.Place.{Place}
use Rattle.tla_tree.specs.Tree.{Tree}
use Rattle.tla_value.specs.declared.fault.FaultKind.{FaultKind}
use Rattle.tla_value.specs.Value.{Value, fun, Values, no_values, and, values_in, Trouble, fault, Outcome, ◌>>=◌, in_order, and_then}
use Rattle.tla_value.specs.Order.{same, orders, holds, seq_from}
use Rattle.tla_value.specs.Meaning.{eval}
use Rattle.pcal_tree.specs.Algorithm.{Start, unset, equals, among, Declaration, Main, alone, processes, Routine, locals, procedure_routines, main_routines}
use Rattle.tla_value.specs.Stops.{members_at}
use Rattle.pcal_tree.specs.Scope.{State, Scope, value_of}
use Rattle.pcal_tree.specs.Program.{Program, Actor, written, routine_scope, global_scope}
use Rattle.pcal_tree.specs.Calls.{defaultInitValue, first_label, label_value}
use Rattle.pcal_tree.specs.Variables.{pc, stack}
use Rattle.pcal_tree.specs.Processes.{actors, identifiers}

-- ---- one value

-- x = e or x \in S, tested as the formula is; at the variable's name where S is no set
abbrev pub plain_allowed : Program → Scope → Place → Start → State → Value → Outcome Bool
plain_allowed P sc at unset s v = Ok (same v defaultInitValue)
plain_allowed P sc at (equals e) s v = do
  w ← value_of P.check e sc s
  Ok (same v w)
plain_allowed P sc at (among e) s v = (eval P.check e (sc.env s)).test at v

-- ---- a function of identifiers

abbrev pub all_hold : Values → Values → Bool
all_hold no_values ws = true
all_hold (and v vs) ws = cond (holds v ws) (all_hold vs ws) false

-- a function on just these identifiers, with a member for each
abbrev pub has_members : Values → Values → Value → Bool
has_members ids ws (fun ds us) = cond (is_eq (orders ds ids)) (all_hold us ws) false
has_members ids ws _ = false

-- the values of an expression for all processes, before any is compared
abbrev pub values_for : Program → Routine → Tree → State → List Actor → Outcome (List Value)
values_for P u e s vs = in_order (λ v. value_of P.check e (routine_scope P v u) s) vs

-- the function on the identifiers of these processes with these values
abbrev pub function_on : List Actor → List Value → Value
function_on vs ws = fun (values_in (identifiers vs)) (values_in ws)

-- x = e for each process, or x \in S with S evaluated once. The function that is compared is a value that is reached at the variable's name; one
-- with members of S for its values is within limits where S and the set of all identifiers are.
abbrev pub spread_allowed : Program → Routine → List Actor → Place → Start → State → Value → Outcome Bool
spread_allowed P u vs at unset s f = do
  g ← P.check at (function_on vs (map (λ v. defaultInitValue) vs))
  Ok (same f g)
spread_allowed P u vs at (equals e) s f = do
  ws ← values_for P u e s vs
  g ← P.check at (function_on vs ws)
  Ok (same f g)
spread_allowed P u vs at (among e) s f = do
  w ← value_of P.check e (global_scope P) s
  ws ← members_at at w
  Ok (has_members (values_in (identifiers vs)) ws f)

-- ---- all variables

abbrev pub globals_allowed : Program → List Declaration → State → Outcome Bool
globals_allowed P [] s = Ok true
globals_allowed P (d ∷ ds) s =
    and_then (plain_allowed P (global_scope P) d.name.place d.start s (s d.name.word)) (globals_allowed P ds s)

-- a routine's own variables are functions of the identifiers of some processes, or plain, with the first of them for `self`
abbrev pub local_allowed : Program → Routine → Bool → List Actor → Declaration → State → Outcome Bool
local_allowed P u true vs d s = spread_allowed P u vs d.name.place d.start s (s (written P u d.name.word))
local_allowed P u false [] d s = Ok true
local_allowed P u false (v ∷ vs) d s = plain_allowed P (routine_scope P v u) d.name.place d.start s (s (written P u d.name.word))

abbrev pub locals_allowed : Program → Routine → Bool → List Actor → List Declaration → State → Outcome Bool
locals_allowed P u spread vs [] s = Ok true
locals_allowed P u spread vs (d ∷ ds) s = and_then (local_allowed P u spread vs d s) (locals_allowed P u spread vs ds s)

-- whether there are identifiers
abbrev pub is_multiprocess : Main → Bool
is_multiprocess (alone ss) = false
is_multiprocess (processes ps) = true

abbrev pub procedures_allowed : Program → List Actor → List Routine → State → Outcome Bool
procedures_allowed P vs [] s = Ok true
procedures_allowed P vs (u ∷ us) s =
    and_then (locals_allowed P u (is_multiprocess P.algorithm.main) vs (locals u) s) (procedures_allowed P vs us s)

-- the processes that run a routine as their own
abbrev pub running : Routine → List Actor → List Actor
running u [] = []
running u (v ∷ vs) = cond (v.own.number == u.number) (v ∷ running u vs) (running u vs)

abbrev pub processes_allowed : Program → List Actor → List Routine → State → Outcome Bool
processes_allowed P vs [] s = Ok true
processes_allowed P vs (u ∷ us) s = and_then (locals_allowed P u u.spread (running u vs) (locals u) s) (processes_allowed P vs us s)

-- a variable of the translation itself, one value for each process. Such functions of labels and empty stacks are within limits where the set of all
-- identifiers is.
abbrev pub own_allowed : Main → List Actor → (Actor → Value) → Value → Bool
own_allowed (processes ps) vs f w = same w (function_on vs (map f vs))
own_allowed (alone ss) [] f w = true
own_allowed (alone ss) (v ∷ vs) f w = same w (f v)

abbrev pub empty_stack : Value
empty_stack = seq_from []

abbrev pub stack_allowed : Program → List Routine → List Actor → State → Bool
stack_allowed P [] vs s = true
stack_allowed P (u ∷ us) vs s = own_allowed P.algorithm.main vs (λ v. empty_stack) (s stack)

abbrev pub pc_allowed : Program → List Actor → State → Bool
pc_allowed P vs s = own_allowed P.algorithm.main vs (λ v. label_value P v.own (first_label v.own)) (s pc)

-- true, false, or the trouble at or before the first variable whose value isn't allowed: globals, variables of procedures and of processes,
-- and then every stack is empty, and every pc is at its process's first label
abbrev pub allowed : Program → State → Outcome Bool
allowed P s = do
  vs ← actors P
  and_then (globals_allowed P P.algorithm.globals s)
      (and_then (procedures_allowed P vs (procedure_routines P.algorithm) s)
      (and_then (processes_allowed P vs (main_routines P.algorithm P.algorithm.main) s)
      (and_then (Ok (stack_allowed P (procedure_routines P.algorithm) vs s)) (Ok (pc_allowed P vs s)))))

abbrev pub Initial : Program → State → Type 0
Initial P s = allowed P s ≡ Ok true

-- the walk through the variables meets trouble
abbrev pub InitTrouble : Program → State → Trouble → Type 0
InitTrouble P s k = allowed P s ≡ Err k

abbrev pub InitFault : Program → State → FaultKind → Place → Type 0
InitFault P s kind at = InitTrouble P s (fault kind at)
