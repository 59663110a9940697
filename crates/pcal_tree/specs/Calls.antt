-- Jumps, calls and returns, and with them the rules of a step ("A PlusCal User's Manual", section 3.4, procedures).
use Rattle.std.specs.Prelude.{List, [], ◌∷◌, ◌++◌, cond, bytes_eq, codes, Option, Some, None, ◌||◌, reverse, nat_eq, Ok, Err}
use Rattle.tla_token.specs.declared.place.Place.{Place}
use Rattle.tla_tree.specs.Tree.{Word, root_place}
use Rattle.tla_value.specs.declared.fault.FaultKind.TheVariants.{NotFunction, EmptySequence}
use Rattle.tla_value.specs.Value.{Value, text, model, fault, Outcome, ◌>>=◌, in_order}
use Rattle.tla_value.specs.Order.{seq_from, record_from}
use Rattle.tla_value.specs.Stops.{sequence_at}
use Rattle.tla_value.specs.Strict.{applied}
use Rattle.pcal_tree.specs.Algorithm.{Start, unset, equals, among, Declaration, Routine, locals, procedure_routines}
use Rattle.pcal_tree.specs.Scope.{State, value_of}
use Rattle.pcal_tree.specs.Assign.{Setting, set_one, set_all}
use Rattle.pcal_tree.specs.Run.{Course, ends, stops, held, Partner, no_partner, goto_partner, return_partner, Rules, with_macros, label_of}
use Rattle.pcal_tree.specs.Program.{Program, Actor, index, local_index, written, read_at, routine_scope}
use Rattle.pcal_tree.specs.Variables.{pc, stack, written_all}

-- ---- labels

-- the value of pc at a label of a routine; Done and Error are labels of all
abbrev pub label_name : Program → Routine → Word → Word
label_name P u l = cond (bytes_eq (codes "Done") l || bytes_eq (codes "Error") l) l (P.naming.label u.number l)

abbrev pub label_value : Program → Routine → Word → Value
label_value P u l = text (label_name P u l)

abbrev pub first_label : Routine → Word
first_label u = label_of u.body u.exit

-- a part of pc, of the stack or of a routine's variable, set to a value
abbrev pub setting : Place → Word → List Value → Value → Setting
setting at x path v = record { place = at; part = record { variable = x; path = path }; value = v }

-- a fault is at the process's name
abbrev pub jumped : Program → Actor → Routine → Word → State → Outcome State
jumped P v u l = set_one P.check (setting v.own.name.place pc (index v.self) (label_value P u l))

-- ---- calls

-- what a variable has that is declared without an initial value
abbrev pub defaultInitValue : Value
defaultInitValue = model (codes "defaultInitValue")

abbrev pub all_read : Place → List Value → List Word → State → Outcome (List Value)
all_read at path xs s = in_order (λ x. read_at at path (s x)) xs

-- the fields of a record on the stack: the procedure, the label to return to, and its parameters and variables
abbrev pub frame_fields : Program → Routine → List Word
frame_fields P p = codes "procedure" ∷ codes "pc" ∷ written_all P p (locals p)

abbrev pub frame : Program → Routine → Value → List Value → Value
frame P p back olds = record_from (frame_fields P p) (text (P.naming.title p.number) ∷ back ∷ olds)

-- the records on a process's stack
abbrev pub on_stack : Actor → Place → State → Outcome (List Value)
on_stack v at s = do
  st ← read_at at (index v.self) (s stack)
  sequence_at at st

-- parameters with the values and places of the arguments
abbrev pub argument_settings : List Value → List Word → List Place → List Value → List Setting
argument_settings path (x ∷ xs) (at ∷ ats) (v ∷ vs) = setting at x path v ∷ argument_settings path xs ats vs
argument_settings path _ _ _ = []

-- a variable's initial value
abbrev pub initial_value : Program → Actor → Routine → Place → Start → State → Outcome Value
initial_value P v p at unset s = Ok defaultInitValue
initial_value P v p at (equals e) s = value_of P.check e (routine_scope P v p) s
initial_value P v p at (among e) s = Err (fault NotFunction at)  -- a procedure's variable has no set

-- where it is set: at its expression, or at the call
abbrev pub initial_place : Place → Start → Place
initial_place at (equals e) = root_place e
initial_place at _ = at

-- variables get their initial values, each reading what was set before
abbrev pub variables_started : Program → Actor → Routine → Place → List Declaration → State → Outcome State
variables_started P v p at [] s = Ok s
variables_started P v p at (d ∷ ds) s = do
  w ← initial_value P v p at d.start s
  u ← set_one P.check (setting (initial_place at d.start) (written P p d.name.word) (local_index v p) w) s
  variables_started P v p at ds u

-- a call of procedure p whose return goes to `back`: the values to keep of p's parameters and variables go on the stack, parameters get the
-- arguments, then variables their initial values, and pc becomes p's first label
abbrev pub entered_keeping : Program → Actor → Place → Value → Routine → List Place → List Value → List Value → State → Outcome State
entered_keeping P v at back p places vs olds s = do
  front ← P.check at (frame P p back olds)
  frames ← on_stack v at s
  new ← P.check at (seq_from (front ∷ frames))
  t ← set_all P.check (setting at stack (index v.self) new ∷ argument_settings (local_index v p) (written_all P p p.params) places vs) s
  u ← variables_started P v p at p.variables t
  set_one P.check (setting at pc (index v.self) (label_value P p (first_label p))) u

-- it keeps the values that p's parameters and variables have
abbrev pub entered : Program → Actor → Place → Value → Routine → List Place → List Value → State → Outcome State
entered P v at back p places vs s = do
  olds ← all_read at (local_index v p) (written_all P p (locals p)) s
  entered_keeping P v at back p places vs olds s

-- ---- returns

abbrev pub fields_read : Place → List Word → Value → Outcome (List Value)
fields_read at xs f = in_order (λ x. applied at f (text x)) xs

abbrev pub part_settings : Place → List Value → List Word → List Value → List Setting
part_settings at path (x ∷ xs) (v ∷ vs) = setting at x path v ∷ part_settings at path xs vs
part_settings at path _ _ = []

-- pc and the procedure's parameters and variables as the first record on the stack has them
abbrev pub restored : Program → Actor → Place → Routine → List Value → State → Outcome State
restored P v at p [] s = Err (fault EmptySequence at)
restored P v at p (front ∷ frames) s = do
  label ← applied at front (text pc)
  vs ← fields_read at (written_all P p (locals p)) front
  set_all P.check
      (setting at pc (index v.self) label
      ∷ (part_settings at (local_index v p) (written_all P p (locals p)) vs ++ (setting at stack (index v.self) (seq_from frames) ∷ []))) s

-- a return in procedure p: the first record is taken off the stack
abbrev pub returned : Program → Actor → Place → Routine → State → Outcome State
returned P v at p s = do
  frames ← on_stack v at s
  restored P v at p frames s

-- ---- a call that is one statement with a return

-- the values of p's parameters and variables after a return in u: where p is u itself, those of the record that was taken off
abbrev pub values_left : Program → Actor → Place → Place → Routine → Routine → Value → State → Outcome (List Value)
values_left P v at end u p front t =
    cond (nat_eq u.number p.number) (fields_read end (written_all P u (locals u)) front) (all_read at (local_index v p) (written_all P p (locals p)) t)

-- a return in u at `end`, and then a call of p whose return goes where that return goes
abbrev pub replaced : Program → Actor → Place → Place → Routine → Routine → List Place → List Value → List Value → State → Outcome State
replaced P v at end u p places vs [] s = Err (fault EmptySequence end)
replaced P v at end u p places vs (front ∷ frames) s = do
  back ← applied end front (text pc)
  t ← restored P v end u (front ∷ frames) s
  olds ← values_left P v at end u p front t
  entered_keeping P v at back p places vs olds t

abbrev pub returned_and_entered : Program → Actor → Place → Place → Routine → Routine → List Place → List Value → State → Outcome State
returned_and_entered P v at end u p places vs s = do
  frames ← on_stack v end s
  replaced P v at end u p places vs frames s

-- ---- the rules of a step

abbrev pub finished : Outcome State → Course
finished (Ok t) = ends t
finished (Err k) = stops k

-- a call in routine u, with the label of what follows and its partner
abbrev pub called_with : Program → Actor → Routine → Place → Routine → List Place → List Value → Word → Partner → State → Outcome State
called_with P v u at p places vs l no_partner s = entered P v at (label_value P u l) p places vs s
called_with P v u at p places vs l (goto_partner m) s = entered P v at (label_value P u m) p places vs s
called_with P v u at p places vs l (return_partner end) s = returned_and_entered P v at end.first u p places vs s

abbrev pub entered_at : Program → Actor → Routine → Place → Option Routine → List Place → List Value → Word → Partner → State → Course
entered_at P v u at None places vs l j s = held at  -- no such procedure
entered_at P v u at (Some p) places vs l j s = finished (called_with P v u at p places vs l j s)

abbrev pub routine_named : Word → List Routine → Option Routine
routine_named x [] = None
routine_named x (u ∷ us) = cond (bytes_eq u.name.word x) (Some u) (routine_named x us)

-- of process v in routine u, where there are no macros
abbrev pub rules_without_macros : Program → Actor → Routine → Rules
rules_without_macros P v u = record {
  check = P.check;
  goto = λ l s. finished (jumped P v u l s);
  call = λ at p places vs l j s. entered_at P v u at (routine_named p (procedure_routines P.algorithm)) places vs l j s;
  return = λ at s. finished (returned P v at u s);
  macros = λ here at m ts sc K s. held at;
}

abbrev pub rules_of : Program → Actor → Routine → Rules
rules_of P v u = with_macros (rules_without_macros P v u) (reverse P.algorithm.macros)
