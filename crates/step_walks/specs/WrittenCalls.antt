-- Calls in which the first values of a procedure's variables are evaluated in some way, and the rules of a step with such calls: among them, the rules by written
-- names ("A PlusCal User's Manual", section 3.4, procedures).
use Rattle.std.specs.Prelude.{List, [], ◌∷◌, Option, Some, None, Ok, Err}
use Rattle.tla_token.specs.declared.place.Place.{Place}
use Rattle.tla_tree.specs.Tree.{Word}
use Rattle.tla_value.specs.declared.fault.FaultKind.TheVariants.{NotFunction, EmptySequence}
use Rattle.tla_value.specs.Value.{Value, text, fault, Outcome, ◌>>=◌}
use Rattle.tla_value.specs.Order.{seq_from}
use Rattle.tla_value.specs.Strict.{applied}
use Rattle.tla_value.specs.Definitions.{Definition}
use Rattle.pcal_tree.specs.Algorithm.{Start, unset, equals, among, Declaration, Routine, locals, procedure_routines}
use Rattle.pcal_tree.specs.Scope.{State}
use Rattle.pcal_tree.specs.Assign.{set_one, set_all}
use Rattle.pcal_tree.specs.Run.{Course, held, Partner, no_partner, goto_partner, return_partner, Rules}
use Rattle.pcal_tree.specs.Program.{Program, Actor, index, local_index, written}
use Rattle.pcal_tree.specs.Calls.{first_label, label_value, setting, defaultInitValue, all_read, frame, on_stack, argument_settings, initial_place, restored, values_left, finished, routine_named, rules_without_macros}
use Rattle.pcal_tree.specs.Variables.{pc, stack, written_all}
use Rattle.step_walks.specs.FirstValues.{Evaluation, as_written}

-- ---- calls

-- of a procedure's variable, which has no set
abbrev pub first_value : Evaluation → Actor → Routine → Place → Start → State → Outcome Value
first_value E v p at unset s = Ok defaultInitValue
first_value E v p at (equals e) s = E.inside v p e s
first_value E v p at (among e) s = Err (fault NotFunction at)

-- each reads what was set before
abbrev pub variables_by : Evaluation → Program → Actor → Routine → Place → List Declaration → State → Outcome State
variables_by E P v p at [] s = Ok s
variables_by E P v p at (d ∷ ds) s = do
  w ← first_value E v p at d.start s
  u ← set_one P.check (setting (initial_place at d.start) (written P p d.name.word) (local_index v p) w) s
  variables_by E P v p at ds u

-- with the values to keep of p's parameters and variables
abbrev pub entered_keeping_by : Evaluation → Program → Actor → Place → Value → Routine → List Place → List Value → List Value → State → Outcome State
entered_keeping_by E P v at back p places vs olds s = do
  front ← P.check at (frame P p back olds)
  frames ← on_stack v at s
  new ← P.check at (seq_from (front ∷ frames))
  t ← set_all P.check (setting at stack (index v.self) new ∷ argument_settings (local_index v p) (written_all P p p.params) places vs) s
  u ← variables_by E P v p at p.variables t
  set_one P.check (setting at pc (index v.self) (label_value P p (first_label p))) u

abbrev pub entered_by : Evaluation → Program → Actor → Place → Value → Routine → List Place → List Value → State → Outcome State
entered_by E P v at back p places vs s = do
  olds ← all_read at (local_index v p) (written_all P p (locals p)) s
  entered_keeping_by E P v at back p places vs olds s

-- a return in u at `end`, and then a call of p whose return goes where that return goes
abbrev pub replaced_by : Evaluation → Program → Actor → Place → Place → Routine → Routine → List Place → List Value → List Value → State → Outcome State
replaced_by E P v at end u p places vs [] s = Err (fault EmptySequence end)
replaced_by E P v at end u p places vs (front ∷ frames) s = do
  back ← applied end front (text pc)
  t ← restored P v end u (front ∷ frames) s
  olds ← values_left P v at end u p front t
  entered_keeping_by E P v at back p places vs olds t

abbrev pub returned_and_entered_by : Evaluation → Program → Actor → Place → Place → Routine → Routine → List Place → List Value → State → Outcome State
returned_and_entered_by E P v at end u p places vs s = do
  frames ← on_stack v end s
  replaced_by E P v at end u p places vs frames s

-- ---- the rules of a step

-- a call in routine u, with the label of what follows and its partner
abbrev pub called_by : Evaluation → Program → Actor → Routine → Place → Routine → List Place → List Value → Word → Partner → State → Outcome State
called_by E P v u at p places vs l no_partner s = entered_by E P v at (label_value P u l) p places vs s
called_by E P v u at p places vs l (goto_partner m) s = entered_by E P v at (label_value P u m) p places vs s
called_by E P v u at p places vs l (return_partner end) s = returned_and_entered_by E P v at end.first u p places vs s

abbrev pub entered_at_by : Evaluation → Program → Actor → Routine → Place → Option Routine → List Place → List Value → Word → Partner → State → Course
entered_at_by E P v u at None places vs l j s = held at  -- no such procedure
entered_at_by E P v u at (Some p) places vs l j s = finished (called_by E P v u at p places vs l j s)

-- jumps and returns evaluate no expression
abbrev pub rules_by : Evaluation → Program → Actor → Routine → Rules
rules_by E P v u = record (rules_without_macros P v u) {
  call = λ at p places vs l j s. entered_at_by E P v u at (routine_named p (procedure_routines P.algorithm)) places vs l j s;
}

-- as rules_without_macros, where first values are prepared: written names, and a process's own variables at its identifier
abbrev pub written_rules : Program → List Definition → Actor → Routine → Rules
written_rules P extra v u = rules_by (as_written P extra) P v u
