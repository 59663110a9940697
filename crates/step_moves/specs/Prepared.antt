-- Procedures that are prepared: statements and first values by their written names ("A PlusCal User's Manual", section 4, on names in the translation).
use Rattle.std.specs.Prelude.{ℕ, List, [], ◌∷◌, map, Bool, true, false, Option, Some, None, Ok}
use Rattle.tla_token.specs.declared.place.Place.{Place}
use Rattle.tla_tree.specs.Tree.{Word}
use Rattle.tla_value.specs.Value.{Value, Outcome, ◌>>=◌}
use Rattle.tla_value.specs.Order.{seq_from}
use Rattle.pcal_tree.specs.Algorithm.{Start, unset, equals, among, Declaration, Procedure, Process, Main, alone, processes, Routine, procedure_routine, process_routine, alone_routine, numbered, first_procedure, first_process, Statements, then}
use Rattle.pcal_tree.specs.Scope.{State, value_of}
use Rattle.pcal_tree.specs.Run.{Partner}
use Rattle.pcal_tree.specs.Assign.{set_one, set_all}
use Rattle.pcal_tree.specs.Program.{Program, Actor, index, local_index, written}
use Rattle.pcal_tree.specs.Calls.{setting, initial_place, on_stack, argument_settings}
use Rattle.pcal_tree.specs.Variables.{stack, written_all}
use Rattle.action_builder.specs.InitialFormulas.{written_in}
use Rattle.action_builder.specs.laws.WrittenScope.{written_scope}
use Rattle.step_walks.specs.FirstValues.{Evaluation, value_outside, as_written}
use Rattle.step_walks.specs.WrittenCalls.{first_value, called_by}
use Rattle.step_walks.specs.WrittenFlows.{own_statements}

abbrev pub prepared_start : Program → Routine → Start → Start
prepared_start P u unset = unset
prepared_start P u (equals e) = equals (written_in P u e)
prepared_start P u (among e) = among (written_in P u e)

abbrev pub prepared_declaration : Program → Routine → Declaration → Declaration
prepared_declaration P u d = record { name = d.name; start = prepared_start P u d.start }

abbrev pub prepared_declarations : Program → Routine → List Declaration → List Declaration
prepared_declarations P u ds = map (prepared_declaration P u) ds

abbrev pub prepared_procedure : Program → ℕ → Procedure → Procedure
prepared_procedure P n p = record {
  name = p.name;
  params = prepared_declarations P (procedure_routine n p) p.params;
  variables = prepared_declarations P (procedure_routine n p) p.variables;
  body = own_statements P (procedure_routine n p) p.body;
}

abbrev pub prepared_procedures : Program → List Procedure
prepared_procedures P = numbered (prepared_procedure P) (first_procedure P.algorithm) P.algorithm.procedures

-- its set of identifiers, or its one, stays as it is: it is outside of all processes
abbrev pub prepared_process : Program → ℕ → Process → Process
prepared_process P n p = record {
  name = p.name;
  fairness = p.fairness;
  several = p.several;
  identity = p.identity;
  variables = prepared_declarations P (process_routine n p) p.variables;
  body = own_statements P (process_routine n p) p.body;
}

abbrev pub prepared_main : Program → Main → Main
prepared_main P (alone ss) = alone (own_statements P (alone_routine P.algorithm ss) ss)
prepared_main P (processes ps) = processes (numbered (prepared_process P) (first_process P.algorithm) ps)

-- a prepared routine
abbrev pub prepared_routine : Program → Routine → Routine
prepared_routine P u = record {
  number = u.number;
  name = u.name;
  params = prepared_declarations P u u.params;
  variables = prepared_declarations P u u.variables;
  spread = u.spread;
  body = own_statements P u u.body;
  exit = u.exit;
}

-- of expressions that are prepared
abbrev pub as_prepared : Program → Evaluation
as_prepared P = record {
  outside = value_outside P [];
  inside = λ v u e s. value_of P.check e (written_scope P [] v) s;
}

-- a variable's first value is set
abbrev pub started : Evaluation → Program → Actor → Routine → Place → Declaration → State → Outcome State
started E P v p at d s = do
  w ← first_value E v p at d.start s
  set_one P.check (setting (initial_place at d.start) (written P p d.name.word) (local_index v p) w) s

-- a record is put on the stack, and parameters get their arguments
abbrev pub given : Program → Actor → Routine → Place → Value → List Place → List Value → State → Outcome State
given P v p at front places vs s = do
  frames ← on_stack v at s
  new ← P.check at (seq_from (front ∷ frames))
  set_all P.check (setting at stack (index v.self) new ∷ argument_settings (local_index v p) (written_all P p p.params) places vs) s

-- it doesn't begin with a statement that has no label
abbrev pub IsLabelled : Statements → Type 0
IsLabelled (then at st rest) = ⊥
IsLabelled _ = Unit {0}

-- whether there is a procedure to call, and the state after
abbrev pub called_if : Program → Actor → Routine → Place → Option Routine → List Place → List Value → Word → Partner → State → Outcome (Bool × State)
called_if P v u at None places vs l j s = Ok (false, s)
called_if P v u at (Some p) places vs l j s = do
  t ← called_by (as_written P []) P v u at p places vs l j s
  Ok (true, t)
