-- What a process in memory is, said as its steps ask for it: its paths, names, stack and variables.
use Rattle.std.proofs.Common.{◌≡◌, true, false, ◌||◌, bytes_eq, List, Option, Some, None, unwrap_or, Ok, Err, Result, refl, sym, ap, subst, ◌∙◌}
use Rattle.std.specs.Prelude.{OnOk}
use Rattle.std.specs.Option.{is_some, option_copied}
use Rattle.tla_token.specs.declared.place.Place.{Place}
use Rattle.tla_token.specs.Signs.{is_among}
use Rattle.tla_tree.specs.Tree.{Word}
use Rattle.tla_value.specs.declared.stop.EvalStop.{EvalStop}
use Rattle.tla_value.specs.Value.{Value, truth, fault, Outcome, ◌>>=◌}
use Rattle.tla_value.specs.Stops.{sequence_at}
use Rattle.tla_value.specs.States.{Entries, value_of}
use Rattle.pcal_tree.specs.Algorithm.{Routine}
use Rattle.pcal_tree.specs.Program.{Actor, index, read_at}
use Rattle.pcal_tree.specs.Calls.{setting, on_stack}
use Rattle.pcal_tree.specs.Variables.{pc, stack, vars}
use Rattle.value_forms.specs.Gives.{Gives}
use Rattle.step_moves.specs.declared.program.Program as code
use Rattle.step_moves.specs.Programs.{program_at}
use Rattle.step_moves.specs.StatesOf.{state_of}
use Rattle.step_moves.specs.ScopeIn.{IsScene}
use Rattle.step_moves.specs.declared.runner.Runner.{Runner}
use Rattle.step_moves.specs.Runners.{IsReady, IsRunner, fault_without}
use Rattle.step_moves.proofs.SettingLaws.{kept_one, pc_among}

-- ---- answers

-- the first gives x
pub gives_then : {X Y Z : Type 0} (view : Z → Y) (r : Result Z EvalStop) (x : X) (o : Outcome X) (go : X → Outcome Y) → o ≡ Ok x → Gives view r (go x) → Gives view r (o >>= go)
gives_then view r x o go e h = subst (λ u. Gives view r (u >>= go)) (sym e) h

-- ---- pc and the stack

pub pc_setting : (r : Runner) (v : Actor) (u : Routine) → IsReady r → IsRunner r v u → (at : Place) (path : List Value) (label : Value) → path ≡ index (option_copied r.identifier)
    → setting at r.pc.now path label ≡ setting at pc (index v.self) label
pc_setting r v u g h at path label e i = setting at (g.pc_is i) ((e ∙ ap index (sym h.identifier)) i) label

pub scene_one : (p : code.Program) (m n : Entries) (y : Word) → IsScene p m → is_among (vars (program_at p)) y ≡ true → ((x : Word) → is_some (value_of n x) ≡ (bytes_eq y x || is_some (value_of m x))) → IsScene p n
scene_one p m n y s a h = record { whole = s.whole; names = kept_one (vars (program_at p)) y m n s.names a h }

pub scene_if : (p : code.Program) (m n : Entries) (y z : Word) (r : Result (Unit {0}) EvalStop) → IsScene p m → is_among (vars (program_at p)) y ≡ true → z ≡ y
    → OnOk r ((x : Word) → is_some (value_of n x) ≡ (bytes_eq z x || is_some (value_of m x))) → OnOk r (IsScene p n)
scene_if p m n y z (Ok u) s a e h = scene_one p m n z s (ap (is_among (vars (program_at p))) e ∙ a) h
scene_if p m n y z (Err k) s a e h = tt

pub pc_known : (r : Runner) → IsReady r → is_among (vars (program_at r.program)) r.pc.now ≡ true
pc_known r g = ap (is_among (vars (program_at r.program))) g.pc_is ∙ pc_among (program_at r.program)

without : (o : Option Value) (at : Place) → (read_at at (index o) (truth false)) >>= (sequence_at at) ≡ Err (fault (fault_without o) at)
without (Some v) at = refl
without None at = refl

-- where no stack is
pub no_stack : (m : Entries) (v : Actor) (o : Option Value) (at : Place) → v.self ≡ o → value_of m stack ≡ None → on_stack v at (state_of m) ≡ Err (fault (fault_without o) at)
no_stack m v o at e h = (λ i. (read_at at (index (e i)) (unwrap_or (h i) (truth false))) >>= (sequence_at at)) ∙ without o at
