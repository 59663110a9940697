-- The scope of the written names with more names bound, and what the evaluator sees there.
use Rattle.std.proofs.Common.{◌≡◌, List, [], ◌∷◌, ◌++◌, length, Some, None, Result, Ok, Err, refl, sym, ◌∙◌, arith}
use Rattle.std.specs.Prelude.{OnOk}
use Rattle.std.proofs.lemmas.List.{append-nil}
use Rattle.tla_tree.specs.Tree.{Word}
use Rattle.tla_value.specs.Value.{Value}
use Rattle.tla_value.specs.Limits.{bounded}
use Rattle.tla_value.specs.Meaning.{Env, bind}
use Rattle.tla_value.specs.Definitions.{no_state, scope_of}
use Rattle.tla_value.specs.Defs.{definitions_at}
use Rattle.tla_value.specs.States.{Entries, value_of}
use Rattle.module_tree.specs.Formulas.{self}
use Rattle.pcal_tree.specs.Scope.{bound}
use Rattle.pcal_tree.specs.Program.{Program, Actor}
use Rattle.pcal_tree.specs.Variables.{vars}
use Rattle.action_builder.specs.laws.Ready.{values_of}
use Rattle.action_builder.specs.laws.WrittenScope.{definitions_of, written_env, written_scope, written_part}
use Rattle.eval_scopes.specs.Scopes.{with_words}
use Rattle.step_moves.specs.declared.program.Program as code
use Rattle.step_moves.specs.declared.sight.Sight.{Sight}
use Rattle.step_moves.specs.Programs.{program_at, IsWhole}
use Rattle.step_moves.specs.Sights.{seen_value}
use Rattle.step_moves.proofs.SightLaws.{seen_in_state}
use Rattle.tla_value.specs.declared.stop.EvalStop.{EvalStop}
use Rattle.step_moves.specs.StatesOf.{state_of, HasJust}
use Rattle.step_moves.proofs.StateLaws.{in_memory}
use Rattle.step_moves.specs.ScopeIn.{scope_in, IsScene}

pub words_more : (xs : List Word) (vs : List Value) (x : Word) (v : Value) (e : Env) → length xs ≡ length vs → with_words (xs ++ x ∷ []) (vs ++ v ∷ []) e ≡ bind x v (with_words xs vs e)
words_more [] [] x v e h = refl
words_more [] (w ∷ vs) x v e h = absurd (omega (arith, h))
words_more (y ∷ xs) [] x v e h = absurd (omega (arith, h))
words_more (y ∷ xs) (w ∷ vs) x v e h = words_more xs vs x v (bind y w e) (omega (arith, h))

pub scope_more : (P : Program) (xs : List Word) (vs : List Value) (x : Word) (v : Value) → length xs ≡ length vs → bound x v (scope_in P xs vs) ≡ scope_in P (xs ++ x ∷ []) (vs ++ v ∷ [])
scope_more P xs vs x v h i = record {
  env = λ s. sym (words_more xs vs x v (written_env P [] None (values_of (vars P) s) no_state) h) i;
  part = λ y at s. written_part P y;
  origin = λ y at. at;
}

pub scope_alone : (P : Program) (v : Actor) → v.self ≡ None → written_scope P [] v ≡ scope_in P [] []
scope_alone P v e i = record {
  env = λ s. written_env P [] (e i) (values_of (vars P) s) no_state;
  part = λ y at s. written_part P y;
  origin = λ y at. at;
}

pub scope_process : (P : Program) (v : Actor) (w : Value) → v.self ≡ Some w → written_scope P [] v ≡ scope_in P (self ∷ []) (w ∷ [])
scope_process P v w e i = record {
  env = λ s. written_env P [] (e i) (values_of (vars P) s) no_state;
  part = λ y at s. written_part P y;
  origin = λ y at. at;
}

-- what the evaluator sees of the state
pub seen_scene : (p : code.Program) (m : Entries) (g : Sight) → IsScene p m → g.constants.now ≡ p.constants.now → g.variables.now ≡ m
    → scope_of bounded (seen_value g) (definitions_at p.pool.now p.defs.now) no_state no_state ≡ written_env (program_at p) [] None (values_of (vars (program_at p)) (state_of m)) no_state
seen_scene p m g h c e =
    let P = program_at p in
    seen_in_state p g h.whole c
    ∙ (λ i. scope_of bounded P.constants (sym (append-nil (definitions_of P)) i) (value_of (e i)) no_state)
    ∙ (λ i. scope_of bounded P.constants (definitions_of P ++ []) (in_memory (vars P) m h.names i) no_state)

pub scene_after : (p : code.Program) (m : Entries) (r : Result (Unit {0}) EvalStop) → IsWhole p → OnOk r (HasJust (vars (program_at p)) m) → OnOk r (IsScene p m)
scene_after p m (Ok u) w h = record { whole = w; names = h }
scene_after p m (Err k) w h = tt
