-- The identifiers of a process of the text, over what its expression gives.
use Rattle.std.proofs.Common.{◌≡◌, Vec, Global, Result, Ok, sym, ap, subst, ◌∙◌}
use Rattle.tla_token.specs.declared.place.Place.{Place}
use Rattle.tla_tree.specs.Tree.{root_place}
use Rattle.tla_tree.specs.Pool.{at}
use Rattle.tla_value.specs.declared.stop.EvalStop.{EvalStop}
use Rattle.tla_value.specs.Value.{Value, values_in, Outcome, ◌>>=◌}
use Rattle.tla_value.specs.States.{value_of}
use Rattle.tla_value.specs.Limits.{bounded}
use Rattle.tla_value.specs.Definitions.{no_state, scope_of}
use Rattle.tla_value.specs.Defs.{definitions_at}
use Rattle.pcal_tree.specs.declared.algorithm.Process as declared_process
use Rattle.pcal_tree.specs.InMemory.{process_at}
use Rattle.pcal_tree.specs.Program.{common_env}
use Rattle.pcal_tree.specs.Processes.{one_value, identifiers_of}
use Rattle.value_forms.specs.Gives.{Stops, Gives}
use Rattle.value_forms.proofs.StopLaws.{then_stops}
use Rattle.tla_eval.specs.Parts.{value_at}
use Rattle.step_moves.specs.declared.program.Program as code
use Rattle.step_moves.specs.Programs.{program_at, IsWhole}
use Rattle.step_moves.proofs.SightLaws.{seen_before}

pub gives_then : {X Y Z : Type 0} (view : X → Z) (r : Result X EvalStop) (y : Y) (o : Outcome Y) (go : Y → Outcome Z) → o ≡ Ok y → Gives view r (go y) → Gives view r (o >>= go)
gives_then view r y o go e h = subst (λ u. Gives view r (u >>= go)) (sym e) h

module _ (p : code.Program) (w : IsWhole p) (q : declared_process.Process) where
  -- what the evaluator gives, and what the definition says
  abbrev found : Outcome Value
  found = value_at p.pool.now q.identity (scope_of bounded (value_of p.constants.now) (definitions_at p.pool.now p.defs.now) no_state no_state)

  abbrev meant : Outcome Value
  meant = value_at p.pool.now q.identity (common_env (program_at p) no_state)

  same : found ≡ meant
  same = ap (value_at p.pool.now q.identity) (seen_before p w)

  pub identity_stops : (s : EvalStop) → Stops s found → Stops s (identifiers_of (program_at p) (process_at p.pool.now q))
  identity_stops s h = then_stops s meant (λ v. one_value q.several (root_place (at p.pool.now q.identity)) v) (subst (Stops s) same h)

  pub identity_gives : (r : Result (Vec Value Global) EvalStop) (v : Value) (place : Place) → found ≡ Ok v → root_place (at p.pool.now q.identity) ≡ place
      → Gives (λ (z : Vec Value Global). values_in z.items) r (one_value q.several place v) → Gives (λ (z : Vec Value Global). values_in z.items) r (identifiers_of (program_at p) (process_at p.pool.now q))
  identity_gives r v place e here h =
      gives_then (λ (z : Vec Value Global). values_in z.items) r v meant (λ u. one_value q.several (root_place (at p.pool.now q.identity)) u) (sym same ∙ e)
      (subst (λ (x : Place). Gives (λ (z : Vec Value Global). values_in z.items) r (one_value q.several x v)) (sym here) h)
