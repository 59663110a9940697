-- The items written for a step are true of the step's ends, and fault as the step does.
use Rattle.std.proofs.Common.{◌≡◌, List, true, ◌↔◌, Ok, Err}
use Rattle.tla_tree.specs.Tree.{Word}
use Rattle.tla_value.specs.Meaning.{Env}
use Rattle.tla_value.specs.Value.{TrueExactly}
use Rattle.pcal_tree.specs.Scope.{State}
use Rattle.tla_value.specs.Value.{Trouble, Outcome, IsBad, NotFalse}
use Rattle.pcal_tree.specs.Run.{Has, unlabelled, run}
use Rattle.action_builder.specs.Assigned.{Names}
use Rattle.action_builder.specs.laws.States.{mid, BadSomewhere}
use Rattle.action_builder.specs.laws.Settling.{to_end, Close}
use Rattle.action_builder.specs.laws.Ready.{Readable, holds_on, unlimited}
use Rattle.action_builder.specs.laws.LabelSteps.{LabelStep, prepared_of, items_of, IsPrepared, IsReady, HasOutcome, EndsIn, IsTroubled}
use Rattle.action_builder.proofs.Prepared.{prepared_law}
use Rattle.action_builder.proofs.Items.{items_exactly, items_fit, fit_items, items_stop}

pub close_step : (A : Names) (d : LabelStep) → IsPrepared d → (s t : State) → Close (Has (run (unlimited d.rules) unlabelled (prepared_of d) d.scope to_end (mid s t A))) (HasOutcome A d s t)
close_step A d p s t = prepared_law (unlimited d.rules) d p (mid s t A)

bad_is : (o : Outcome State) → IsBad o → (P : Outcome State → Type 0) → P o → (k : Trouble) × P (Err k)
bad_is (Ok u) h P p = absurd h
bad_is (Err k) h P p = (k, p)

-- where no outcome is trouble, the items are true exactly if the step has a fitting end, else false
pub step_exactly : (d : LabelStep) → IsPrepared d → (U : Readable) (vs : List Word) (env : State → State → Env) (A : Names) → IsReady U vs env A d → (s t : State) → (IsTroubled A d s t → ⊥) → TrueExactly (holds_on vs env (items_of vs A d) s t) (EndsIn A d s t)
step_exactly d p U vs env A r s t fine =
    let c = close_step A d p s t in
    let x = items_exactly d.rules U vs A (prepared_of d) d.scope env r s t (λ k h. let y = c.faults.0 (Err k, tt, h) in fine (bad_is y.0 y.1 (HasOutcome A d s t) y.2)) in
    (x.0, x.1, (λ e. let y = x.2.0 e in (y.0, (c.ends y.0).0 y.1, y.2), λ y. x.2.1 (y.0, (c.ends y.0).1 y.1, y.2)))

-- where the items are true, the step has a fitting end
pub step_fits : (d : LabelStep) → IsPrepared d → (U : Readable) (vs : List Word) (env : State → State → Env) (A : Names) → IsReady U vs env A d → (s t : State) → holds_on vs env (items_of vs A d) s t ≡ Ok true → EndsIn A d s t
step_fits d p U vs env A r s t e =
    let y = items_fit d.rules U vs A (prepared_of d) d.scope env r s t e in
    (y.0, ((close_step A d p s t).ends y.0).0 y.1, y.2)

-- where the step has a fitting end, the items are true or fault
pub fits_step : (d : LabelStep) → IsPrepared d → (U : Readable) (vs : List Word) (env : State → State → Env) (A : Names) → IsReady U vs env A d → (s t : State) → EndsIn A d s t → NotFalse (holds_on vs env (items_of vs A d) s t)
fits_step d p U vs env A r s t y = fit_items d.rules U vs A (prepared_of d) d.scope env r s t (y.0, ((close_step A d p s t).ends y.0).1 y.1, y.2)

-- the items fault for some second state that agrees on A exactly if some outcome is trouble
pub step_stops : (d : LabelStep) → IsPrepared d → (U : Readable) (vs : List Word) (env : State → State → Env) (A : Names) → IsReady U vs env A d → (s t : State) → BadSomewhere A t (holds_on vs env (items_of vs A d) s) ↔ IsTroubled A d s t
step_stops d p U vs env A r s t =
    let c = close_step A d p s t in
    let q = items_stop d.rules U vs A (prepared_of d) d.scope env r s t in (
      λ x. let y = q.0 x in let z = c.faults.0 (Err y.0, tt, y.1) in bad_is z.0 z.1 (HasOutcome A d s t) z.2,
      λ y. let z = c.faults.1 (Err y.0, tt, y.1) in q.1 (bad_is z.0 z.1 (λ o. Has (run (unlimited d.rules) unlabelled (prepared_of d) d.scope to_end (mid s t A)) o) z.2),
    )
