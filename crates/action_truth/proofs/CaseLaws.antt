-- The case of one process: whether it is in a set, and then its action.
use Rattle.std.proofs.Common.{◌≡◌, Bool, true, false, ◌||◌, cond, Ok, Err, refl, sym, ap, subst, ◌∙◌}
use Rattle.tla_token.specs.declared.place.Place.{Place}
use Rattle.tla_tree.specs.Tree.{Tree, root_place}
use Rattle.tla_value.specs.declared.stop.EvalStop.{EvalStop}
use Rattle.tla_value.specs.declared.stop.EvalStop.TheVariants.{Memory, Fault, Limit}
use Rattle.tla_value.specs.Value.{Value, Values, Outcome, or_all, ◌>>=◌}
use Rattle.tla_value.specs.Order.{holds}
use Rattle.tla_value.specs.Limits.{bounded}
use Rattle.tla_value.specs.Meaning.{Env}
use Rattle.tla_value.specs.Stops.{members_at, tested}
use Rattle.tla_value.proofs.Outcomes.{ok_is, bound_ok}
use Rattle.module_tree.specs.Module.{Way}
use Rattle.module_tree.specs.Ways.{call_of}
use Rattle.module_tree.specs.ActionTruth.{Verdict, Acts, value_in, members_in}
use Rattle.module_tree.specs.ProcessPart.{called_for, case_for}
use Rattle.value_forms.specs.Gives.{Stops}
use Rattle.value_forms.proofs.StopLaws.{then_stops, then_later}

kept_stop : {X Y Z : Type 0} (k : EvalStop) (o : Outcome X) (f : X → Y) (go : X → Outcome Z) → Stops k (o >>= λ x. Ok (f x)) → Stops k (o >>= go)
kept_stop Memory o f go h = tt
kept_stop (Fault e p) (Ok x) f go h = cc
kept_stop (Fault e p) (Err j) f go h = cc
kept_stop (Limit p) (Ok x) f go h = cc
kept_stop (Limit p) (Err j) f go h = cc

module _ (env : Env) (acts : Acts) (v : Value) (y : Way) (t : Tree) where
  abbrev go : Values → Verdict
  go vs = cond (holds v vs) (called_for acts v (call_of y)) (Ok false)

  -- its set has no value
  pub case_no_value : (k : EvalStop) → Stops k (value_in bounded env t) → Stops k (case_for bounded env acts v y t)
  case_no_value k h = then_stops k (members_in bounded env t) go (then_stops k (value_in bounded env t) (members_at (root_place t)) h)

  opened : (s : Value) (p : Place) → value_in bounded env t ≡ Ok s → root_place t ≡ p → case_for bounded env acts v y t ≡ (members_at p s >>= go)
  opened s p e at = (λ i. (e i >>= members_at (at i)) >>= go)

  -- it is none
  pub case_no_set : (k : EvalStop) (s : Value) (p : Place) → value_in bounded env t ≡ Ok s → root_place t ≡ p → Stops k (tested p v (Ok s)) → Stops k (case_for bounded env acts v y t)
  case_no_set k s p e at h = subst (Stops k) (sym (opened s p e at)) (kept_stop k (members_at p s) (holds v) go h)

  pub case_is : (s : Value) (p : Place) (b : Bool) → value_in bounded env t ≡ Ok s → root_place t ≡ p → tested p v (Ok s) ≡ Ok b → case_for bounded env acts v y t ≡ cond b (called_for acts v (call_of y)) (Ok false)
  case_is s p b e at h =
      let members = bound_ok (members_at p s) (λ ws. Ok (holds v ws)) b h in
      opened s p e at ∙ ap (λ (o : Outcome Values). o >>= go) members.1 ∙ ap (λ (q : Bool). cond q (called_for acts v (call_of y)) (Ok false)) (ok_is members.2)

-- ---- one of two, both visited

pub first_stops : (k : EvalStop) (v w : Verdict) → Stops k v → Stops k (or_all v w)
first_stops k v w h = then_stops k v (λ a. w >>= λ b. Ok (a || b)) h

pub second_stops : (k : EvalStop) (a : Bool) (v w : Verdict) → v ≡ Ok a → Stops k w → Stops k (or_all v w)
second_stops k a v w e h = then_later k a v (λ x. w >>= λ b. Ok (x || b)) e (then_stops k w (λ b. Ok (a || b)) h)

pub both_found : (a b : Bool) (v w : Verdict) → v ≡ Ok a → w ≡ Ok b → or_all v w ≡ Ok (cond a true b)
both_found a b v w e h = (λ i. or_all (e i) (h i)) ∙ ap Ok (by a)
  where
    by : (x : Bool) → (x || b) ≡ cond x true b
    by true = refl
    by false = refl
