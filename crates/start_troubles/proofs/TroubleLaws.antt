-- The trouble of the walk through the variables: the stacks and `pc` meet none.
use Rattle.std.proofs.Common.{◌≡◌, Bool, true, false, Option, None, Result, Ok, Err, IfOk, refl, sym, ap, ◌∙◌}
use Rattle.std.specs.Option.{option_map}
use Rattle.tla_value.specs.declared.stop.EvalStop.{EvalStop}
use Rattle.tla_value.specs.Value.{Outcome, and_then}
use Rattle.value_forms.specs.Gives.{Stops}
use Rattle.run_files.specs.declared.stops.Trouble.{Trouble}
use Rattle.run_files.specs.InMemory.{trouble_of}
use Rattle.step_runner.specs.Explained.{trouble_in}

-- what meets no trouble is left out
abbrev Alike : Outcome Bool → Outcome Bool → Type 0
Alike v w = trouble_in v ≡ trouble_in w

behind : (o v w : Outcome Bool) → Alike v w → Alike (and_then o v) (and_then o w)
behind (Ok true) v w e = e
behind (Ok false) v w e = refl
behind (Err k) v w e = refl

untroubled : (a b : Bool) → trouble_in (and_then (Ok a) (Ok b)) ≡ None
untroubled true b = refl
untroubled false b = refl

last : (o : Outcome Bool) (a b : Bool) → Alike (and_then o (and_then (Ok a) (Ok b))) o
last (Ok true) a b = untroubled a b
last (Ok false) a b = refl
last (Err k) a b = refl

pub trouble_of_three : (a b d : Outcome Bool) (x y : Bool) → trouble_in (and_then a (and_then b (and_then d (and_then (Ok x) (Ok y))))) ≡ trouble_in (and_then a (and_then b d))
trouble_of_three a b d x y =
    behind a (and_then b (and_then d (and_then (Ok x) (Ok y)))) (and_then b d) (behind b (and_then d (and_then (Ok x) (Ok y))) d (last d x y))

-- a walk to its end, or to a value that isn't allowed, meets none
pub none_met : (a b d : Outcome Bool) (x y t : Bool) → and_then a (and_then b d) ≡ Ok t → None ≡ trouble_in (and_then a (and_then b (and_then d (and_then (Ok x) (Ok y)))))
none_met a b d x y t e = sym (trouble_of_three a b d x y ∙ ap trouble_in e)

pub trouble_met : {E : Type 0} (r : Result (Option Trouble) E) (k : EvalStop) (a b d : Outcome Bool) (x y : Bool) → Stops k (and_then a (and_then b d))
    → IfOk r (λ o. (w : Outcome Bool) → Stops k w → option_map trouble_of o ≡ trouble_in w)
    → IfOk r (λ o. option_map trouble_of o ≡ trouble_in (and_then a (and_then b (and_then d (and_then (Ok x) (Ok y))))))
trouble_met (Ok o) k a b d x y h f = f (and_then a (and_then b d)) h ∙ sym (trouble_of_three a b d x y)
trouble_met (Err e) k a b d x y h f = tt
