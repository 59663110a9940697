-- The arms of a CASE, one after the other.
use Rattle.std.proofs.Common.{◌≡◌, ℕ, suc, ◌+◌, ◌<◌, Bool, false, cond, List, ◌∷◌, length, sym, ap, ◌∙◌, Ok, subst, arith, get_or, drop}
use Rattle.std.proofs.Math.Seq.{drop-cons}
use Rattle.std.proofs.Math.ListN.{drop_of_length-le}
use Rattle.tla_token.specs.declared.place.Place.{Place}
use Rattle.tla_tree.specs.Tree.{Tree}
use Rattle.tla_value.specs.declared.stop.EvalStop.{EvalStop}
use Rattle.tla_value.specs.Value.{Value, Outcome, ◌>>=◌}
use Rattle.tla_value.specs.Stops.{misshapen}
use Rattle.tla_value.specs.Meaning.{Env, test, first_arm}
use Rattle.value_forms.specs.Gives.{Stops}
use Rattle.value_forms.proofs.StopLaws.{then_stops}
use Rattle.tla_eval.specs.Parts.{den, dens, value_at}

abbrev arms_left : Bool → Place → List Tree → List ℕ → Env → Outcome Value
arms_left other at ts is env = first_arm other at (dens ts is) env

abbrev one_arm : Outcome Bool → Outcome Value → Outcome Value → Outcome Value
one_arm p a rest = p >>= λ first. cond first a rest

arm_at : (other : Bool) (at : Place) (ts : List Tree) (env : Env) (is : List ℕ) (i d : ℕ) → suc i < length is
    → arms_left other at ts (drop i is) env ≡ one_arm (test at (den ts (get_or is i d)) env) (value_at ts (get_or is (suc i) d) env) (arms_left other at ts (drop (i + 2) is) env)
arm_at other at ts env is i d lt =
    let e : i + 2 ≡ suc (suc i) = omega arith in
    ap (λ l. arms_left other at ts l env) (drop-cons is i d (omega (arith, lt)) ∙ ap (λ l. get_or is i d ∷ l) (drop-cons is (suc i) d lt))
    ∙ ap (λ n. one_arm (test at (den ts (get_or is i d)) env) (value_at ts (get_or is (suc i) d) env) (arms_left other at ts (drop n is) env)) (sym e)

pub arm_passed : (other : Bool) (at : Place) (ts : List Tree) (env : Env) (is : List ℕ) (i d : ℕ) (all : Outcome Value) → suc i < length is → test at (den ts (get_or is i d)) env ≡ Ok false
    → first_arm other at (dens ts (drop i is)) env ≡ all → first_arm other at (dens ts (drop (i + 2) is)) env ≡ all
arm_passed other at ts env is i d all lt h i' =
    sym (ap (λ o. one_arm o (value_at ts (get_or is (suc i) d) env) (arms_left other at ts (drop (i + 2) is) env)) h) ∙ sym (arm_at other at ts env is i d lt) ∙ i'

pub arm_stops : (other : Bool) (at : Place) (ts : List Tree) (env : Env) (is : List ℕ) (i d : ℕ) (s : EvalStop) (all : Outcome Value) → suc i < length is → Stops s (test at (den ts (get_or is i d)) env)
    → first_arm other at (dens ts (drop i is)) env ≡ all → Stops s all
arm_stops other at ts env is i d s all lt h i' =
    subst (Stops s) (sym (arm_at other at ts env is i d lt) ∙ i')
    (then_stops s (test at (den ts (get_or is i d)) env) (λ first. cond first (value_at ts (get_or is (suc i) d) env) (arms_left other at ts (drop (i + 2) is) env)) h)

last_at : (other : Bool) (at : Place) (ts : List Tree) (env : Env) (is : List ℕ) (i d : ℕ) → suc i ≡ length is
    → arms_left other at ts (drop i is) env ≡ cond other (value_at ts (get_or is i d) env) (misshapen at)
last_at other at ts env is i d e =
    ap (λ l. arms_left other at ts l env) (drop-cons is i d (omega (arith, e)) ∙ ap (λ l. get_or is i d ∷ l) (drop_of_length-le is {i = suc i} (omega (arith, e))))

pub last_wrong : (other : Bool) (at : Place) (ts : List Tree) (env : Env) (is : List ℕ) (i d : ℕ) (all : Outcome Value) → suc i ≡ length is → other ≡ false
    → first_arm other at (dens ts (drop i is)) env ≡ all → all ≡ misshapen at
last_wrong other at ts env is i d all e h i' = sym i' ∙ last_at other at ts env is i d e ∙ ap (λ b. cond b (value_at ts (get_or is i d) env) (misshapen at)) h
