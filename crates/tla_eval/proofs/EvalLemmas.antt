-- The evaluator over numbers of a pool, and forms that bind names.
use Rattle.std.proofs.Common.{◌≡◌, ℕ, suc, zero, ◌+◌, ◌≤◌, ◌<◌, List, [], ◌∷◌, ◌++◌, length, refl, sym, ap, ◌∙◌, subst, arith, get_or, take, Option, Ok, Err, Result}
use Rattle.tla_token.specs.declared.place.Place.{Place}
use Rattle.tla_tree.specs.declared.op.Binder.{Binder}
use Rattle.tla_tree.specs.Tree.{Name, Form, Tree, node}
use Rattle.tla_tree.specs.Pool.{at, trees_at, AllBelow}
use Rattle.tla_value.specs.declared.stop.EvalStop.{EvalStop}
use Rattle.tla_value.specs.Value.{Value, Values, Outcome, Sense, ◌>>=◌, in_order}
use Rattle.tla_value.specs.Stops.{members_at}
use Rattle.tla_value.specs.Limits.{bounded}
use Rattle.tla_value.specs.Meaning.{Env, Row, Denotation, part_values, sources, bound_value, at_choices, at_body, gathered, called}
use Rattle.value_forms.specs.Gives.{Tells}
use Rattle.tla_eval.specs.Work.{work, works}
use Rattle.tla_eval.specs.Parts.{den, dens, value_at}
use Rattle.eval_scopes.specs.Choices.{Over, unbound}
use Rattle.eval_visits.specs.Visits.{over, over_sets, rows_at, body_at, whole, visited}
use Rattle.eval_visits.specs.Gathered.{Gathered, start, added}
use Rattle.eval_visits.proofs.VisitLemmas.{choices_are, gathered_is}

pub node_work : (ts : List Tree) (e : ℕ) (m : Form) (p : Place) (is : List ℕ) → at ts e ≡ node m p (trees_at ts is) → work (at ts e) ≡ 9 + works (trees_at ts is)
node_work ts e m p is h = ap work h

pub works-at : (ts : List Tree) (is : List ℕ) (k d : ℕ) → k < length is → work (at ts (get_or is k d)) ≤ works (trees_at ts is)
works-at ts [] k d h = absurd (omega arith)
works-at ts (i ∷ is) zero d h = omega arith
works-at ts (i ∷ is) (suc k) d h = omega (arith, works-at ts is k d (omega arith))

-- ---- the values of the parts of a node

abbrev value_then : Outcome Value → Outcome (List Value) → Outcome (List Value)
value_then o q = o >>= λ v. q >>= λ vs. Ok (v ∷ vs)

-- ---- forms that bind names

-- the sets, and the body behind them
abbrev with_body : Denotation → List Value → List Value × Denotation
with_body d vs = (vs, d)

abbrev in_front : Value → List Value × Denotation → List Value × Denotation
in_front v p = (v ∷ p.0, p.1)

abbrev then_body : Denotation → Outcome (List Value) → Outcome (List Value × Denotation)
then_body d o = o >>= λ vs. Ok (with_body d vs)

abbrev then_front : Outcome Value → Outcome (List Value × Denotation) → Outcome (List Value × Denotation)
then_front o q = o >>= λ v. q >>= λ p. Ok (in_front v p)

one_source : (d : Denotation) (o : Outcome Value) (q : Outcome (List Value)) → then_front o (then_body d q) ≡ then_body d (value_then o q)
one_source d (Ok v) (Ok vs) = refl
one_source d (Ok v) (Err k) = refl
one_source d (Err k) q = refl

sources_are : (ts : List Tree) (at : Place) (groups : List (List Name)) (is : List ℕ) (body : ℕ) (env : Env) → length is ≡ length groups
    → sources at groups (dens ts (is ++ body ∷ [])) env ≡ then_body (den ts body) (part_values (dens ts is) env)
sources_are ts at [] [] body env h = refl
sources_are ts at [] (i ∷ is) body env h = absurd (omega arith)
sources_are ts at (xs ∷ groups) [] body env h = absurd (omega arith)
sources_are ts at (xs ∷ groups) (i ∷ is) body env h =
    ap (then_front (value_at ts i env)) (sources_are ts at groups is body env (omega arith)) ∙ one_source (den ts body) (value_at ts i env) (part_values (dens ts is) env)

-- what the code does: the sets' values, their members, what is gathered, and the check of it
abbrev pub bound_steps : Place → List (List Name) → Outcome (List Value) → (Over → Outcome Gathered) → Outcome Value
bound_steps at groups values gather = values >>= λ vs. over_sets at groups vs >>= λ names. gather names >>= λ g. bounded at (whole g)

abbrev row_steps : Binder → Place → Outcome (List Row) → Outcome Value
row_steps b at o = o >>= λ rs. bounded at (gathered b rs)

abbrev set_steps : Binder → List (List Name) → Place → Env → Denotation → Outcome (List Values) → Outcome Value
set_steps b groups at env d o = o >>= λ ss. row_steps b at (at_choices groups ss (at_body b at d) env)

abbrev source_steps : Binder → List (List Name) → Place → Env → Outcome (List Value × Denotation) → Outcome Value
source_steps b groups at env o = o >>= λ p. set_steps b groups at env p.1 (in_order (members_at at) p.0)

rows_are : (b : Binder) (at : Place) (o : Outcome (List Row)) → row_steps b at o ≡ ((o >>= λ rs. Ok (added (start b) rs)) >>= λ f. bounded at (whole f))
rows_are b at (Ok rs) = ap (bounded at) (sym (gathered_is b rs))
rows_are b at (Err k) = refl

abbrev over_of : List (List Name) → Outcome (List Values) → Outcome Over
over_of groups o = o >>= λ ss. Ok (over groups ss)

abbrev pub gathering : Binder → Place → Denotation → Env → Over → Outcome Gathered
gathering b at d env names = visited (start b) names (body_at b at d) (unbound env)

sets_are : (b : Binder) (groups : List (List Name)) (at : Place) (env : Env) (d : Denotation) (o : Outcome (List Values))
    → set_steps b groups at env d o ≡ (over_of groups o >>= λ names. gathering b at d env names >>= λ f. bounded at (whole f))
sets_are b groups at env d (Ok ss) =
    ap (row_steps b at) (sym (choices_are groups ss b at d env)) ∙ rows_are b at (rows_at (over groups ss) (body_at b at d) (unbound env))
sets_are b groups at env d (Err k) = refl

steps_are : (b : Binder) (groups : List (List Name)) (at : Place) (env : Env) (d : Denotation) (o : Outcome (List Value))
    → source_steps b groups at env (then_body d o) ≡ bound_steps at groups o (gathering b at d env)
steps_are b groups at env d (Ok vs) = sets_are b groups at env d (in_order (members_at at) vs)
steps_are b groups at env d (Err k) = refl

bound_is : (ts : List Tree) (b : Binder) (groups : List (List Name)) (at : Place) (is : List ℕ) (body : ℕ) (env : Env) → length is ≡ length groups
    → bound_value bounded b groups at (dens ts (is ++ body ∷ [])) env ≡ bound_steps at groups (part_values (dens ts is) env) (gathering b at (den ts body) env)
bound_is ts b groups at is body env h =
    ap (source_steps b groups at env) (sources_are ts at groups is body env h) ∙ steps_are b groups at env (den ts body) (part_values (dens ts is) env)

-- ---- the parts of a form that binds names: sets, and the last part is the body

split_last : (is : List ℕ) (n : ℕ) → length is ≡ suc n → is ≡ take n is ++ get_or is n 0 ∷ []
split_last [] n h = absurd (omega arith)
split_last (i ∷ []) zero h = refl
split_last (i ∷ j ∷ is) zero h = absurd (omega arith)
split_last (i ∷ is) (suc n) h = ap (λ l. i ∷ l) (split_last is n (omega arith))

pub take_below : (m : ℕ) (is : List ℕ) (n : ℕ) → AllBelow m is → AllBelow m (take n is)
take_below m is zero h = tt
take_below m [] (suc n) h = tt
take_below m (i ∷ is) (suc n) h = (h.0, take_below m is n h.1)

pub take_works : (ts : List Tree) (is : List ℕ) (n : ℕ) → works (trees_at ts (take n is)) ≤ works (trees_at ts is)
take_works ts is zero = omega arith
take_works ts [] (suc n) = omega arith
take_works ts (i ∷ is) (suc n) = omega (arith, take_works ts is n)

pub take_count : (is : List ℕ) (n : ℕ) → n ≤ length is → length (take n is) ≡ n
take_count is zero h = refl
take_count [] (suc n) h = absurd (omega arith)
take_count (i ∷ is) (suc n) h = omega (arith, take_count is n (omega arith))

abbrev count_of : {X : Type 0} → Outcome (List X) → ℕ
count_of (Ok xs) = length xs
count_of (Err k) = 0

one_longer : (o : Outcome Value) (q : Outcome (List Value)) (vs : List Value) (n : ℕ) → ((ws : List Value) → q ≡ Ok ws → length ws ≡ n) → value_then o q ≡ Ok vs → length vs ≡ suc n
one_longer (Ok v) (Ok ws) vs n k h = omega (arith, k ws refl, ap count_of h)
one_longer (Ok v) (Err e) vs n k h = cc
one_longer (Err e) q vs n k h = cc

pub values_count : (ts : List Tree) (is : List ℕ) (env : Env) (vs : List Value) → part_values (dens ts is) env ≡ Ok vs → length vs ≡ length is
values_count ts [] env vs h = ap count_of (sym h)
values_count ts (i ∷ is) env vs h = one_longer (value_at ts i env) (part_values (dens ts is) env) vs (length is) (λ ws k. values_count ts is env ws k) h

pub bound_parts : (ts : List Tree) (b : Binder) (groups : List (List Name)) (at : Place) (is : List ℕ) (n : ℕ) (env : Env) → length is ≡ suc (length groups) → length is ≡ suc n
    → bound_value bounded b groups at (dens ts is) env ≡ bound_steps at groups (part_values (dens ts (take n is)) env) (gathering b at (den ts (get_or is n 0)) env)
bound_parts ts b groups at is n env h k =
    ap (λ l. bound_value bounded b groups at (dens ts l) env) (split_last is n k)
    ∙ bound_is ts b groups at (take n is) (get_or is n 0) env (omega (arith, take_count is n (omega arith), h, k))

-- ---- a form that binds names has a part for each group, and one more

-- ---- a call of an operator

pub call_tells : (r : Result Value EvalStop) (q : Outcome (List Value)) (at : Place) (o p : Option (Place → List Value → Sense)) (vs : List Value) → q ≡ Ok vs → o ≡ p
    → Tells r (called at p vs).value → Tells r (q >>= λ ws. (called at o ws).value)
call_tells r q at o p vs e d h =
    subst (λ u. Tells r (u >>= λ ws. (called at o ws).value)) (sym e) (subst (λ x. Tells r (called at x vs).value) (sym d) h)
