-- What limits change: the outcome is that without limits, or says that a limit was passed.
use Rattle.std.proofs.Common.{◌≡◌, Bool, true, false, if◌then◌else◌, List, Option, Some, None, refl, sym, ap, subst, Ok, Err}
use Rattle.tla_token.specs.declared.place.Place.{Place}
use Rattle.tla_tree.specs.Tree.{Word, Tree, Graft}
use Rattle.tla_value.specs.Value.{Value, Outcome, Trouble, fault, over, Sense}
use Rattle.tla_value.specs.Limits.{fits, bounded}
use Rattle.tla_value.specs.Stops.{plain}
use Rattle.tla_value.specs.Meaning.{Env, bind, called, eval}
use Rattle.tla_value.specs.Definitions.{Valuation, Definition, trouble_at, scope_of}
use Rattle.tla_value.specs.Grafts.{read_tree, through}
use Rattle.tla_value.specs.laws.UnderLimits.{Below, SensesBelow, EnvsBelow}
use Rattle.tla_value.proofs.Outcomes.{ok_is}
use Rattle.tla_value.proofs.Joined.{Kin, Same, Checks}
use Rattle.tla_value.proofs.JoinedEval.{Senses}
use Rattle.tla_value.proofs.JoinedScopes.{Envs, bound_both, eval_in, scope_both}

abbrev Past : Trouble → Type 0
Past (fault k p) = ⊥
Past (over p) = Unit {0}

abbrev OrPast : Trouble → Trouble → Type 0
OrPast (fault k p) j = fault k p ≡ j
OrPast (over p) j = Unit {0}

past : (k j : Trouble) → Past k → OrPast k j
past (fault k p) j h = absurd h
past (over p) j h = tt

moved_past : (p q : Place) → p ≡ q → (k j : Trouble) → OrPast k j → OrPast (trouble_at p k) (trouble_at q j)
moved_past p q e (fault k r) j h = λ i. trouble_at (e i) (h i)
moved_past p q e (over r) j h = tt

still_past : (p : Place) (k : Trouble) → Past k → Past (trouble_at p k)
still_past p (fault k r) h = h
still_past p (over r) h = h

-- for a limit that was passed there may be anything
abbrev limited : Kin
limited = record {
  beside = OrPast;
  free = Past;
  place = ◌≡◌;
  self = λ p. refl;
  anything = past;
  faults = λ k p q e i. fault k (e i);
  moved = moved_past;
  free_moved = still_past;
}

err_is : {X : Type 0} {k j : Trouble} → ◌≡◌ {A = Outcome X} (Err k) (Err j) → k ≡ j
err_is e = cc

no_result : {X : Type 0} {x : X} {k : Trouble} → ◌≡◌ {A = Outcome X} (Ok x) (Err k) → ⊥
no_result e = cc

below_is : {X : Type 0} (o o' : Outcome X) → Same limited o o' → Below o o'
below_is (Ok x) (Ok y) h = ap Ok h
below_is (Ok x) (Err j) h = absurd h
below_is (Err (fault k p)) (Ok y) h = absurd h
below_is (Err (fault k p)) (Err j) h = ap Err h
below_is (Err (over p)) o' h = tt

below_of : {X : Type 0} (o o' : Outcome X) → Below o o' → Same limited o o'
below_of (Ok x) (Ok y) h = ok_is h
below_of (Ok x) (Err j) h = absurd (no_result h)
below_of (Err (fault k p)) (Ok y) h = absurd (no_result (sym h))
below_of (Err (fault k p)) (Err j) h = err_is h
below_of (Err (over p)) (Ok y) h = tt
below_of (Err (over p)) (Err j) h = tt

senses_is : (s s' : Sense) → Senses limited s s' → SensesBelow s s'
senses_is s s' h = record { value = below_is _ _ h.value; test = λ p v. below_is _ _ (h.test p p refl v) }

senses_of : (s s' : Sense) → SensesBelow s s' → Senses limited s s'
senses_of s s' h = record {
  value = below_of _ _ h.value;
  test = λ p q at v. below_of _ _ (subst (λ z. Below (s.test p v) (s'.test z v)) at (h.test p v));
}

envs_is : (e e' : Env) → Envs limited e e' → EnvsBelow e e'
envs_is e e' h = record {
  now = λ x at. senses_is _ _ (h.now x at at refl);
  primed = λ x at. senses_is _ _ (h.primed x at at refl);
  defs = λ x at vs. senses_is _ _ (h.defs x at at refl vs);
}

envs_of : (e e' : Env) → EnvsBelow e e' → Envs limited e e'
envs_of e e' h = record {
  now = λ x p q at. senses_of _ _ (subst (λ z. SensesBelow (e.now x p) (e'.now x z)) at (h.now x p));
  primed = λ x p q at. senses_of _ _ (subst (λ z. SensesBelow (e.primed x p) (e'.primed x z)) at (h.primed x p));
  defs = λ x p q at vs. senses_of _ _ (subst (λ z. SensesBelow (called p (e.defs x) vs) (called z (e'.defs x) vs)) at (h.defs x p vs));
}

-- ---- the limits of a run

let_through : (at : Place) (v : Value) (b : Bool) → Same limited (if b then Ok v else Err (over at)) (Ok v)
let_through at v true = refl
let_through at v false = tt

limits : Checks limited bounded plain
limits p q at v = let_through p v (fits v)

pub eval_below : (t : Tree) (e e' : Env) → EnvsBelow e e' → SensesBelow (eval bounded t e) (eval plain t e')
eval_below t e e' h = senses_is _ _ (eval_in limited bounded plain limits t e e' (envs_of e e' h))

pub bind_below : (x : Word) (v : Value) (e e' : Env) → EnvsBelow e e' → EnvsBelow (bind x v e) (bind x v e')
bind_below x v e e' h = envs_is _ _ (bound_both limited x e e' v (envs_of e e' h))

read_below : (o : Option Tree) (x : Word) (at : Place) (e e' : Env) → EnvsBelow e e' → SensesBelow (read_tree bounded o x at e) (read_tree plain o x at e')
read_below (Some t) x at e e' h = eval_below t e e' h
read_below None x at e e' h = h.now x at

pub through_below : (g : Graft) (e e' : Env) → EnvsBelow e e' → EnvsBelow (through bounded g e) (through plain g e')
through_below g e e' h = record { now = λ x at. read_below (g x at) x at e e' h; primed = h.primed; defs = h.defs }

pub scope_below : (k : Valuation) (ds : List Definition) (s t : Valuation) → EnvsBelow (scope_of bounded k ds s t) (scope_of plain k ds s t)
scope_below k ds s t = envs_is _ _ (scope_both limited bounded plain limits k ds s t)
