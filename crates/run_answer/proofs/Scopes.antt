-- What expressions and left sides give in scopes of which one is under limits.
use Rattle.std.proofs.Common.{◌≡◌, List, [], ◌∷◌, ◌++◌, map, Bool, true, false, cond, bytes_eq, codes, Option, Some, None, Err, refl, subst}
use Rattle.tla_token.specs.declared.place.Place.{Place}
use Rattle.tla_tree.specs.Tree.{Word, Form, name, strict, apply, select, Tree, node, Trees, no_trees, tree, Graft}
use Rattle.tla_value.specs.declared.fault.FaultKind.TheVariants.{NotFunction}
use Rattle.tla_value.specs.Value.{Value, Outcome, fault}
use Rattle.tla_value.specs.Limits.{bounded}
use Rattle.tla_value.specs.Stops.{plain, sense_of, truth_at, members_at}
use Rattle.tla_value.specs.Strict.{changed_at}
use Rattle.tla_value.specs.Meaning.{Env, just, evals, part_values}
use Rattle.tla_value.specs.Definitions.{no_state, or_sense}
use Rattle.tla_value.specs.laws.UnderLimits.{Below, SensesBelow, EnvsBelow}
use Rattle.tla_value.proofs.Below.{eval_below, bind_below, through_below, scope_below}
use Rattle.pcal_tree.specs.Algorithm.{nowhere, Assignments, no_assignments, assignment, declares, Routine, locals}
use Rattle.pcal_tree.specs.Scope.{State, Scope, bound, place_in, place_of, places_of, reach, reach_path, reach_in, origin_in, through, value_of, test, members}
use Rattle.pcal_tree.specs.Assign.{Setting, set_one, set_all, settings, after_assignments}
use Rattle.pcal_tree.specs.Program.{Program, Actor, inner, global_env, globals_on, read_name, read_at, local_index, written, routine_scope, global_scope}
use Rattle.run_answer.specs.LimitedRuns.{under}
use Rattle.run_answer.proofs.Outcomes.{below_same, below_then, reached_below, senses_same}

pub record ScopesBelow (sc sd : Scope) : Type 0 where
  pub env : (s : State) → EnvsBelow (sc.env s) (sd.env s)
  pub part : (x : Word) (at : Place) (s : State) → Below (sc.part x at s) (sd.part x at s)
  pub origin : (x : Word) (at : Place) → sc.origin x at ≡ sd.origin x at

pub bound_scope : (x : Word) (v : Value) (sc sd : Scope) → ScopesBelow sc sd → ScopesBelow (bound x v sc) (bound x v sd)
bound_scope x v sc sd k = record { env = λ s. bind_below x v (sc.env s) (sd.env s) (k.env s); part = k.part; origin = k.origin }

-- ---- places

in_place : (m : Form) (at : Place) (sc sd : Scope) → ScopesBelow sc sd → place_in m at sc ≡ place_in m at sd
in_place (name x) at sc sd k = k.origin x at
in_place _ at sc sd k = refl

pub of_place : (t : Tree) (sc sd : Scope) → ScopesBelow sc sd → place_of t sc ≡ place_of t sd
of_place (node m at ts) sc sd k = in_place m at sc sd k

pub of_places : (ts : Trees) (sc sd : Scope) → ScopesBelow sc sd → places_of ts sc ≡ places_of ts sd
of_places no_trees sc sd k = refl
of_places (tree t ts) sc sd k = λ i. of_place t sc sd k i ∷ of_places ts sc sd k i

-- ---- values

pub value_below : (e : Tree) (sc sd : Scope) (s : State) → ScopesBelow sc sd → Below (value_of bounded e sc s) (value_of plain e sd s)
value_below e sc sd s k = (eval_below e (sc.env s) (sd.env s) (k.env s)).value

at_place : {X : Type 0} (f : Place → Value → Outcome X) (p q : Place) → p ≡ q → (v : Value) → Below (f p v) (f q v)
at_place f p q e v = subst (λ (r : Place). Below (f p v) (f r v)) e (below_same (f p v))

pub test_below : (e : Tree) (sc sd : Scope) (s : State) → ScopesBelow sc sd → Below (test bounded e sc s) (test plain e sd s)
test_below e sc sd s k = below_then (value_of bounded e sc s) (value_of plain e sd s) _ _ (value_below e sc sd s k) (at_place truth_at (place_of e sc) (place_of e sd) (of_place e sc sd k))

pub members_below : (e : Tree) (sc sd : Scope) (s : State) → ScopesBelow sc sd → Below (members bounded e sc s) (members plain e sd s)
members_below e sc sd s k = below_then (value_of bounded e sc s) (value_of plain e sd s) _ _ (value_below e sc sd s k) (at_place members_at (place_of e sc) (place_of e sd) (of_place e sc sd k))

pub values_below : (ts : Trees) (e f : Env) → EnvsBelow e f → Below (part_values (evals bounded ts) e) (part_values (evals plain ts) f)
values_below no_trees e f k = refl
values_below (tree t ts) e f k =
    below_then _ _ _ _ (eval_below t e f k).value (λ v. below_then (part_values (evals bounded ts) e) (part_values (evals plain ts) f) _ _ (values_below ts e f k) (λ vs. refl))

-- ---- left sides

mutual
  pub reach_below : (t : Tree) (sc sd : Scope) (s : State) → ScopesBelow sc sd → Below (reach bounded t sc s) (reach plain t sd s)
  reach_below (node (name x) at ts) sc sd s k = k.part x at s
  reach_below (node (strict apply) at ts) sc sd s k = path_below at ts sc sd s k
  reach_below (node (strict (select a)) at ts) sc sd s k = below_then _ _ _ _ (path_below at ts sc sd s k) (λ p. refl)
  reach_below (node m at ts) sc sd s k = below_same (Err (fault NotFunction nowhere))

  path_below : (at : Place) (ts : Trees) (sc sd : Scope) (s : State) → ScopesBelow sc sd → Below (reach_path bounded at ts sc s) (reach_path plain at ts sd s)
  path_below at no_trees sc sd s k = refl
  path_below at (tree f us) sc sd s k =
      below_then _ _ _ _ (reach_below f sc sd s k) (λ p. below_then _ _ _ _ (values_below us (sc.env s) (sd.env s) (k.env s)) (λ ks. refl))

reach_in_below : (o : Option Tree) (x : Word) (at : Place) (sc sd : Scope) (s : State) → ScopesBelow sc sd → Below (reach_in bounded o x at sc s) (reach_in plain o x at sd s)
reach_in_below (Some t) x at sc sd s k = reach_below t sc sd s k
reach_in_below None x at sc sd s k = k.part x at s

origin_in_same : (o : Option Tree) (x : Word) (at : Place) (sc sd : Scope) → ScopesBelow sc sd → origin_in o x at sc ≡ origin_in o x at sd
origin_in_same (Some t) x at sc sd k = of_place t sc sd k
origin_in_same None x at sc sd k = k.origin x at

pub through_scope : (g : Graft) (sc sd : Scope) → ScopesBelow sc sd → ScopesBelow (through bounded g sc) (through plain g sd)
through_scope g sc sd k = record {
  env = λ s. through_below g (sc.env s) (sd.env s) (k.env s);
  part = λ x at s. reach_in_below (g x at) x at sc sd s k;
  origin = λ x at. origin_in_same (g x at) x at sc sd k;
}

-- ---- assignments

pub one_below : (m : Setting) (s : State) → Below (set_one bounded m s) (set_one plain m s)
one_below m s =
    below_then (changed_at m.place m.part.path m.value (s m.part.variable)) _ _ _ (below_same (changed_at m.place m.part.path m.value (s m.part.variable)))
    (λ w. below_then (bounded m.place w) (plain m.place w) _ _ (reached_below m.place w) (λ u. refl))

pub all_below : (ms : List Setting) (s : State) → Below (set_all bounded ms s) (set_all plain ms s)
all_below [] s = refl
all_below (m ∷ ms) s = below_then (set_one bounded m s) (set_one plain m s) _ _ (one_below m s) (all_below ms)

settings_below : (ms : Assignments) (sc sd : Scope) (s : State) → ScopesBelow sc sd → Below (settings bounded ms sc s) (settings plain ms sd s)
settings_below no_assignments sc sd s k = refl
settings_below (assignment l e ms) sc sd s k =
    below_then _ _ _ _ (reach_below l sc sd s k)
    (λ p. below_then _ _ _ _ (value_below e sc sd s k) (λ v. below_then _ _ _ _ (settings_below ms sc sd s k) (λ rest. refl)))

pub assignments_below : (ms : Assignments) (sc sd : Scope) (s : State) → ScopesBelow sc sd → Below (after_assignments bounded ms sc s) (after_assignments plain ms sd s)
assignments_below ms sc sd s k = below_then _ _ _ _ (settings_below ms sc sd s k) (λ all. all_below all s)

-- ---- the scopes of a program

module _ (P : Program) where
  abbrev B : Program
  B = under bounded P

  abbrev F : Program
  F = under plain P

  globals_below : (s : State) → EnvsBelow (global_env B s) (global_env F s)
  globals_below s = scope_below P.constants (P.outside ++ map inner P.algorithm.definitions) (globals_on s P.algorithm.globals) no_state

  names_below : (v : Actor) (u : Routine) (s : State) (x : Word) (at : Place) → SensesBelow (read_name B v u s x at) (read_name F v u s x at)
  names_below v u s x at = by (bytes_eq (codes "self") x) (declares (locals u) x)
    where
      own : (o : Option Value) → SensesBelow (or_sense o ((global_env B s).now x at)) (or_sense o ((global_env F s).now x at))
      own (Some w) = senses_same (just w)
      own None = (globals_below s).now x at

      by : (b c : Bool)
          → SensesBelow
          (cond b (or_sense v.self ((global_env B s).now x at)) (cond c (sense_of (read_at at (local_index v u) (s (written P u x)))) ((global_env B s).now x at)))
          (cond b (or_sense v.self ((global_env F s).now x at)) (cond c (sense_of (read_at at (local_index v u) (s (written P u x)))) ((global_env F s).now x at)))
      by true c = own v.self
      by false true = senses_same (sense_of (read_at at (local_index v u) (s (written P u x))))
      by false false = (globals_below s).now x at

  pub routine_below : (v : Actor) (u : Routine) → ScopesBelow (routine_scope B v u) (routine_scope F v u)
  routine_below v u = record {
    env = λ s. record { now = names_below v u s; primed = (globals_below s).primed; defs = (globals_below s).defs };
    part = λ x at s. below_same ((routine_scope F v u).part x at s);
    origin = λ x at. refl;
  }

  pub global_below : ScopesBelow (global_scope B) (global_scope F)
  global_below = record {
    env = globals_below;
    part = λ x at s. below_same ((global_scope F).part x at s);
    origin = λ x at. refl;
  }
