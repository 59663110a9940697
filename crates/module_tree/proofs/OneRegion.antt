-- The units of a translation are those of one translation alone.
use Rattle.std.proofs.Common.{◌≡◌, List, [], ◌∷◌, ◌++◌, map, Option, Some, None, refl, sym, ap, ◌∙◌}
use Rattle.tla_tree.specs.Tree.{Word, Tree}
use Rattle.tla_value.specs.Definitions.{Definition}
use Rattle.module_tree.specs.Module.{Way, Action, Region, RegionUnit, variables_unit, definition_unit, vars_unit, init_unit, action_unit, terminating_unit, next_unit, spec_unit, termination_unit, model_value_units, process_set_of, terminating_of, units_of}

-- both lists begin with as many units of a kind, and then with one of another kind
split_map : {A : Type 0} (g : A → RegionUnit) (back : RegionUnit → Option A) → ((a : A) → back (g a) ≡ Some a)
    → (ds es : List A) (u v : RegionUnit) (rs qs : List RegionUnit) → back u ≡ None → back v ≡ None
    → map g ds ++ (u ∷ rs) ≡ map g es ++ (v ∷ qs) → (ds ≡ es) × (u ≡ v) × (rs ≡ qs)
split_map g back is [] [] u v rs qs n o h = (refl, cc, cc)
split_map g back is [] (e ∷ es) u v rs qs n o h = (let k : u ≡ g e = cc in let j : None ≡ Some e = sym n ∙ ap back k ∙ is e in absurd cc)
split_map g back is (d ∷ ds) [] u v rs qs n o h = (let k : g d ≡ v = cc in let j : Some d ≡ None = sym (is d) ∙ ap back k ∙ o in absurd cc)
split_map g back is (d ∷ ds) (e ∷ es) u v rs qs n o h =
    let k : g d ≡ g e = cc in
    let j : Some d ≡ Some e = sym (is d) ∙ ap back k ∙ is e in
    let i : d ≡ e = cc in
    let t : map g ds ++ (u ∷ rs) ≡ map g es ++ (v ∷ qs) = cc in
    let w = split_map g back is ds es u v rs qs n o t in
    ((λ x. i x ∷ w.0 x), w.1, w.2)

abbrev definition_back : RegionUnit → Option Definition
definition_back (definition_unit d) = Some d
definition_back _ = None

abbrev action_back : RegionUnit → Option Action
action_back (action_unit a) = Some a
action_back _ = None

after_constants : (xs ys v w : List Word) (rs qs : List RegionUnit)
    → model_value_units xs ++ (variables_unit v ∷ rs) ≡ model_value_units ys ++ (variables_unit w ∷ qs) → (xs ≡ ys) × (v ≡ w) × (rs ≡ qs)
after_constants [] [] v w rs qs h = (refl, cc, cc)
after_constants [] (y ∷ ys) v w rs qs h = absurd cc
after_constants (x ∷ xs) [] v w rs qs h = absurd cc
after_constants (x ∷ xs) (y ∷ ys) v w rs qs h = (cc, cc, cc)

after_process_set : (x y : Option Tree) (v w : List Tree) (rs qs : List RegionUnit)
    → process_set_of x ++ (init_unit v ∷ rs) ≡ process_set_of y ++ (init_unit w ∷ qs) → (x ≡ y) × (v ≡ w) × (rs ≡ qs)
after_process_set None None v w rs qs h = (refl, cc, cc)
after_process_set None (Some y) v w rs qs h = absurd cc
after_process_set (Some x) None v w rs qs h = absurd cc
after_process_set (Some x) (Some y) v w rs qs h = (cc, cc, cc)

after_actions : (ds es : List Action) (x y : Option Tree) (v w : List Way) (rs qs : List RegionUnit)
    → map action_unit ds ++ (terminating_of x ++ (next_unit v ∷ rs)) ≡ map action_unit es ++ (terminating_of y ++ (next_unit w ∷ qs))
    → (ds ≡ es) × (x ≡ y) × (v ≡ w) × (rs ≡ qs)
after_actions ds es None None v w rs qs h =
    let d = split_map action_unit action_back (λ d. refl) ds es (next_unit v) (next_unit w) rs qs refl refl h in
    (d.0, refl, (let e = d.1 in cc), d.2)
after_actions ds es None (Some y) v w rs qs h =
    let d = split_map action_unit action_back (λ d. refl) ds es (next_unit v) (terminating_unit y) rs (next_unit w ∷ qs) refl refl h in
    absurd (let e = d.1 in cc)
after_actions ds es (Some x) None v w rs qs h =
    let d = split_map action_unit action_back (λ d. refl) ds es (terminating_unit x) (next_unit w) (next_unit v ∷ rs) qs refl refl h in
    absurd (let e = d.1 in cc)
after_actions ds es (Some x) (Some y) v w rs qs h =
    let d = split_map action_unit action_back (λ d. refl) ds es (terminating_unit x) (terminating_unit y) (next_unit v ∷ rs) (next_unit w ∷ qs) refl refl h in
    (d.0, (let e = d.1 in cc), (let e = d.2 in cc), (let e = d.2 in cc))

abbrev last_units : Region → List RegionUnit
last_units r = spec_unit r.fairness ∷ termination_unit r.termination ∷ []

abbrev from_actions : Region → List RegionUnit
from_actions r = map action_unit r.actions ++ (terminating_of r.ended ++ (next_unit r.next ∷ last_units r))

abbrev from_process_set : Region → List RegionUnit
from_process_set r = process_set_of r.process_set ++ (init_unit r.init ∷ from_actions r)

abbrev from_definitions : Region → List RegionUnit
from_definitions r = map definition_unit r.definitions ++ (vars_unit r.vars ∷ from_process_set r)

pub one_region : (r q : Region) → units_of r ≡ units_of q → r ≡ q
one_region r q h =
    let a = after_constants r.model_values q.model_values r.variables q.variables (from_definitions r) (from_definitions q) h in
    let b = split_map definition_unit definition_back (λ d. refl) r.definitions q.definitions (vars_unit r.vars) (vars_unit q.vars) (from_process_set r) (from_process_set q) refl refl a.2 in
    let c = after_process_set r.process_set q.process_set r.init q.init (from_actions r) (from_actions q) b.2 in
    let d = after_actions r.actions q.actions r.ended q.ended r.next q.next (last_units r) (last_units q) c.2 in
    let vars : r.vars ≡ q.vars = (let e = b.1 in cc) in
    let tail = d.3 in
    let fairness : r.fairness ≡ q.fairness = cc in
    let termination : r.termination ≡ q.termination = cc in
    λ i. record {
      model_values = a.0 i;
      variables = a.1 i;
      definitions = b.0 i;
      vars = vars i;
      process_set = c.0 i;
      init = c.1 i;
      actions = d.0 i;
      ended = d.1 i;
      next = d.2 i;
      fairness = fairness i;
      termination = termination i;
    }
