-- The text of a translation, in the parts that are written one after another.
use Rattle.std.proofs.Common.{◌≡◌, ℕ, List, [], ◌∷◌, ◌++◌, map, refl, sym, ap, ◌∙◌, append_assoc, append-nil}
use Rattle.std.specs.Prelude.{codes, Option, Some, None}
use Rattle.tla_tree.specs.Tree.{Word, Tree}
use Rattle.module_tree.specs.Module.{Region, RegionUnit, variables_unit, vars_unit, definition_unit, init_unit, action_unit, next_unit, spec_unit, termination_unit, process_set_of, terminating_of, model_value_units, units_of}
use Rattle.module_tree.specs.Ways.{processes_in}
use Rattle.module_tree.specs.Layout.{unit_text, units_text, layout}
use Rattle.module_lines.specs.Apart.{ahead, behind}

units_behind : (n : ℕ) (u : RegionUnit) (us : List RegionUnit) → units_text n (u ∷ us) ≡ unit_text n u ++ behind n us
units_behind n u [] = sym (append-nil (unit_text n u))
units_behind n u (v ∷ us) =
    ap (λ (w : List ℕ). unit_text n u ++ codes "\n" ++ w) (units_behind n v us) ∙ simp append_assoc

pub behind_append : (n : ℕ) (us vs : List RegionUnit) → behind n (us ++ vs) ≡ behind n us ++ behind n vs
behind_append n [] vs = refl
behind_append n (u ∷ us) vs =
    ap (λ (w : List ℕ). codes "\n" ++ unit_text n u ++ w) (behind_append n us vs) ∙ sym (append_assoc (codes "\n" ++ unit_text n u) (behind n us) (behind n vs))

joined : (n : ℕ) (us vs : List RegionUnit) (a w : List ℕ) → behind n us ≡ a → behind n vs ≡ w → behind n (us ++ vs) ≡ a ++ w
joined n us vs a w e g = behind_append n us vs ∙ (λ i. e i ++ g i)

-- only the sets of the processes depend on how many these are
behind_map : {A : Type 0} (n : ℕ) (f : A → RegionUnit) → ((x : A) → unit_text n (f x) ≡ unit_text 0 (f x)) → (xs : List A) → behind n (map f xs) ≡ behind 0 (map f xs)
behind_map n f h [] = refl
behind_map n f h (x ∷ xs) = λ i. codes "\n" ++ h x i ++ behind_map n f h xs i

terminating_same : (n : ℕ) (o : Option Tree) → behind n (terminating_of o) ≡ behind 0 (terminating_of o)
terminating_same n None = refl
terminating_same n (Some e) = refl

constants_first : (n : ℕ) (xs : List Word) (u : RegionUnit) (us : List RegionUnit) → units_text n (model_value_units xs ++ u ∷ us) ≡ ahead 0 (model_value_units xs) ++ units_text n (u ∷ us)
constants_first n [] u us = refl
constants_first n (x ∷ xs) u us = simp (append_assoc, append-nil)

pub layout_parts : (r : Region) (n : ℕ) → n ≡ processes_in r.next
    → layout r
    ≡ ahead 0 (model_value_units r.model_values)
    ++ (unit_text 0 (variables_unit r.variables)
    ++ (behind 0 (map definition_unit r.definitions)
    ++ (behind 0 (vars_unit r.vars ∷ [])
    ++ (behind n (process_set_of r.process_set)
    ++ (behind 0 (init_unit r.init ∷ [])
    ++ (behind 0 (map action_unit r.actions)
    ++ (behind 0 (terminating_of r.ended)
    ++ (behind 0 (next_unit r.next ∷ [])
    ++ (behind 0 (spec_unit r.fairness ∷ [])
    ++ behind 0 (termination_unit r.termination ∷ []))))))))))
layout_parts r n h =
    let last : List RegionUnit = termination_unit r.termination ∷ [] in
    let from_spec : List RegionUnit = spec_unit r.fairness ∷ last in
    let from_next : List RegionUnit = next_unit r.next ∷ from_spec in
    let from_terminating : List RegionUnit = terminating_of r.ended ++ from_next in
    let from_actions : List RegionUnit = map action_unit r.actions ++ from_terminating in
    let from_init : List RegionUnit = init_unit r.init ∷ from_actions in
    let from_set : List RegionUnit = process_set_of r.process_set ++ from_init in
    let from_vars : List RegionUnit = vars_unit r.vars ∷ from_set in
    let from_definitions : List RegionUnit = map definition_unit r.definitions ++ from_vars in
    let spec = joined n (spec_unit r.fairness ∷ []) last (behind 0 (spec_unit r.fairness ∷ [])) (behind 0 last) refl refl in
    let next = joined n (next_unit r.next ∷ []) from_spec (behind 0 (next_unit r.next ∷ [])) _ refl spec in
    let terminating = joined n (terminating_of r.ended) from_next (behind 0 (terminating_of r.ended)) _ (terminating_same n r.ended) next in
    let actions = joined n (map action_unit r.actions) from_terminating (behind 0 (map action_unit r.actions)) _ (behind_map n action_unit (λ x. refl) r.actions) terminating in
    let init = joined n (init_unit r.init ∷ []) from_actions (behind 0 (init_unit r.init ∷ [])) _ refl actions in
    let set = joined n (process_set_of r.process_set) from_init (behind n (process_set_of r.process_set)) _ refl init in
    let vars = joined n (vars_unit r.vars ∷ []) from_set (behind 0 (vars_unit r.vars ∷ [])) _ refl set in
    let definitions = joined n (map definition_unit r.definitions) from_vars (behind 0 (map definition_unit r.definitions)) _ (behind_map n definition_unit (λ x. refl) r.definitions) vars in
    ap (λ (k : ℕ). units_text k (units_of r)) (sym h)
    ∙ constants_first n r.model_values (variables_unit r.variables) from_definitions
    ∙ ap (λ (w : List ℕ). ahead 0 (model_value_units r.model_values) ++ w) (units_behind n (variables_unit r.variables) from_definitions ∙ ap (λ (w : List ℕ). unit_text 0 (variables_unit r.variables) ++ w) definitions)
