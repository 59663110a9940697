-- The translation that is read of units has them, and each translation is read of its units.
use Rattle.std.proofs.Common.{◌≡◌, List, [], ◌∷◌, ◌++◌, map, Option, Some, None, refl, sym, ap, ◌∙◌}
use Rattle.std.specs.Prelude.{option_map}
use Rattle.std.proofs.lemmas.Option.{none-some, same_Some}
use Rattle.tla_tree.specs.Tree.{Word, Tree}
use Rattle.tla_value.specs.Definitions.{Definition}
use Rattle.module_tree.specs.Module.{Action, Region, RegionUnit, constant_unit, variables_unit, definition_unit, vars_unit, process_set_unit, init_unit, action_unit, terminating_unit, next_unit, spec_unit, termination_unit, model_value_units, process_set_of, terminating_of, units_of}
use Rattle.region_reading.specs.RegionReader.{with_model_values, with_variables, no_definition, one_definition_more, with_vars, with_process_set, with_init, no_action, one_action_more, with_ended, with_next, last_parts, from_spec, from_next, from_terminating, from_actions, from_init, from_process_set, from_vars, from_definitions, from_variables, region_in}
use Rattle.region_reading.proofs.UnitsRead.{some_mapped}

-- ---- the units from each on to the last

abbrev spec_units : Region → List RegionUnit
spec_units r = spec_unit r.fairness ∷ termination_unit r.termination ∷ []

abbrev next_units : Region → List RegionUnit
next_units r = next_unit r.next ∷ spec_units r

abbrev terminating_units : Region → List RegionUnit
terminating_units r = terminating_of r.ended ++ next_units r

abbrev action_units : Region → List RegionUnit
action_units r = map action_unit r.actions ++ terminating_units r

abbrev init_units : Region → List RegionUnit
init_units r = init_unit r.init ∷ action_units r

abbrev process_set_units : Region → List RegionUnit
process_set_units r = process_set_of r.process_set ++ init_units r

abbrev vars_units : Region → List RegionUnit
vars_units r = vars_unit r.vars ∷ process_set_units r

abbrev definition_units : Region → List RegionUnit
definition_units r = map definition_unit r.definitions ++ vars_units r

abbrev variables_units : Region → List RegionUnit
variables_units r = variables_unit r.variables ∷ definition_units r

-- ---- what is read has these units

-- what is read of the units behind, and how it goes on
mapped_ok : (f : Region → Region) (o : Option Region) (us vs : List RegionUnit) (A B : Region → List RegionUnit) → ((q : Region) → o ≡ Some q → A q ≡ us)
    → ((q : Region) → A q ≡ us → B (f q) ≡ vs) → (r : Region) → option_map f o ≡ Some r → B r ≡ vs
mapped_ok f o us vs A B h g r e = (let m = some_mapped f o r e in ap B (sym m.2) ∙ g m.0 (h m.0 m.1))

spec_is : (us : List RegionUnit) (r : Region) → from_spec us ≡ Some r → spec_units r ≡ us
spec_is (spec_unit fs ∷ termination_unit t ∷ []) r e = ap spec_units (sym (same_Some (last_parts fs t) r e))
spec_is us r e = absurd (none-some r e)

next_is : (us : List RegionUnit) (r : Region) → from_next us ≡ Some r → next_units r ≡ us
next_is (next_unit ys ∷ us) r e = mapped_ok (with_next ys) (from_spec us) us (next_unit ys ∷ us) spec_units next_units (spec_is us) (λ q h. ap (λ vs. next_unit ys ∷ vs) h) r e
next_is us r e = absurd (none-some r e)

terminating_is : (us : List RegionUnit) (r : Region) → from_terminating us ≡ Some r → terminating_units r ≡ us
terminating_is (terminating_unit t ∷ us) r e =
    mapped_ok (with_ended (Some t)) (from_next us) us (terminating_unit t ∷ us) next_units terminating_units (next_is us) (λ q h. ap (λ vs. terminating_unit t ∷ vs) h) r e
terminating_is us r e = mapped_ok (with_ended None) (from_next us) us us next_units terminating_units (next_is us) (λ q h. h) r e

actions_are : (us : List RegionUnit) (r : Region) → from_actions us ≡ Some r → action_units r ≡ us
actions_are (action_unit a ∷ us) r e =
    mapped_ok (one_action_more a) (from_actions us) us (action_unit a ∷ us) action_units action_units (actions_are us) (λ q h. ap (λ vs. action_unit a ∷ vs) h) r e
actions_are us r e = mapped_ok no_action (from_terminating us) us us terminating_units action_units (terminating_is us) (λ q h. h) r e

init_is : (us : List RegionUnit) (r : Region) → from_init us ≡ Some r → init_units r ≡ us
init_is (init_unit es ∷ us) r e = mapped_ok (with_init es) (from_actions us) us (init_unit es ∷ us) action_units init_units (actions_are us) (λ q h. ap (λ vs. init_unit es ∷ vs) h) r e
init_is us r e = absurd (none-some r e)

process_set_is : (us : List RegionUnit) (r : Region) → from_process_set us ≡ Some r → process_set_units r ≡ us
process_set_is (process_set_unit t ∷ us) r e =
    mapped_ok (with_process_set (Some t)) (from_init us) us (process_set_unit t ∷ us) init_units process_set_units (init_is us) (λ q h. ap (λ vs. process_set_unit t ∷ vs) h) r e
process_set_is us r e = mapped_ok (with_process_set None) (from_init us) us us init_units process_set_units (init_is us) (λ q h. h) r e

vars_are : (us : List RegionUnit) (r : Region) → from_vars us ≡ Some r → vars_units r ≡ us
vars_are (vars_unit xs ∷ us) r e = mapped_ok (with_vars xs) (from_process_set us) us (vars_unit xs ∷ us) process_set_units vars_units (process_set_is us) (λ q h. ap (λ vs. vars_unit xs ∷ vs) h) r e
vars_are us r e = absurd (none-some r e)

definitions_are : (us : List RegionUnit) (r : Region) → from_definitions us ≡ Some r → definition_units r ≡ us
definitions_are (definition_unit d ∷ us) r e =
    mapped_ok (one_definition_more d) (from_definitions us) us (definition_unit d ∷ us) definition_units definition_units (definitions_are us) (λ q h. ap (λ vs. definition_unit d ∷ vs) h) r e
definitions_are us r e = mapped_ok no_definition (from_vars us) us us vars_units definition_units (vars_are us) (λ q h. h) r e

variables_are : (us : List RegionUnit) (r : Region) → from_variables us ≡ Some r → variables_units r ≡ us
variables_are (variables_unit xs ∷ us) r e =
    mapped_ok (with_variables xs) (from_definitions us) us (variables_unit xs ∷ us) definition_units variables_units (definitions_are us) (λ q h. ap (λ vs. variables_unit xs ∷ vs) h) r e
variables_are us r e = absurd (none-some r e)

pub region_ok : (us : List RegionUnit) (r : Region) → region_in us ≡ Some r → units_of r ≡ us
region_ok (constant_unit (x ∷ xs) ∷ us) r e =
    mapped_ok (with_model_values (x ∷ xs)) (from_variables us) us (constant_unit (x ∷ xs) ∷ us) variables_units units_of (variables_are us) (λ q h. ap (λ vs. constant_unit (x ∷ xs) ∷ vs) h) r e
region_ok us r e = mapped_ok (with_model_values []) (from_variables us) us us variables_units units_of (variables_are us) (λ q h. h) r e

-- ---- each translation is read of its units

-- what there is of it from each unit on
abbrev spec_of : Region → Region
spec_of r = last_parts r.fairness r.termination

abbrev next_of : Region → Region
next_of r = with_next r.next (spec_of r)

abbrev terminating_parts : Region → Region
terminating_parts r = with_ended r.ended (next_of r)

abbrev action_parts : Region → List Action → Region
action_parts r ds = record (terminating_parts r) { actions = ds }

abbrev init_parts : Region → Region
init_parts r = with_init r.init (action_parts r r.actions)

abbrev process_set_parts : Region → Region
process_set_parts r = with_process_set r.process_set (init_parts r)

abbrev vars_parts : Region → Region
vars_parts r = with_vars r.vars (process_set_parts r)

abbrev definition_parts : Region → List Definition → Region
definition_parts r ds = record (vars_parts r) { definitions = ds }

abbrev variables_parts : Region → Region
variables_parts r = with_variables r.variables (definition_parts r r.definitions)

terminating_read : (r : Region) (t : Option Tree) → from_terminating (terminating_of t ++ next_units r) ≡ Some (with_ended t (next_of r))
terminating_read r (Some t) = refl
terminating_read r None = refl

actions_read : (r : Region) (ds : List Action) → from_actions (map action_unit ds ++ terminating_units r) ≡ Some (action_parts r ds)
actions_read r (a ∷ ds) = ap (option_map (one_action_more a)) (actions_read r ds)
actions_read r [] = none r.ended ∙ ap (option_map no_action) (terminating_read r r.ended)
  where
    none : (t : Option Tree) → from_actions (terminating_of t ++ next_units r) ≡ option_map no_action (from_terminating (terminating_of t ++ next_units r))
    none (Some t) = refl
    none None = refl

process_set_read : (r : Region) (t : Option Tree) → from_process_set (process_set_of t ++ init_units r) ≡ Some (with_process_set t (init_parts r))
process_set_read r (Some t) = ap (λ (o : Option Region). option_map (with_process_set (Some t)) (option_map (with_init r.init) o)) (actions_read r r.actions)
process_set_read r None = ap (λ (o : Option Region). option_map (with_process_set None) (option_map (with_init r.init) o)) (actions_read r r.actions)

definitions_read : (r : Region) (ds : List Definition) → from_definitions (map definition_unit ds ++ vars_units r) ≡ Some (definition_parts r ds)
definitions_read r (d ∷ ds) = ap (option_map (one_definition_more d)) (definitions_read r ds)
definitions_read r [] = ap (λ (o : Option Region). option_map no_definition (option_map (with_vars r.vars) o)) (process_set_read r r.process_set)

variables_read : (r : Region) → from_variables (variables_units r) ≡ Some (variables_parts r)
variables_read r = ap (option_map (with_variables r.variables)) (definitions_read r r.definitions)

pub region_read : (r : Region) → region_in (units_of r) ≡ Some r
region_read r = by r.model_values
  where
    by : (xs : List Word) → region_in (model_value_units xs ++ variables_units r) ≡ Some (with_model_values xs (variables_parts r))
    by (x ∷ xs) = ap (option_map (with_model_values (x ∷ xs))) (variables_read r)
    by [] = ap (option_map (with_model_values [])) (variables_read r)
