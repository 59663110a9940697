-- Which translation a list of units is, as a function of the list, from its first unit on ("Specifying Systems", section 15.2).
use Rattle.std.specs.Prelude.{List, [], ◌∷◌, Option, Some, None, option_map}
use Rattle.tla_tree.specs.Tree.{Word, Tree}
use Rattle.tla_value.specs.Definitions.{Definition}
use Rattle.module_tree.specs.Module.{Action, Way, Fairness, Region, RegionUnit, constant_unit, variables_unit, definition_unit, vars_unit, process_set_unit, init_unit, action_unit, terminating_unit, next_unit, spec_unit, termination_unit}

-- ---- one part of a translation, with the others as they are

abbrev pub with_model_values : List Word → Region → Region
with_model_values xs r = record r { model_values = xs }

abbrev pub with_variables : List Word → Region → Region
with_variables xs r = record r { variables = xs }

abbrev pub no_definition : Region → Region
no_definition r = record r { definitions = [] }

abbrev pub one_definition_more : Definition → Region → Region
one_definition_more d r = record r { definitions = d ∷ r.definitions }

abbrev pub with_vars : List Word → Region → Region
with_vars xs r = record r { vars = xs }

abbrev pub with_process_set : Option Tree → Region → Region
with_process_set t r = record r { process_set = t }

abbrev pub with_init : List Tree → Region → Region
with_init es r = record r { init = es }

abbrev pub no_action : Region → Region
no_action r = record r { actions = [] }

abbrev pub one_action_more : Action → Region → Region
one_action_more a r = record r { actions = a ∷ r.actions }

abbrev pub with_ended : Option Tree → Region → Region
with_ended t r = record r { ended = t }

abbrev pub with_next : List Way → Region → Region
with_next ys r = record r { next = ys }

-- the parts of the last two units, and nothing before them
abbrev pub last_parts : List Fairness → Tree → Region
last_parts fs t = record { model_values = []; variables = []; definitions = []; vars = []; process_set = None; init = []; actions = []; ended = None; next = []; fairness = fs; termination = t }

-- ---- from each unit on to the last: what there is of a translation

abbrev pub from_spec : List RegionUnit → Option Region
from_spec (spec_unit fs ∷ termination_unit t ∷ []) = Some (last_parts fs t)
from_spec us = None

abbrev pub from_next : List RegionUnit → Option Region
from_next (next_unit ys ∷ us) = option_map (with_next ys) (from_spec us)
from_next us = None

abbrev pub from_terminating : List RegionUnit → Option Region
from_terminating (terminating_unit t ∷ us) = option_map (with_ended (Some t)) (from_next us)
from_terminating us = option_map (with_ended None) (from_next us)

abbrev pub from_actions : List RegionUnit → Option Region
from_actions (action_unit a ∷ us) = option_map (one_action_more a) (from_actions us)
from_actions us = option_map no_action (from_terminating us)

abbrev pub from_init : List RegionUnit → Option Region
from_init (init_unit es ∷ us) = option_map (with_init es) (from_actions us)
from_init us = None

abbrev pub from_process_set : List RegionUnit → Option Region
from_process_set (process_set_unit t ∷ us) = option_map (with_process_set (Some t)) (from_init us)
from_process_set us = option_map (with_process_set None) (from_init us)

abbrev pub from_vars : List RegionUnit → Option Region
from_vars (vars_unit xs ∷ us) = option_map (with_vars xs) (from_process_set us)
from_vars us = None

abbrev pub from_definitions : List RegionUnit → Option Region
from_definitions (definition_unit d ∷ us) = option_map (one_definition_more d) (from_definitions us)
from_definitions us = option_map no_definition (from_vars us)

abbrev pub from_variables : List RegionUnit → Option Region
from_variables (variables_unit xs ∷ us) = option_map (with_variables xs) (from_definitions us)
from_variables us = None

-- the translation that has these units
abbrev pub region_in : List RegionUnit → Option Region
region_in (constant_unit (x ∷ xs) ∷ us) = option_map (with_model_values (x ∷ xs)) (from_variables us)
region_in us = option_map (with_model_values []) (from_variables us)
