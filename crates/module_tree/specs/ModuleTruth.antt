-- What a module says of states: its Next of a pair, its Init of one, and each of its actions ("Specifying Systems", section 2.3).
use Rattle.std.specs.Prelude.{List, [], ◌∷◌, ◌++◌, true, false, Option, Some, None, codes, Ok}
use Rattle.tla_tree.specs.Tree.{Word, Tree}
use Rattle.tla_value.specs.Value.{Value, and_then}
use Rattle.tla_value.specs.Stops.{Check}
use Rattle.tla_value.specs.Meaning.{Env}
use Rattle.tla_value.specs.Definitions.{Valuation, no_state, Definition, scope_of}
use Rattle.tla_value.specs.Outside.{found}
use Rattle.module_tree.specs.Module.{test, unchanged, no_items, item, all_of, Action, Module}
use Rattle.module_tree.specs.ActionTruth.{Verdict, truth_in, Acts, no_acts, acted, acts_of, some_way_holds}

abbrev pub process_set_defined : Option Tree → List Definition
process_set_defined None = []
process_set_defined (Some e) = record { title = codes "ProcSet"; params = []; body = e; outside = false } ∷ []

-- the definitions in sight of the actions
abbrev pub definitions_in : Module → List Definition
definitions_in m = found m.outside.definitions ++ m.region.definitions ++ process_set_defined m.region.process_set

abbrev pub scope : Check → Module → Valuation → Valuation → Valuation → Env
scope c m constants s t = scope_of c constants (definitions_in m) s t

-- Terminating, of a translation that has it
abbrev pub terminating : List Word → Option Tree → List Action
terminating vs (Some e) = record { title = codes "Terminating"; parameter = None; body = all_of (item (test e) (item (unchanged vs) no_items)) } ∷ []
terminating vs None = []

abbrev pub acts_in : Check → Module → Valuation → Valuation → Valuation → Acts
acts_in c m constants s t = acts_of c s t (scope c m constants s t) (m.region.actions ++ terminating m.region.vars m.region.ended) no_acts

-- Next on (s, t)
abbrev pub next_holds : Check → Module → Valuation → Valuation → Valuation → Verdict
next_holds c m constants s t = some_way_holds c (scope c m constants s t) (acts_in c m constants s t) m.region.next

abbrev pub all_hold : Check → Env → List Tree → Verdict
all_hold c env [] = Ok true
all_hold c env (e ∷ es) = and_then (truth_in c env e) (all_hold c env es)

-- Init on s
abbrev pub init_holds : Check → Module → Valuation → Valuation → Verdict
init_holds c m constants s = all_hold c (scope c m constants s no_state) m.region.init

-- an action of that name alone, with that argument
abbrev pub action_holds : Check → Module → Valuation → Valuation → Valuation → Word → Option Value → Verdict
action_holds c m constants s t a v = acted (acts_in c m constants s t a) v
