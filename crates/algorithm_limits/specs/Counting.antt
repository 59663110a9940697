-- Names counted up to a limit, and the names of an algorithm in memory, in the order of the text.
use Rattle.std.specs.Prelude.{ℕ, ◌-◌, nat_eq, List, [], ◌∷◌, ◌++◌, map, cond, Option, Some, None}
use Rattle.std.specs.List.{flat_map}
use Rattle.tla_token.specs.declared.place.Place.{Place}
use Rattle.tla_token.specs.declared.rule.Rule.TheVariants.{TooMany}
use Rattle.tla_token.specs.declared.rule.Refusal.{Refusal}
use Rattle.pcal_tree.specs.declared.algorithm.Declaration.{Declaration}
use Rattle.pcal_tree.specs.declared.algorithm.Procedure.{Procedure}
use Rattle.pcal_tree.specs.declared.algorithm.Process.{Process}
use Rattle.pcal_tree.specs.declared.algorithm.Main.{Main}
use Rattle.pcal_tree.specs.declared.algorithm.Main.TheVariants as main
use Rattle.pcal_tree.specs.declared.algorithm.Algorithm.{Algorithm}
use Rattle.pcal_tree.specs.Algorithm.{Name}
use Rattle.pcal_tree.specs.Offences.{offence}
use Rattle.algorithm_limits.specs.declared.count.Count.{Count}

-- ---- counting

-- nothing is counted yet, of so many that may come
abbrev pub none_of : ℕ → Count
none_of n = record { left = n; past = None }

-- one more, which is at this place, where the first one past the limit is known or not
abbrev pub after_one : Option Place → Count → Place → Count
after_one (Some q) c p = c
after_one None c p = cond (nat_eq c.left 0) (record { left = 0; past = Some p }) (record { left = c.left - 1; past = None })

abbrev pub counted_one : Count → Place → Count
counted_one c p = after_one c.past c p

abbrev pub counted : Count → List Name → Count
counted c [] = c
counted c (x ∷ xs) = counted (counted_one c x.place) xs

abbrev pub past_place : Option Place → List Refusal
past_place None = []
past_place (Some p) = offence TooMany p

-- the first one past the limit
abbrev pub past_limit : Count → List Refusal
past_limit c = past_place c.past

-- ---- names that are declared

abbrev pub declared_names : List Declaration → List Name
declared_names ds = map (λ (d : Declaration). d.name) ds

abbrev pub procedure_variables : Procedure → List Name
procedure_variables p = declared_names p.params.items ++ declared_names p.variables.items

abbrev pub process_variables : Process → List Name
process_variables p = declared_names p.variables.items

abbrev pub main_variables : Main → List Name
main_variables (main.Alone ss) = []
main_variables (main.Processes ps) = flat_map process_variables ps.items

abbrev pub variables_in : Algorithm → List Name
variables_in a = declared_names a.globals.items ++ (flat_map procedure_variables a.procedures.items ++ main_variables a.main)

abbrev pub processes_in : Main → List Name
processes_in (main.Alone ss) = []
processes_in (main.Processes ps) = map (λ (p : Process). p.name) ps.items

abbrev pub procedures_in : Algorithm → List Name
procedures_in a = map (λ (p : Procedure). p.name) a.procedures.items
