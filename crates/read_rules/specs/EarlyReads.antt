-- Variables that are read where they have no value yet, by the levels of definitions.
use Rattle.std.specs.Prelude.{ℕ, suc, nat_lt, List, [], ◌∷◌, ◌++◌, Bool, ◌&&◌, ◌||◌, not, map}
use Rattle.std.specs.List.{list_any, flat_map}
use Rattle.tla_token.specs.declared.rule.Rule.TheVariants.{ProcessNotConstant, InitLater}
use Rattle.tla_token.specs.declared.rule.Refusal.{Refusal}
use Rattle.tla_token.specs.Signs.{is_among}
use Rattle.tla_tree.specs.Tree.{Word, Tree, root_place}
use Rattle.pcal_tree.specs.Algorithm.{Name, Start, Declaration, Process, Algorithm}
use Rattle.pcal_tree.specs.Offences.{offence_if}
use Rattle.pcal_tree.specs.OffencesReads.{processes_of}
use Rattle.pcal_tree.specs.Reads.{used, initial}
use Rattle.pcal_tree.specs.Variables.{declared}
use Rattle.read_rules.specs.Levels.{Levels, level_of, reach_of, levels_of}

-- ---- the identifiers of processes

abbrev pub offending_name : List Word → Levels → Name → List Refusal
offending_name gs ls n = offence_if (nat_lt 0 (reach_of gs ls n.word)) ProcessNotConstant n.place

abbrev pub offending_process : List Word → Levels → Process → List Refusal
offending_process gs ls p = flat_map (offending_name gs ls) (used p.identity [])

abbrev pub process_offences_by : Algorithm → List Refusal
process_offences_by a = flat_map (offending_process (declared a.globals) (levels_of a)) (processes_of a.main)

-- ---- the order of initial values

-- the declarations of each procedure and each process, in the order of the text
abbrev pub local_lists : Algorithm → List (List Declaration)
local_lists a = map (λ p. p.params ++ p.variables) a.procedures ++ map (λ p. p.variables) (processes_of a.main)

abbrev pub variables_of : Algorithm → List Word
variables_of a = declared a.globals ++ flat_map declared (local_lists a)

-- of all these variables, one that isn't before; or a definition that reads a global past so many
abbrev pub is_early : List Word → Levels → List Word → ℕ → Name → Bool
is_early all ls before i n = (is_among all n.word && not (is_among before n.word)) || nat_lt i (level_of ls n.word)

abbrev pub early_in_tree : List Word → Levels → List Word → ℕ → Tree → List Refusal
early_in_tree all ls before i e = offence_if (list_any (is_early all ls before i) (used e [])) InitLater (root_place e)

abbrev pub early_in_start : List Word → Levels → List Word → ℕ → Start → List Refusal
early_in_start all ls before i s = flat_map (early_in_tree all ls before i) (initial s)

-- of a list of declarations, where so many are before it
abbrev pub early_in : List Word → Levels → List Word → ℕ → List Declaration → List Refusal
early_in all ls before i [] = []
early_in all ls before i (d ∷ ds) = early_in_start all ls before i d.start ++ early_in all ls (d.name.word ∷ before) (suc i) ds

-- definitions read globals alone, which are all before the variables of procedures and processes
abbrev pub early_in_locals : List Word → List Word → List Declaration → List Refusal
early_in_locals all gs ds = early_in all [] gs 0 ds

abbrev pub order_offences_by : Algorithm → List Refusal
order_offences_by a = early_in (variables_of a) (levels_of a) [] 0 a.globals ++ flat_map (early_in_locals (variables_of a) (declared a.globals)) (local_lists a)
