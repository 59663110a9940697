-- Variables that are read where they have no value yet: in the identifiers of processes, and in initial values ("A PlusCal User's Manual", section 3.3, on
-- processes, and section 3.1, on declarations).
use Rattle.std.specs.Prelude.{List, [], ◌∷◌, ◌++◌, Bool, ◌&&◌, ◌||◌, not, cond, bytes_eq, codes}
use Rattle.std.specs.List.{list_any, flat_map}
use Rattle.tla_token.specs.declared.rule.Rule.TheVariants.{ProcessNotConstant, InitSelf, InitLater}
use Rattle.tla_token.specs.declared.rule.Refusal.{Refusal}
use Rattle.tla_token.specs.Signs.{is_among}
use Rattle.tla_tree.specs.Tree.{Word, Tree, root_place}
use Rattle.pcal_tree.specs.Algorithm.{Name, Start, among, Declaration, declares, Process, Main, alone, processes, Algorithm, locals, routines}
use Rattle.pcal_tree.specs.Offences.{offence_if}
use Rattle.pcal_tree.specs.Reads.{used, initial, looked_at, readings_of}
use Rattle.pcal_tree.specs.Variables.{declared}

abbrev pub processes_of : Main → List Process
processes_of (alone b) = []
processes_of (processes ps) = ps

-- ---- the identifiers of processes

-- a variable that is read there, also through a definition, at the name that is used
abbrev pub not_constant : Algorithm → Process → List Refusal
not_constant a p =
    flat_map (λ n. offence_if (list_any (declares a.globals) (looked_at (readings_of a) n)) ProcessNotConstant n.place) (used p.identity [])

abbrev pub process_offences : Algorithm → List Refusal
process_offences a = flat_map (not_constant a) (processes_of a.main)

-- ---- the sets of a process set's variables

-- there is one set for all processes
abbrev pub of_one_process : Process → Name → Bool
of_one_process p n = bytes_eq (codes "self") n.word || declares p.variables n.word

abbrev pub own_in_start : Process → Start → List Refusal
own_in_start p (among e) = flat_map (λ n. offence_if (of_one_process p n) InitSelf n.place) (used e [])
own_in_start p _ = []

abbrev pub own_in_sets : Process → List Refusal
own_in_sets p = cond p.several (flat_map (λ d. own_in_start p d.start) p.variables) []

abbrev pub own_offences : Algorithm → List Refusal
own_offences a = flat_map own_in_sets (processes_of a.main)

-- ---- the order of initial values

-- the variables and parameters of all units
abbrev pub all_variables : Algorithm → List Word
all_variables a = declared a.globals ++ flat_map (λ u. declared (locals u)) (routines a)

-- a variable that is not among those before it
abbrev pub is_later : Algorithm → List Word → Word → Bool
is_later a before y = is_among (all_variables a) y && not (is_among before y)

abbrev pub reads_later : Algorithm → List Word → Tree → Bool
reads_later a before e = list_any (is_later a before) (flat_map (looked_at (readings_of a)) (used e []))

-- of a list of declarations, where those of the words are before it
abbrev pub later_in : Algorithm → List Word → List Declaration → List Refusal
later_in a before [] = []
later_in a before (d ∷ ds) =
    flat_map (λ e. offence_if (reads_later a before e) InitLater (root_place e)) (initial d.start) ++ later_in a (d.name.word ∷ before) ds

abbrev pub order_offences : Algorithm → List Refusal
order_offences a =
    later_in a [] a.globals ++ flat_map (λ u. later_in a (declared a.globals) (locals u)) (routines a)
