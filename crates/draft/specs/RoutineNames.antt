-- The variables of routines by the names that a naming gives them ("A PlusCal User's Manual", section 4, on names in the translation).
use Rattle.std.specs.Prelude.{ℕ, List, [], Bool, ◌||◌, cond, map}
use Rattle.std.specs.List.{flat_map}
use Rattle.tla_tree.specs.Tree.{Word, Tree}
use Rattle.pcal_tree.specs.declared.algorithm.Declaration as code
use Rattle.pcal_tree.specs.declared.algorithm.Main as code_main
use Rattle.pcal_tree.specs.declared.algorithm.Main.TheVariants as main
use Rattle.pcal_tree.specs.Algorithm.{Naming, Routine, locals, numbered, process_routine}
use Rattle.pcal_tree.specs.InMemory.{process_at}
use Rattle.pcal_tree.specs.Variables.{declared}

-- the words that declarations in memory have
abbrev pub words_of : List code.Declaration → List Word
words_of ds = map (λ (d : code.Declaration). d.name.word) ds

-- a routine's parameters and variables
abbrev pub routine_names : Naming → Routine → List Word
routine_names f u = map (f.local u.number) (declared (locals u))

-- of every routine, or only of those whose variables are functions of the identifiers of processes
abbrev pub names_where : Naming → Bool → Routine → List Word
names_where f every u = cond (every || u.spread) (routine_names f u) []

abbrev pub all_names_where : Naming → Bool → List Routine → List Word
all_names_where f every us = flat_map (names_where f every) us

-- of what runs, in memory, of which the first has the number n; the one body has none
abbrev pub main_names_where : Naming → Bool → ℕ → List Tree → code_main.Main → List Word
main_names_where f every n ts (main.Alone ss) = []
main_names_where f every n ts (main.Processes ps) = all_names_where f every (numbered process_routine n (map (process_at ts) ps.items))
