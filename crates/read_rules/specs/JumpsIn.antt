-- The names of initial values, in memory.
use Rattle.std.specs.Prelude.{List}
use Rattle.std.specs.List.{flat_map}
use Rattle.tla_tree.specs.Tree.{Word}
use Rattle.pcal_tree.specs.Algorithm.{Name, Start, Declaration}
use Rattle.pcal_tree.specs.Reads.{used, initial}

abbrev pub used_by_start : Start → List Word → List Name
used_by_start s xs = flat_map (λ e. used e xs) (initial s)

abbrev pub used_by_starts : List Declaration → List Word → List Name
used_by_starts ds xs = flat_map (λ d. used_by_start d.start xs) ds
