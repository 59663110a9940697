-- Names of declarations in memory.
use Rattle.std.specs.Prelude.{List, map}
use Rattle.tla_tree.specs.Tree.{Name}
use Rattle.pcal_tree.specs.declared.algorithm.Declaration.{Declaration}

abbrev pub declared_names : List Declaration → List Name
declared_names ds = map (λ (d : Declaration). d.name) ds
