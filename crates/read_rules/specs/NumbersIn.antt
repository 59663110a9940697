-- The numbers of variables and the levels of definitions, in tables by name.
use Rattle.std.specs.Prelude.{◌≡◌, List, map}
use Rattle.tla_tree.specs.Tree.{Word}
use Rattle.pcal_tree.specs.declared.algorithm.Declaration.{Declaration}
use Rattle.algorithm_limits.specs.Numbers.{Numbers, number_of}
use Rattle.read_rules.specs.Levels.{number_among, Levels, level_of}

-- the names of variables that are declared in memory
abbrev pub declared_in : List Declaration → List Word
declared_in ds = map (λ (d : Declaration). d.name.word) ds

-- each variable has its number in the table
abbrev pub AreNumbers : Numbers → List Word → Type 0
AreNumbers es gs = (y : Word) → number_of es y ≡ number_among gs y

-- each definition has its level
abbrev pub AreLevels : Numbers → Levels → Type 0
AreLevels es ls = (x : Word) → number_of es x ≡ level_of ls x
