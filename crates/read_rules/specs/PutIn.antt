-- Names that were assigned, with arguments put in for parameters.
use Rattle.std.specs.Prelude.{List, [], Bool, cond}
use Rattle.std.specs.List.{flat_map}
use Rattle.tla_tree.specs.Tree.{Word, Trees}
use Rattle.pcal_tree.specs.Algorithm.{Name}
use Rattle.pcal_tree.specs.Paths.{some_word}
use Rattle.pcal_tree.specs.laws.MacroSummaries.{argument, variable_of}
use Rattle.pcal_tree.specs.laws.MacroSpots.{Origin, Trail, before_on}

-- the variable of what stands for a name
abbrev pub word_put : List Name → Trees → Word → List Word
word_put ps ts x = some_word (variable_of (argument ps ts x) x)

abbrev pub words_put : List Name → Trees → List Word → List Word
words_put ps ts xs = flat_map (word_put ps ts) xs

-- what was assigned before, where it is to be there
abbrev pub before_if : Bool → Trail → List Origin
before_if b q = cond b (before_on q) []
