-- What is known where an initial value stands: all variables, those that are declared before, and the levels of definitions.
use Rattle.std.specs.Prelude.{List, [], ◌∷◌}
use Rattle.tla_tree.specs.Tree.{Word}
use Rattle.read_rules.specs.Levels.{Levels}
use Rattle.module_outside.specs.SightIn.{Binds}
use Rattle.read_rules.specs.declared.order.Known.{Known}
use Rattle.read_rules.specs.NumbersIn.{AreLevels}

pub record Knows (k : Known) (variables : List Word) (ls : Levels) (earlier : List Word) : Type 0 where
  pub all : Binds k.all variables
  pub levels : AreLevels k.levels ls
  pub before : Binds k.before earlier

-- words that are declared one after another before others
abbrev pub behind : List Word → List Word → List Word
behind [] before = before
behind (x ∷ xs) before = behind xs (x ∷ before)
