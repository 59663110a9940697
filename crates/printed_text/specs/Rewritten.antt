-- A file with its algorithm printed in the place where it is ("A PlusCal User's Manual", section 2.1 and appendix A).
use Rattle.std.specs.Prelude.{◌≡◌, [], ◌++◌, drop, Some, codes, if◌then◌else◌}
use Rattle.tla_tree.specs.laws.InText.{ends_word}
use Rattle.pcal_tree.specs.Algorithm.{Algorithm}
use Rattle.pcal_tree.specs.Grammar.{Syntax, p_syntax, c_syntax, Spells}
use Rattle.pcal_tree.specs.Printed.{Text, printed}
use Rattle.module_tree.specs.AlgorithmText.{AlgorithmText, algorithm_in, algorithm_tokens}
use Rattle.module_tree.specs.Around.{Swapped}

-- a letter, a digit or `_` right after the algorithm would go on with the last word of `end algorithm`: a blank parts them
abbrev pub gap : Syntax → Text → Text
gap p_syntax rest = if ends_word rest then [] else codes " "
gap c_syntax rest = []

-- w is x with its algorithm printed in this syntax; all other bytes are as in x
pub record Rewritten (s : Syntax) (x w : Text) : Type 0 where
  pub old : AlgorithmText
  pub is_old : algorithm_in x ≡ Some old
  pub syntax : Syntax
  pub tree : Algorithm
  pub spelled : Spells syntax (algorithm_tokens x old) tree
  pub swapped : Swapped x (printed s tree ++ gap s (drop old.rest.to x)) w
