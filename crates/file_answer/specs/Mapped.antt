-- What `map` writes for a file that is not refused: where each label is ("A PlusCal User's Manual", section 3.7, labels).
use Rattle.std.specs.Prelude.{◌≡◌, Bool, List, ℕ}
use Rattle.tla_value.specs.Outside.{Outside}
use Rattle.pcal_tree.specs.Algorithm.{Algorithm}
use Rattle.pcal_tree.specs.Labelled.{labelled}
use Rattle.pcal_tree.specs.Names.{naming}
use Rattle.module_tree.specs.Walk.{walk}
use Rattle.module_tree.specs.laws.Outsides.{HasOutside}
use Rattle.source_map.specs.Lines.{lines, lines_text}
use Rattle.file_answer.specs.Holds.{HoldsTree}

-- w has the lines of the algorithm that is in the file x, with labels added in every algorithm or only where they must be, by its written names
pub record IsMapped (forced : Bool) (x w : List ℕ) : Type 0 where
  pub tree : Algorithm
  pub holds : HoldsTree x tree
  pub outside : Outside
  pub has : HasOutside (walk x) outside
  pub lines : w ≡ lines_text (lines (labelled forced tree) (naming (labelled forced tree) outside))
