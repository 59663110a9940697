-- A file with another text between the two lines of its translation, or with another algorithm ("A PlusCal User's Manual", sections 2.1 and 2.2).
use Rattle.std.specs.Prelude.{◌≡◌, ◌++◌, [], take, drop, Some, is_some, codes, if◌then◌else◌}
use Rattle.module_tree.specs.TextFront.{Text}
use Rattle.module_tree.specs.Walk.{walk}
use Rattle.module_tree.specs.FileParts.{Span, region_of, spot}
use Rattle.module_tree.specs.AlgorithmText.{AlgorithmText, algorithm_in}

abbrev pub begin_line : Text
begin_line = codes "\\* BEGIN TRANSLATION\n"

abbrev pub end_line : Text
end_line = codes "\\* END TRANSLATION"

-- a translation where none was ends its line
abbrev pub line_end_if_new : Text → Text
line_end_if_new x = if is_some (region_of (walk x)) then [] else codes "\n"

-- w is x with this text between the two lines; all other bytes are as in x
pub record WithTranslation (x text w : Text) : Type 0 where
  pub at : Span
  pub is_spot : spot (walk x) ≡ Some at
  pub is : w ≡ take at.from x ++ (begin_line ++ (text ++ (end_line ++ (line_end_if_new x ++ drop at.to x))))

-- w is x with u in place of its algorithm
pub record Swapped (x u w : Text) : Type 0 where
  pub old : AlgorithmText
  pub is_old : algorithm_in x ≡ Some old
  pub is : w ≡ take old.from x ++ (u ++ drop old.rest.to x)
