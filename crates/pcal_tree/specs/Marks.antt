-- How marks of labels and the fairness of processes are written ("A PlusCal User's Manual", section 3.7, fairness).
use Rattle.std.specs.Prelude.{ℕ, List, codes}
use Rattle.pcal_tree.specs.declared.mark.Mark.{Mark}
use Rattle.pcal_tree.specs.declared.mark.Mark.TheVariants as mark
use Rattle.pcal_tree.specs.declared.mark.Fairness.{Fairness}
use Rattle.pcal_tree.specs.declared.mark.Fairness.TheVariants as fairness

abbrev pub text_of_mark : Mark → List ℕ
text_of_mark mark.Plain = codes ":"
text_of_mark mark.Strong = codes ":+"
text_of_mark mark.LeftOut = codes ":-"

-- before the word `process`
abbrev pub text_of_fairness : Fairness → List ℕ
text_of_fairness fairness.Unfair = codes ""
text_of_fairness fairness.Weak = codes "fair "
text_of_fairness fairness.Strong = codes "fair+ "
