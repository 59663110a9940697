-- How a file is refused where its algorithm is to mean something, as `check` asks it, and each command that translates it: by all rules
-- ("A PlusCal User's Manual", section 3; sizes with macro calls written out, section 3.5).
use Rattle.std.specs.Prelude.{◌≡◌, Bool, [], ◌++◌, Option}
use Rattle.tla_token.specs.declared.rule.Refusal.{Refusal}
use Rattle.tla_value.specs.Outside.{Outside}
use Rattle.pcal_tree.specs.Algorithm.{Algorithm}
use Rattle.pcal_tree.specs.Labelled.{labelled}
use Rattle.pcal_tree.specs.OffencesLabels.{label_offences}
use Rattle.pcal_tree.specs.OffencesOfNames.{name_offences}
use Rattle.module_tree.specs.TextFront.{Text}
use Rattle.module_tree.specs.Walk.{walk}
use Rattle.module_tree.specs.laws.Outsides.{HasOutside}
use Rattle.macro_expand.specs.TooLarge.{too_large}
use Rattle.file_answer.specs.Holds.{HoldsTree}
use Rattle.file_answer.specs.Refusals.{Wrong, of_all, refusal_of}
use Rattle.file_answer.specs.Spelling.{IsSpelling}

-- of the algorithm that is spelled, with labels added, beside what the file has outside: its names by the rules 20 to 34, its labels by 40 to 48,
-- and by 49 that it is too large
pub record OfTree (w : Wrong) (o : Outside) (g : Algorithm) : Type 0 where
  pub names : w.names ≡ name_offences g o
  pub labels : w.labels ≡ label_offences g ++ too_large g

-- what is wrong with the file x, labels being added in every algorithm or only where they must be: up to how its algorithm is spelled as for a
-- rewriting, and then with the tree that is spelled; nothing else where none is
pub record IsChecking (forced : Bool) (x : Text) (w : Wrong) : Type 0 where
  pub spelling : IsSpelling x (record w { names = []; labels = [] })
  pub tree : (g : Algorithm) (o : Outside) → HoldsTree x g → HasOutside (walk x) o → OfTree w o (labelled forced g)
  pub no_tree : ((g : Algorithm) → HoldsTree x g → ⊥) → (w.names ≡ []) × (w.labels ≡ [])

-- the refusal, by the least rule that counts at its first place; none, where nothing is wrong
abbrev pub AnswersChecking : Bool → Text → Option Refusal → Type 0
AnswersChecking forced x r = (w : Wrong) × IsChecking forced x w × (refusal_of of_all w ≡ r)
