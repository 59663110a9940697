-- What `make` writes of the module that it makes: three counts of it with its translation.
use Rattle.std.specs.Prelude.{◌≡◌, List, ℕ, false}
use Rattle.pcal_tree.specs.Labelled.{labelled}
use Rattle.make_module.specs.Big.{counts_text}
use Rattle.promise.specs.Headline.{Headline}
use Rattle.promise.specs.Options.{no_options}
use Rattle.translation.specs.Region.{written_region}
use Rattle.translation.specs.PromiseWhole.{WrittenWhole}

-- w counts labels, variables and bytes of what is written for the text x, without options
pub record IsCounted (x w : List ℕ) : Type 0 where
  pub text : List ℕ
  pub whole : WrittenWhole no_options x text
  pub counts : w ≡ counts_text (labelled false whole.algorithm) (written_region false whole.outside (labelled false whole.algorithm)).variables text

-- w counts labels, variables and bytes of a text that is to the text x as a translation promises it
pub record CountsKept (x w : List ℕ) : Type 0 where
  pub text : List ℕ
  pub keeps : Headline no_options x text
  pub counts : w ≡ counts_text (labelled false keeps.algorithm) keeps.translates.module_of.region.variables text
