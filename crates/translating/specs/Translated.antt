-- A module with its translation in memory, and what is counted of it.
use Rattle.std.specs.Prelude.{◌≡◌, Bool, length}
use Rattle.pcal_tree.specs.Labelled.{labelled}
use Rattle.pcal_tree.specs.Program.{Program}
use Rattle.module_tree.specs.Layout.{layout}
use Rattle.module_tree.specs.TextFront.{Text}
use Rattle.make_module.specs.Big.{label_count}
use Rattle.promise.specs.Headline.{Headline}
use Rattle.promise.specs.Options as pure
use Rattle.translation.specs.PromiseWhole.{WrittenWhole}
use Rattle.translation.specs.Region.{region_of, written_region}
use Rattle.translating.specs.declared.options.Options.{Options}
use Rattle.translating.specs.declared.region_text.RegionText.{RegionText}
use Rattle.translating.specs.declared.placed.Translated.{Translated}
use Rattle.translating.specs.declared.counts.Counts.{Counts}

-- what is written for x keeps the promise, by the one algorithm and a module of these variables
pub record KeptAs (options : pure.Options) (x w : Text) (whole : WrittenWhole options x w) : Type 0 where
  pub keeps : Headline options x w
  pub algorithm : keeps.algorithm ≡ whole.algorithm
  pub variables : keeps.translates.module_of.region.variables ≡ (written_region options.no_terminating whole.outside (labelled options.label whole.algorithm)).variables

-- the options as the promise has them
abbrev pub options_of : Options → pure.Options
options_of options = record { label = options.label; no_terminating = options.no_terminating }

-- the text of the translation of a program, places and all, and how many variables are declared
pub record IsRegionText (no_terminating : Bool) (P : Program) (t : RegionText) : Type 0 where
  pub text : t.text ≡ layout (region_of no_terminating P)
  pub variables : t.variables ≡ length (region_of no_terminating P).variables

-- what is written for the text x, and how many variables are declared
pub record IsTranslated (options : pure.Options) (x : Text) (t : Translated) : Type 0 where
  pub whole : WrittenWhole options x t.text.items
  pub variables : t.variables ≡ length (written_region options.no_terminating whole.outside (labelled options.label whole.algorithm)).variables

-- counts of what is written for the text x, and that it keeps the promise
pub record AreCounts (options : pure.Options) (x : Text) (c : Counts) : Type 0 where
  pub text : Text
  pub whole : WrittenWhole options x text
  pub labels : c.labels ≡ label_count (labelled options.label whole.algorithm)
  pub variables : c.variables ≡ length (written_region options.no_terminating whole.outside (labelled options.label whole.algorithm)).variables
  pub bytes : c.bytes ≡ length text
  pub keeps : KeptAs options x text whole
