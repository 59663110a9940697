-- What `translate` writes, to the byte: the text that was read, with the written module of the algorithm that is in it ("A PlusCal User's Manual", sections 2.2, 3 and 4).
use Rattle.tla_value.specs.Outside.{Outside}
use Rattle.pcal_tree.specs.Algorithm.{Algorithm}
use Rattle.pcal_tree.specs.Labelled.{labelled}
use Rattle.module_tree.specs.Layout.{layout}
use Rattle.module_tree.specs.TextFront.{Text}
use Rattle.module_tree.specs.Walk.{walk}
use Rattle.module_tree.specs.WithTranslation.{WithTranslation}
use Rattle.module_tree.specs.laws.Outsides.{HasOutside}
use Rattle.promise.specs.Headline.{Stands}
use Rattle.promise.specs.Options.{Options}
use Rattle.translation.specs.Region.{written_region}

-- w is the text x with the translation of the algorithm that is in it, labels added where they are forced or there are none, beside what x has outside
pub record WrittenWhole (options : Options) (x w : Text) : Type 0 where
  pub algorithm : Algorithm
  pub stands : Stands x algorithm
  pub outside : Outside
  pub has : HasOutside (walk x) outside
  pub is : WithTranslation x (layout (written_region options.no_terminating outside (labelled options.label algorithm))) w
