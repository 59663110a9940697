-- A translated file is translated to itself, and isn't refused: the labels that are added to its algorithm are those that were added before.
use Rattle.std.proofs.Common.{◌≡◌, ◌<◌, length, None, ap, ◌∙◌}
use Rattle.tla_token.specs.Limits.{past_text}
use Rattle.pcal_tree.specs.Labelled.{labelled}
use Rattle.pcal_tree.specs.Placeless.{placeless}
use Rattle.module_tree.specs.Layout.{layout}
use Rattle.module_tree.specs.TextFront.{Text}
use Rattle.module_tree.specs.Walk.{walk}
use Rattle.module_tree.proofs.SomeOutside.{some_outside}
use Rattle.promise.specs.Options.{Options}
use Rattle.file_answer.specs.Checking.{AnswersChecking}
use Rattle.file_answer.proofs.OneTree.{one_stands}
use Rattle.translation.specs.PromiseWhole.{WrittenWhole}
use Rattle.translation.specs.Region.{written_region}
use Rattle.translation.specs.laws.ActionLaws.{FileAgainLaw}
use Rattle.translation.specs.laws.AcceptedAlgorithm.{IsAccepted}
use Rattle.translation.proofs.AgainChecked.{checked_again}
use Rattle.translation.proofs.AgainLabels.{labels_alike}
use Rattle.translation.proofs.AgainWritten.{inside, algorithm_again, region_again, put_again_there, text_again}
use Rattle.translation.proofs.KeptAccepted.{checked_is_fine, stands_accepted}
use Rattle.translation.proofs.KeptPromise.{one_whole}

pub again_in_file : FileAgainLaw
again_in_file b forced x w o a stands accepted short fine outside put q there c here =
    let (d, also, same) = algorithm_again b x w o (labelled forced a) accepted short fine outside put a stands in
    let e = labels_alike forced a c (ap placeless (one_stands w c d here also) ∙ same) in (
      region_again b x w o (labelled forced a) accepted short fine outside put q there (labelled forced c) e,
      put_again_there b x w o (labelled forced a) accepted short fine outside put q there (labelled forced c) e,
      text_again b x w o (labelled forced a) accepted short fine outside put q there (labelled forced c) e,
    )

-- ---- texts with which nothing is wrong

module _ (options : Options) (x w : Text) (right : AnswersChecking options.label x None) (short : length x < past_text) (whole : WrittenWhole options x w) where
  accepted : IsAccepted whole.outside (labelled options.label whole.algorithm)
  accepted = stands_accepted options.label x right whole.algorithm whole.stands whole.outside whole.has

  pub text_checked_again : AnswersChecking options.label w None
  text_checked_again =
      checked_again options.label x (layout (written_region options.no_terminating whole.outside (labelled options.label whole.algorithm))) w right
      (inside options.no_terminating x w whole.outside (labelled options.label whole.algorithm) accepted short (checked_is_fine options.label x right) whole.has whole.is) whole.is

  pub text_written_again : WrittenWhole options w w
  text_written_again =
      let fine = checked_is_fine options.label x right in
      let (c, also, same) = algorithm_again options.no_terminating x w whole.outside (labelled options.label whole.algorithm) accepted short fine whole.has whole.is whole.algorithm whole.stands in
      let q = some_outside (walk w) in
      record {
        algorithm = c;
        stands = also;
        outside = q.0;
        has = q.1;
        is =
            put_again_there options.no_terminating x w whole.outside (labelled options.label whole.algorithm) accepted short fine whole.has whole.is q.0 q.1 (labelled options.label c)
            (labels_alike options.label whole.algorithm c same);
      }

  pub one_text_again : (u : Text) → WrittenWhole options w u → u ≡ w
  one_text_again u k = one_whole options w u w k text_written_again
