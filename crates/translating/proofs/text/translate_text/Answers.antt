-- Proves that what is written is the whole and keeps the promise, and that a file in which something is wrong is answered so.
use Rattle.std.proofs.Common.{ap, subst, Some, None, Err}
use Rattle.tla_token.specs.declared.rule.Stop.{Stop}
use Rattle.module_tree.specs.TextFront.{Text}
use Rattle.file_answer.specs.Checking.{AnswersChecking}
use Rattle.file_answer.specs.Refusals.{IsStop}
use Rattle.translation.proofs.KeptPromise.{texts_keep_the_promise}
use Rattle.rewriting.proofs.FileRead.{split_stop}
use Rattle.checking.proofs.CheckedFile.{stops_alike}
use Rattle.translating.specs.Translated.{options_of, IsTranslated}
use Rattle.translating.proofs.text.translate_text.Goals as goal

pub returns-in-Err-clause-stopped : goal.returns-in-Err-clause-stopped
returns-in-Err-clause-stopped c =
    stops_alike c.args.options.label c.args.text.now c.in-Err.stop (split_stop c.args.text.now c.in-Err.stop (λ r e. c.in-Err.ensures.refused r (ap (λ (s : Stop). Err s) e)))

pub returns-in-Err-checked_parts-clause-stopped : goal.returns-in-Err-checked_parts-clause-stopped
returns-in-Err-checked_parts-clause-stopped c =
    subst (λ (x : Text). IsStop (λ r. AnswersChecking c.args.options.label x (Some r)) c.in-Err-checked_parts.stop) c.in-Ok.ensures.parts.text c.in-Err-checked_parts.ensures.stopped

pub returns-in-Ok-with_its_translation-clause-promise : goal.returns-in-Ok-with_its_translation-clause-promise
returns-in-Ok-with_its_translation-clause-promise c =
    let text = c.in-Ok.ensures.parts.text in
    let right = subst (λ (x : Text). AnswersChecking c.args.options.label x None) text c.in-Ok-checked_parts.ensures.clean in
    let k = c.in-Ok-with_its_translation.ensures.whole c.args.options.label c.in-Ok-checked_parts.ensures.labelled c.in-Ok-checked_parts.ensures.clean in
    let here = subst (λ (x : Text). IsTranslated (options_of c.args.options) x c.in-Ok-with_its_translation.translated) text k in
    texts_keep_the_promise (options_of c.args.options) c.args.text.now c.in-Ok-with_its_translation.translated.text.items right c.requires here.whole
