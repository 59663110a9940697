-- Proves that these are counts of what is written, and that a file in which something is wrong is answered so.
use Rattle.std.proofs.Common.{ap, subst, sym, ◌∙◌, Some, Err, ◌<◌, length}
use Rattle.tla_token.specs.declared.rule.Stop.{Stop}
use Rattle.tla_token.specs.Limits.{past_text}
use Rattle.module_tree.specs.TextFront.{Text}
use Rattle.file_answer.specs.Checking.{AnswersChecking}
use Rattle.file_answer.specs.Refusals.{IsStop}
use Rattle.rewriting.proofs.FileRead.{split_stop}
use Rattle.checking.proofs.CheckedFile.{stops_alike}
use Rattle.translating.specs.Translated.{options_of, AreCounts}
use Rattle.translating.proofs.WholeLaws.{memory_stop, counts_kept}
use Rattle.translating.proofs.counts.counts_of.Goals as goal

pub returns-in-Err-clause-stopped : goal.returns-in-Err-clause-stopped
returns-in-Err-clause-stopped c =
    stops_alike c.args.options.label c.args.text.now c.in-Err.stop (split_stop c.args.text.now c.in-Err.stop (λ r e. c.in-Err.ensures.refused r (ap (λ (s : Stop). Err s) e)))

pub returns-in-Err-checked_parts-clause-stopped : goal.returns-in-Err-checked_parts-clause-stopped
returns-in-Err-checked_parts-clause-stopped c =
    subst (λ (x : Text). IsStop (λ r. AnswersChecking c.args.options.label x (Some r)) c.in-Err-checked_parts.stop) c.in-Ok.ensures.parts.text c.in-Err-checked_parts.ensures.stopped

pub returns-in-Ok-with_its_translation-clause-counts : goal.returns-in-Ok-with_its_translation-clause-counts
returns-in-Ok-with_its_translation-clause-counts c =
    let y = c.in-Ok.parts.text.now in
    let text = c.in-Ok.ensures.parts.text in
    let short : length y < past_text = subst (λ (x : Text). length x < past_text) (sym text) c.requires in
    let k = c.in-Ok-with_its_translation.ensures.whole c.args.options.label c.in-Ok-checked_parts.ensures.labelled c.in-Ok-checked_parts.ensures.clean in
    subst (λ (x : Text). AreCounts (options_of c.args.options) x (record { labels = c.in-Ok-labels_in.labels; variables = c.in-Ok-with_its_translation.translated.variables; bytes = c.len.result })) text
    (counts_kept c.args.options.label c.args.options.no_terminating y c.checked_parts.new.pool c.in-Ok-checked_parts.checked c.in-Ok-checked_parts.ensures.labelled c.in-Ok-checked_parts.ensures.clean short
    c.in-Ok-with_its_translation.translated c.in-Ok-labels_in.labels c.len.result k (c.in-Ok-labels_in.ensures c.checked_parts.new.pool) (c.len.ensures ∙ c.in-Ok-with_its_translation.translated.text.ok.0))

pub returns-clause-stopped : goal.returns-clause-stopped
returns-clause-stopped c =
    memory_stop c.in-Err-with_its_translation.stop (λ r. AnswersChecking c.args.options.label c.args.text.now (Some r))
    (c.in-Err-with_its_translation.ensures.memory c.args.options.label c.in-Ok-checked_parts.ensures.labelled c.in-Ok-checked_parts.ensures.clean)
