use Rattle.std.proofs.Common.{ap, sym, ◌∙◌, Some}
use Rattle.module_split.proofs.Titles.{name_span, name_within, left_within}
use Rattle.module_split.proofs.line.title_span.Goals as goal

pub overflow_sub-from : goal.overflow_sub-from
overflow_sub-from c = left_within c.args.text.now c.in_ok-named.named.now c.in_ok-named.ensures.end

pub returns-clause-title : goal.returns-clause-title
returns-clause-title c = c.in_ok-named.ensures.title ∙ ap Some (sym (name_span c.args.text.now c.in_ok-named.named.now c.word_len.result c.in_ok-named.ensures.end c.word_len.ensures))

pub returns-clause-within : goal.returns-clause-within
returns-clause-within c = name_within c.args.text.now c.in_ok-named.named.now c.word_len.result c.in_ok-named.ensures.end c.word_len.ensures
