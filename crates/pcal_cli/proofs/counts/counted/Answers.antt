-- Proves that the lines have the counts of what is written, which keeps the promise.
use Rattle.std.proofs.Common.{ap, sym, ◌∙◌, length, false}
use Rattle.pcal_tree.specs.Algorithm.{Algorithm}
use Rattle.pcal_tree.specs.Labelled.{labelled}
use Rattle.make_module.specs.Big.{counted_text, label_count}
use Rattle.pcal_cli.proofs.counts.counted.Goals as goal

pub returns-in-Ok-count_lines-clause-counts : goal.returns-in-Ok-count_lines-clause-counts
returns-in-Ok-count_lines-clause-counts c =
    let k = c.in-Ok.ensures.counts in
    record { text = k.text; whole = k.whole; counts = c.in-Ok-count_lines.ensures ∙ (λ i. counted_text (k.labels i) (k.variables i) (k.bytes i)) }

pub returns-in-Ok-count_lines-clause-kept : goal.returns-in-Ok-count_lines-clause-kept
returns-in-Ok-count_lines-clause-kept c =
    let k = c.in-Ok.ensures.counts in
    let labels = k.labels ∙ ap (λ (a : Algorithm). label_count (labelled false a)) (sym k.keeps.algorithm) in
    let variables = k.variables ∙ ap length (sym k.keeps.variables) in
    record { text = k.text; keeps = k.keeps.keeps; counts = c.in-Ok-count_lines.ensures ∙ (λ i. counted_text (labels i) (variables i) (k.bytes i)) }
