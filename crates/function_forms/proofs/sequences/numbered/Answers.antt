-- Proves what is asked of `numbered`.
use Rattle.std.proofs.Common.{◌∙◌, sym}
use Rattle.function_forms.proofs.SequenceLaws.{is_sequence, no_sequence}
use Rattle.function_forms.proofs.sequences.numbered.Goals as goal

pub returns-then-is_numbered : goal.returns-then-is_numbered
returns-then-is_numbered c = sym (is_sequence c.args.domain.now c.args.values.now (sym c.if-is_numbered.true ∙ c.is_numbered.ensures))

pub returns-else-is_numbered : goal.returns-else-is_numbered
returns-else-is_numbered c = sym (no_sequence c.args.domain.now c.args.values.now (sym c.if-is_numbered.false ∙ c.is_numbered.ensures))
