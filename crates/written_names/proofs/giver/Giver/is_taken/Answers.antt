-- Proves that a name is taken as it is defined.
use Rattle.std.proofs.Common.{sym, ap, ◌∙◌}
use Rattle.written_names.specs.Giving.{Known}
use Rattle.written_names.proofs.Steps.{is_known, not_word}
use Rattle.written_names.proofs.giver.Giver.is_taken.Goals as goal

pub returns-else-is_word : goal.returns-else-is_word
returns-else-is_word c = λ extended taken k.
    not_word extended c.args.self.now.names c.args.name.now c.bytes.result.now c.is_word.result c.has.result c.bytes.ensures
    (c.is_word.ensures extended (k.sequences ∙ sym (ap (λ (z : Known). z.sequences) c.self.view_is)) (k.tlc ∙ sym (ap (λ (z : Known). z.tlc) c.self.view_is)))
    c.if-is_word.false
    (sym (is_known _ c.args.self.now c.args.name.now c.has.result c.self.view_is c.has.ensures))
