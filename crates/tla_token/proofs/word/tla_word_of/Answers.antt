use Rattle.std.proofs.Common.{ap, find, ◌∙◌}
use Rattle.std.specs.Str.{bytes_eq}
use Rattle.tla_token.specs.ReservedWords.{tla_spelling}
use Rattle.tla_token.proofs.ReservedFound.{tla_from}
use Rattle.tla_token.proofs.word.tla_word_of.Goals as goal

pub returns-else-is_empty : goal.returns-else-is_empty
returns-else-is_empty c =
    let w = c.args.word.now in
    c.first_tla.ensures ∙ ap (find (λ r. bytes_eq (tla_spelling r) w)) c.tla_words_from.ensures ∙ tla_from w
