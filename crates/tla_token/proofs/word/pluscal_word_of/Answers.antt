use Rattle.std.proofs.Common.{ap, find, ◌∙◌}
use Rattle.std.specs.Str.{bytes_eq}
use Rattle.tla_token.specs.ReservedWords.{pluscal_spelling}
use Rattle.tla_token.proofs.ReservedFound.{pluscal_from}
use Rattle.tla_token.proofs.word.pluscal_word_of.Goals as goal

pub returns-else-is_empty : goal.returns-else-is_empty
returns-else-is_empty c =
    let w = c.args.word.now in
    c.first_pluscal.ensures ∙ ap (find (λ r. bytes_eq (pluscal_spelling r) w)) c.pluscal_words_from.ensures ∙ pluscal_from w
