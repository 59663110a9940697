use Rattle.std.proofs.Common.{ap, find, ◌∙◌}
use Rattle.tla_token.specs.Signs.{spellings, is_among}
use Rattle.tla_token.proofs.FirstBytes.{word_from, backslash_from}
use Rattle.tla_token.proofs.sign.signs_like.Goals as goal

pub returns-then-word-eq92 : goal.returns-then-word-eq92
returns-then-word-eq92 c =
    let w = c.args.word.now in
    ap (find (λ s. is_among (spellings s) w)) c.backslash_signs.ensures ∙ backslash_from w c.if-word-eq92.true

pub returns-else-word-eq92 : goal.returns-else-word-eq92
returns-else-word-eq92 c =
    let w = c.args.word.now in
    ap (find (λ s. is_among (spellings s) w)) c.signs_from.ensures ∙ word_from w
