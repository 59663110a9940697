use Rattle.std.proofs.Common.{◌<◌, arith, length}
use Rattle.tla_token.specs.ReservedWords.{pluscal_spelling}
use Rattle.tla_token.proofs.KeptLemmas.{kept_there}
use Rattle.algorithm_reader.proofs.WordsNext.{word_there}
use Rattle.algorithm_reader.proofs.token_step.is_next_word.Goals as goal

pub returns-then-at-len : goal.returns-then-at-len
returns-then-at-len c =
    let v = c.args.tokens.now in
    let t = c.index.result.now in
    let within : c.args.at < length v.items.items = omega (arith, c.if-at-len.true, c.len.ensures) in
    word_there v c.args.at t (pluscal_spelling c.args.word) c.is_word.result c.index.ensures within (c.is_word.ensures v.bytes.items (kept_there v.bytes.items v.items.items c.args.at t v.kept within c.index.ensures))
