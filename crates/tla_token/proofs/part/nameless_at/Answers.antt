use Rattle.std.proofs.Common.{◌≡◌, ◌+◌, ◌<◌, false, length, take, drop, get_or, ap, sym, ◌∙◌, Some}
use Rattle.std.proofs.lemmas.List.{take_rest}
use Rattle.tla_token.specs.Lexemes.{is_word, is_digit}
use Rattle.tla_token.specs.Cut.{run}
use Rattle.tla_token.specs.Scan.{worded}
use Rattle.tla_token.proofs.Fronts.{front_word, some_there}
use Rattle.tla_token.proofs.part.nameless_at.Goals as goal

pub returns-then-begins_worded : goal.returns-then-begins_worded
returns-then-begins_worded c =
    let t = c.args.text.now in
    let some : 0 < length t = some_there (length t) c.is_empty.result c.is_empty.ensures c.if-is_empty.false in
    let n : c.word_len.result ≡ length (run is_word (drop 1 t)) = rw take_rest at c.word_len.ensures in
    let d : is_digit (get_or t 0 0) ≡ false = sym c.is_digit.ensures ∙ c.if-is_digit.false in
    ap Some (c.worded.ensures ∙ ap (λ k. worded (take (1 + k) t)) n)
    ∙ front_word t some c.requires.nameless d (sym c.begins_worded.ensures ∙ c.if-begins_worded.true)
