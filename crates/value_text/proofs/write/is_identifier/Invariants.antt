-- What the loop of `is_identifier` keeps: the bytes that are left decide.
use Rattle.std.proofs.Common.{◌≡◌, drop}
use Rattle.std.specs.List.{list_all}
use Rattle.tla_token.specs.Lexemes.{is_word}
use Rattle.value_text.proofs.write.is_identifier.Given as goal

abbrev pub invariant-loop-b : goal.invariant-loop-b
invariant-loop-b l = list_all is_word l.word ≡ list_all is_word (drop l.b-index l.word)
