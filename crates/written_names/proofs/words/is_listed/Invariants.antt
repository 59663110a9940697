-- What was passed is another name.
use Rattle.std.proofs.Common.{◌≡◌, drop}
use Rattle.tla_token.specs.Signs.{is_among}
use Rattle.written_names.proofs.words.is_listed.Given as goal

abbrev pub invariant-loop-name : goal.invariant-loop-name
invariant-loop-name l = is_among (drop l.name-index l.names) l.word ≡ is_among l.names l.word
