-- What was passed is another word.
use Rattle.std.proofs.Common.{◌≡◌, map, drop}
use Rattle.tla_token.specs.Signs.{is_among}
use Rattle.tla_token.proofs.word.is_among.Given as goal

abbrev pub invariant-loop-other : goal.invariant-loop-other
invariant-loop-other l = is_among (map (λ w. w.now) (drop l.other-index l.words)) l.word ≡ is_among (map (λ w. w.now) l.words) l.word
