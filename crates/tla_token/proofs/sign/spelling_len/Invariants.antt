-- What was passed is not in front.
use Rattle.std.proofs.Common.{◌≡◌, map, drop, length, nat_eq, find}
use Rattle.std.specs.List.{starts_with}
use Rattle.std.specs.Option.{option_map}
use Rattle.tla_token.specs.Signs.{spellings}
use Rattle.tla_token.proofs.sign.spelling_len.Given as goal

abbrev pub invariant-loop-word : goal.invariant-loop-word
invariant-loop-word l =
    option_map length (find (λ w. starts_with nat_eq l.text w) (map (λ w. w.now) (drop l.word-index l.word-items))) ≡ option_map length (find (λ w. starts_with nat_eq l.text w) (spellings l.fn.sign))
