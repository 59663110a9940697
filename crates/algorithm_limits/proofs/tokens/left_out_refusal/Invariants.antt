-- What is kept while words and signs that are left out are looked for.
use Rattle.std.proofs.Common.{◌≡◌}
use Rattle.tla_token.specs.TokensSeen.{tokens_seen}
use Rattle.pcal_tree.specs.Offences.{first}
use Rattle.algorithm_answer.specs.TokensRefused.{left_out_at}
use Rattle.algorithm_limits.proofs.TokensFound.{found_from}
use Rattle.algorithm_limits.proofs.tokens.left_out_refusal.Given as goal

abbrev pub invariant-loop-i : goal.invariant-loop-i
invariant-loop-i l = found_from l.tokens.bytes.items l.tokens.items.items l.found l.i ≡ first (left_out_at (tokens_seen l.tokens))
