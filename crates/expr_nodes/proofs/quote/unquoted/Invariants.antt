-- Why the loop of `unquoted` ends, and what it keeps: the text so far, and what the rest stands for.
use Rattle.std.proofs.Common.{◌≡◌, length}
use Rattle.tla_token.specs.Lexemes.{unquoted}
use Rattle.expr_nodes.proofs.QuoteLemmas.{before}
use Rattle.expr_nodes.proofs.quote.unquoted.Given as goal

abbrev pub invariant-loop-b : goal.invariant-loop-b
invariant-loop-b l = unquoted l.fn.raw ≡ before l.bytes.items (unquoted l.rest)

abbrev pub decreases-loop-b : goal.decreases-loop-b
decreases-loop-b l = length l.rest
