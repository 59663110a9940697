-- The tokens of a text have no numbers past the limit.
use Rattle.std.specs.Prelude.{length}
use Rattle.value_rows.proofs.reading.read.Goals as goal

pub read_expr-requires-clause-numbers : goal.read_expr-requires-clause-numbers
read_expr-requires-clause-numbers c =
    c.given_numbers_fit.ensures.read c.args.text.now 0 (length c.args.text.now) c.in_ok-tokens.tokens c.in_ok-tokens.ensures.tokens c.in_ok-tokens.ensures.fine
