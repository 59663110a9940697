-- The tokens of a text have no numbers past the limit.
use Rattle.std.specs.Prelude.{length}
use Rattle.part_rows.proofs.algorithms.read.Goals as goal

pub read_p-requires : goal.read_p-requires
read_p-requires c =
    c.given_numbers_fit.ensures.read c.args.text.now 0 (length c.args.text.now) c.in_ok-tokens.tokens c.in_ok-tokens.ensures.tokens c.in_ok-tokens.ensures.fine

pub read_c-requires : goal.read_c-requires
read_c-requires c =
    c.given_numbers_fit.ensures.read c.args.text.now 0 (length c.args.text.now) c.in_ok-tokens.tokens c.in_ok-tokens.ensures.tokens c.in_ok-tokens.ensures.fine
