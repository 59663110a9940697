-- Proves what is asked of `read_row`.
use Rattle.algorithm_reader.proofs.Expressions.{enough_for_all, trees_told}
use Rattle.algorithm_reader.proofs.expression.read_row.Goals as goal

pub returns-clause-read : goal.returns-clause-read
returns-clause-read c =
    let v = c.args.tokens.now in
    trees_told v c.read_expressions_at.new.pool c.read_expressions_at.result _ (c.read_expressions_at.ensures.read _ (enough_for_all v c.args.at))
