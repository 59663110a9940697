-- Proves what is asked of `read_bounded`.
use Rattle.std.proofs.Common.{◌<◌, length, Result, Ok, Err}
use Rattle.std.specs.Prelude.{IfOk}
use Rattle.tla_expr.proofs.ReadEnough.{bounded_further}
use Rattle.tla_expr.proofs.read_parts.read_bounded.Goals as goal

pub returns-clause-further : goal.returns-clause-further
returns-clause-further c = bounded_further c.args.tokens.now c.args.at _ c.args.left c.args.edge c.read_at.result c.requires.there c.read_at.ensures.inside c.read_at.ensures.read
