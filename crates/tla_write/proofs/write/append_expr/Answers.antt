-- Proves what is asked of `append_expr`.
use Rattle.std.proofs.Common.{false}
use Rattle.tla_tree.specs.Pool.{at}
use Rattle.tla_write.proofs.WritingLemmas.{all_written}
use Rattle.tla_write.proofs.write.append_expr.Goals as goal

pub returns : goal.returns
returns c = all_written c.args.into.now c.write_part.new.into (at c.args.pool.now c.args.e) c.new.result false c.new.ensures c.in_ok-write_part.ensures
