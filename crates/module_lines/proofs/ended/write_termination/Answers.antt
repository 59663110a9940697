-- Proves what is asked of `write_termination`.
use Rattle.std.specs.Prelude.{codes}
use Rattle.tla_tree.specs.Pool.{at}
use Rattle.tla_tree.specs.Written.{written}
use Rattle.tla_write.proofs.OneMore.{same_text}
use Rattle.module_lines.proofs.Regrouped.{closed_joined}
use Rattle.module_lines.proofs.ended.write_termination.Goals as goal

pub returns : goal.returns
returns c =
    same_text c.extend-2.result c.extend-2.new.self _ _ c.extend-2.ensures.ok
    (rw (c.in_ok-append_expr.ensures, c.in_ok-extend.ensures.ok) (closed_joined c.args.into.now (codes "\n") (codes "Termination == <>(") (written (at c.args.pool.now c.args.e)) (codes ")") (codes "\n")))
