-- Proves what is asked of `write_terminating`.
use Rattle.std.specs.Prelude.{codes}
use Rattle.tla_tree.specs.Pool.{at}
use Rattle.tla_tree.specs.Written.{written}
use Rattle.module_lines.proofs.Regrouped.{lines_joined}
use Rattle.module_lines.proofs.ended.write_terminating.Goals as goal

pub returns-in_ok-extend-2 : goal.returns-in_ok-extend-2
returns-in_ok-extend-2 c =
    rw (c.in-Some.is, c.in_ok-extend-2.ensures.ok, c.in_ok-append_expr.ensures, c.in_ok-extend.ensures.ok)
    (lines_joined c.args.into.now (codes "\n") (codes "Terminating ==\n") (codes "  ") (codes "/\\ (") (written (at c.args.pool.now c.in-Some.e)) (codes ")") (codes "\n") (codes "  /\\ UNCHANGED vars\n"))
