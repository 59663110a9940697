-- Proves what is asked of `write_spec`.
use Rattle.std.proofs.Common.{map}
use Rattle.std.specs.Prelude.{codes}
use Rattle.module_tree.specs.Layout.{conjuncts_text, fairness_text}
use Rattle.module_write.specs.InMemory.{fairness_at}
use Rattle.tla_write.proofs.OneMore.{same_text}
use Rattle.module_lines.proofs.Regrouped.{list_joined}
use Rattle.module_write.proofs.write_units.write_spec.Goals as goal

pub returns : goal.returns
returns c =
    same_text c.write_fairness_lines.result c.write_fairness_lines.new.into _ _ c.write_fairness_lines.ensures
    (rw c.in_ok-extend.ensures.ok (list_joined c.args.into.now (codes "\n") (codes "Spec ==\n") (codes "  /\\ Init\n") (codes "  /\\ [][Next]_vars\n") (conjuncts_text (map fairness_text (map (fairness_at c.args.pool.now) c.args.lines.now)))))
