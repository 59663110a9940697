-- Proves that one word more is put in the pool.
use Rattle.std.proofs.Common.{◌+◌, ◌∷◌, ◌++◌, [], ℕ, List, map, take, sym, subst}
use Rattle.tla_tree.specs.Tree.{Tree}
use Rattle.tla_tree.proofs.PoolNumbers.{Keeps-then, Have, Have-push}
use Rattle.module_tree.specs.Formulas.{quoted}
use Rattle.fairness_lines.proofs.TableRows.{map_taken}
use Rattle.fairness_lines.proofs.lines.quoted_names.Goals as goal

pub loop-name-preserved : goal.loop-name-preserved
loop-name-preserved c = (
  Keeps-then c.args.pool.now c.loop-name.pool c.quoted_name.new.pool c.loop-name.invariant.0 c.in_ok-quoted_name.ensures.kept,
  subst (λ (is : List ℕ). Have c.quoted_name.new.pool is (map quoted (take (c.loop-name.name-index + 1) c.args.names.now))) (sym c.in_ok-push.ensures.items)
      (subst (λ (vs : List Tree). Have c.quoted_name.new.pool (c.loop-name.strings.items ++ c.in_ok-quoted_name.field-0 ∷ []) vs)
      (sym (map_taken quoted c.args.names.now c.loop-name.name-index c.name-item.result c.name-item.is c.loop-name-test.true))
      (Have-push c.loop-name.pool c.quoted_name.new.pool c.loop-name.strings.items (map quoted (take c.loop-name.name-index c.args.names.now)) c.in_ok-quoted_name.field-0 (quoted c.name-item.result)
      c.in_ok-quoted_name.ensures.kept c.loop-name.invariant.1 c.in_ok-quoted_name.ensures.within c.in_ok-quoted_name.ensures.tree)),
)
