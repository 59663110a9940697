-- Proves that the names are those that the expression uses.
use Rattle.std.proofs.lemmas.Result.{on_ok_weaker}
use Rattle.std.proofs.Common.{List, Bool, ◌++◌, ap, ◌∙◌, subst}
use Rattle.tla_tree.specs.Tree.{Word, words}
use Rattle.tla_tree.specs.Pool.{at}
use Rattle.pcal_tree.specs.Reads.{used}
use Rattle.algorithm_limits.specs.DepthsIn.{Hides}
use Rattle.module_outside.proofs.SightLaws.{binds_all}
use Rattle.read_rules.specs.Using.{kept}
use Rattle.read_rules.proofs.used.Used.under.Goals as goal

pub returns : goal.returns
returns c =
    on_ok_weaker c.expr.result
    (λ done o b.
    let ps = words c.args.params.now in
    done.meets ps (binds_all c.add_all.new.self ps (subst (λ (hs : List Word). Hides hs c.add_all.new.self ps) b c.in_ok-add_all.ensures))
    ∙ ap (λ (s : Bool). c.args.self.now.names.items ++ kept s (used (at c.args.pool.now c.args.e) ps)) o) c.expr.ensures
