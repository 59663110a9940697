-- Modules and constants are seen.
use Rattle.std.proofs.Common.{List, subst}
use Rattle.tla_tree.specs.Tree.{Word, words}
use Rattle.algorithm_limits.specs.DepthsIn.{Hides}
use Rattle.module_outside.proofs.SightLaws.{none_seen}
use Rattle.module_outside.proofs.sight.Sight.new.Goals as goal

pub returns : goal.returns
returns c =
    none_seen _ c.add_all.new.self _ _ (words c.args.extended.now) (words c.args.constants.now) c.new.ensures c.new-2.ensures c.modules_among.ensures
    (subst (λ (old : List Word). Hides old c.add_all.new.self (words c.args.constants.now)) c.new-names.ensures c.in_ok-add_all.ensures)
