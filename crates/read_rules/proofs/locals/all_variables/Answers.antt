-- Proves that these are all variables.
use Rattle.std.proofs.Common.{List, sym, subst}
use Rattle.tla_tree.specs.Tree.{Word}
use Rattle.algorithm_limits.specs.DepthsIn.{Hides}
use Rattle.module_outside.specs.SightIn.{Binds}
use Rattle.module_outside.proofs.SightLaws.{binds_all}
use Rattle.read_rules.specs.Locals.{algorithm_words}
use Rattle.read_rules.proofs.LocalLaws.{variables_declared}
use Rattle.read_rules.proofs.locals.all_variables.Goals as goal

pub returns-in-Ok : goal.returns-in-Ok
returns-in-Ok c = λ ts.
    let a = c.args.algorithm.now in
    let last = c.add_variables.new.names in
    subst (λ (ws : List Word). Binds last ws) (sym (variables_declared ts a))
    (binds_all last (algorithm_words a) (subst (λ (hs : List Word). Hides hs last (algorithm_words a)) c.new-names.ensures c.in-Ok.ensures))
