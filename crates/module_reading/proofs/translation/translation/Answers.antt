-- Where its units are no translation, the tokens are none.
use Rattle.std.proofs.lemmas.Result.{IfErr-weaker}
use Rattle.module_tree.specs.FileUnits.{cut}
use Rattle.expr_nodes.specs.Ahead.{ahead}
use Rattle.region_made.specs.UnitsAt.{units_at}
use Rattle.module_reading.proofs.Fitness.{none_of_units}
use Rattle.module_reading.proofs.translation.translation.Goals as goal

pub returns-in-Ok-clause-none : goal.returns-in-Ok-clause-none
returns-in-Ok-clause-none c =
    IfErr-weaker c.of_units.result _ _ (λ e h. none_of_units (cut (ahead c.args.tokens.now 0)).units (units_at c.units.new.pool c.in-Ok.list.items) e c.in-Ok.ensures.read h) c.of_units.ensures.none
