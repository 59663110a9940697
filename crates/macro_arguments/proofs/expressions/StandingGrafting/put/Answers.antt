-- Proves that what stands for a name is put in.
use Rattle.std.proofs.Common.{Some, sym, ap, ◌∙◌}
use Rattle.macro_arguments.proofs.expressions.StandingGrafting.put.Goals as goal

pub returns-in-None-clause-tree : goal.returns-in-None-clause-tree
returns-in-None-clause-tree c = sym (c.in-None.ensures.tree c.args.pool.now c.args._place)

pub returns-in_ok-expression-in-Some-clause-tree : goal.returns-in_ok-expression-in-Some-clause-tree
returns-in_ok-expression-in-Some-clause-tree c =
    let made = c.in_ok-expression-in-Some.ensures in (made.within, sym (c.in-Some.ensures.tree c.args.pool.now c.args._place) ∙ ap Some (sym made.tree))
