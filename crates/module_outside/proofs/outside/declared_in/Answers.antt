-- All that is declared is found.
use Rattle.std.proofs.Common.{List, ◌++◌, ap, ◌∙◌}
use Rattle.tla_tree.specs.Tree.{Name}
use Rattle.module_tree.specs.FileUnits.{cut}
use Rattle.expr_nodes.specs.Ahead.{ahead}
use Rattle.outside_reading.specs.PlainUnits.{all_modules, all_constants}
use Rattle.module_outside.proofs.outside.declared_in.Goals as goal

pub returns-clause-extended : goal.returns-clause-extended
returns-clause-extended c =
    c.in_ok-declare_all-2.ensures.extended
    ∙ ap (λ (l : List Name). l ++ all_modules (cut (ahead c.args.after.now 0)).units) (c.in_ok-declare_all.ensures.extended ∙ ap (λ (l : List Name). l ++ all_modules (cut (ahead c.args.before.now 0)).units) c.new.ensures.items)

pub returns-clause-constants : goal.returns-clause-constants
returns-clause-constants c =
    c.in_ok-declare_all-2.ensures.constants
    ∙ ap (λ (l : List Name). l ++ all_constants (cut (ahead c.args.after.now 0)).units) (c.in_ok-declare_all.ensures.constants ∙ ap (λ (l : List Name). l ++ all_constants (cut (ahead c.args.before.now 0)).units) c.new-2.ensures.items)
