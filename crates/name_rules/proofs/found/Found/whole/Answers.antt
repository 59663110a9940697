-- Proves that the first offence of an expression is told.
use Rattle.std.proofs.Common.{[], ◌∙◌}
use Rattle.tla_tree.specs.Tree.{words}
use Rattle.tla_tree.specs.Pool.{at}
use Rattle.pcal_tree.specs.NameUses.{seeing_plain}
use Rattle.pcal_tree.specs.OffencesNames.{in_whole}
use Rattle.name_rules.specs.declared.found.Found.{Found}
use Rattle.name_rules.proofs.RoutineLaws.{told_inside, inside_params, none_own}
use Rattle.name_rules.proofs.found.Found.whole.Goals as goal

pub returns : goal.returns
returns c = λ s h.
    let xs = words c.args.params.now in
    let start : Found = record { first = c.restart.new.self.first; free = c.restart.new.self.free; bound = c.add_all.new.self } in
    c.tell.ensures s [] h (none_own _ c.truncate.ensures)
    ∙ told_inside start c.expr.new.self (in_whole (at c.args.pool.now c.args.e)) s (seeing_plain xs s) c.restart.ensures.first c.restart.ensures.free (inside_params c.restart.new.self.bound c.add_all.new.self xs s c.restart.ensures.bound c.in_ok-add_all.ensures) c.in_ok-expr.ensures
