-- Proves that the first offence of first values is told.
use Rattle.std.proofs.Common.{[], ◌∙◌}
use Rattle.pcal_tree.specs.InMemory.{declarations_at}
use Rattle.pcal_tree.specs.OffencesNames.{in_declared}
use Rattle.name_rules.proofs.RoutineLaws.{told_inside, inside_empty, none_own}
use Rattle.name_rules.proofs.found.Found.of_globals.Goals as goal

pub returns : goal.returns
returns c = λ s h.
    c.tell.ensures s [] h (none_own _ (c.in_ok-declared.ensures.bound ∙ c.restart.ensures.bound))
    ∙ told_inside c.restart.new.self c.declared.new.self (in_declared (declarations_at c.args.pool.now c.args.list.now)) s s c.restart.ensures.first c.restart.ensures.free (inside_empty c.restart.new.self.bound s c.restart.ensures.bound) c.in_ok-declared.ensures
