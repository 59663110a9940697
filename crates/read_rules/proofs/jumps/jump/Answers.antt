-- Proves what a call of a procedure uses.
use Rattle.std.proofs.Common.{List, ◌++◌, refl, ap, ◌∙◌}
use Rattle.pcal_tree.specs.Algorithm.{Name}
use Rattle.pcal_tree.specs.InMemory.{procedure_at}
use Rattle.pcal_tree.specs.OffencesStale.{used_by_variables}
use Rattle.read_rules.proofs.jumps.jump.Goals as goal

pub returns-in-Ok-clause-uses : goal.returns-in-Ok-clause-uses
returns-in-Ok-clause-uses c =
    c.met.ensures ∙ c.in-Ok.ensures refl c.new-2.ensures ∙ ap (λ (ns : List Name). ns ++ used_by_variables (procedure_at c.args.pool.now c.args.one.now)) c.new.ensures.items
