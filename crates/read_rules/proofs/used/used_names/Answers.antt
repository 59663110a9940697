-- Proves that the names are those that the expression uses.
use Rattle.std.proofs.Common.{List, ◌++◌, refl, ap, ◌∙◌}
use Rattle.tla_tree.specs.Tree.{words}
use Rattle.tla_tree.specs.Pool.{at}
use Rattle.pcal_tree.specs.Algorithm.{Name}
use Rattle.pcal_tree.specs.Reads.{used}
use Rattle.read_rules.proofs.used.used_names.Goals as goal

pub returns-in-Ok : goal.returns-in-Ok
returns-in-Ok c =
    c.met.ensures ∙ c.in-Ok.ensures refl c.new-2.ensures ∙ ap (λ (ns : List Name). ns ++ used (at c.args.pool.now c.args.e) (words c.args.params.now)) c.new.ensures.items
