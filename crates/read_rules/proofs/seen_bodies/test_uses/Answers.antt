-- Proves what is used.
use Rattle.std.proofs.Common.{List, ◌++◌, ap, ◌∙◌}
use Rattle.tla_tree.specs.Pool.{at}
use Rattle.pcal_tree.specs.laws.MacroSpots.{uses}
use Rattle.read_rules.specs.declared.uses.Use.{Use}
use Rattle.read_rules.specs.UsesIn.{uses_of}
use Rattle.read_rules.proofs.seen_bodies.test_uses.Goals as goal

pub returns : goal.returns
returns c = c.in_ok-add_uses.ensures ∙ ap (λ (us : List Use). uses_of us ++ uses (at c.args.pool.now c.args.e)) c.new-list.ensures.items
