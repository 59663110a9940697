-- Proves what is used.
use Rattle.std.proofs.Common.{List, ◌++◌, ap, ◌∙◌}
use Rattle.pcal_tree.specs.InMemory.{binds_at}
use Rattle.pcal_tree.specs.laws.MacroSpots.{uses_of_binds}
use Rattle.read_rules.specs.declared.uses.Use.{Use}
use Rattle.read_rules.specs.UsesIn.{uses_of}
use Rattle.read_rules.proofs.seen_bodies.bind_uses.Goals as goal

pub returns : goal.returns
returns c = c.in_ok-add_binds.ensures ∙ ap (λ (us : List Use). uses_of us ++ uses_of_binds (binds_at c.args.pool.now c.args.binds.now)) c.new-list.ensures.items
