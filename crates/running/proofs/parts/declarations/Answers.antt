-- Proves that declarations are prepared.
use Rattle.std.proofs.Common.{◌∙◌}
use Rattle.running.specs.Prepared.{names_put, own_put}
use Rattle.pcal_tree.specs.InMemory.{declarations_at}
use Rattle.running.proofs.PlacesLaws.{declarations_prepared}
use Rattle.running.proofs.parts.declarations.Goals as goal

pub returns-clause-made : goal.returns-clause-made
returns-clause-made c = λ P u is.
    c.in_ok-made.ensures.tree
    ∙ declarations_prepared (names_put c.args.places.now.local) (own_put c.args.places.now.own) P u is.names is.own (declarations_at c.args.pool.now c.args.list.now)
