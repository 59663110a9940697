-- Proves that what may offend is kept.
use Rattle.std.proofs.Common.{refl}
use Rattle.declared_rules.proofs.LeafLaws.{gains_keep}
use Rattle.declared_rules.proofs.bind_walk.Walk.keep.Goals as goal

pub returns : goal.returns
returns c = gains_keep c.args.self.now _ c.args.binding refl refl c.in_ok-insert.ensures.keys
