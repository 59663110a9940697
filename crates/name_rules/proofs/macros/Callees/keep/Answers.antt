-- Proves that it is kept by the name.
use Rattle.std.proofs.Common.{refl}
use Rattle.name_rules.proofs.macros.Callees.keep.Goals as goal

pub returns : goal.returns
returns c = (c.in_ok-before.ensures.entries, refl)
