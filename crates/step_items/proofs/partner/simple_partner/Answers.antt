-- Proves that a return is found.
use Rattle.std.proofs.Common.{ap}
use Rattle.pcal_tree.specs.declared.algorithm.Simple.{Simple}
use Rattle.pcal_tree.specs.Algorithm.{then}
use Rattle.pcal_tree.specs.InMemory.{simple_at}
use Rattle.pcal_tree.specs.Run.{partner_of}
use Rattle.step_items.proofs.partner.simple_partner.Goals as goal

pub returns-in-Return : goal.returns-in-Return
returns-in-Return c = λ ts at rest. (at, ap (λ (s : Simple). partner_of (then at (simple_at ts s) rest)) c.in-Return.is)
