-- Proves that the items of a statement are written, and whether it ends its step.
use Rattle.std.proofs.Common.{refl}
use Rattle.pcal_tree.specs.InMemory.{span_of}
use Rattle.action_builder.specs.WrittenNames.{renames}
use Rattle.step_items.proofs.simple.simple.Goals as goal

pub returns-clause-made : goal.returns-clause-made
returns-clause-made c = λ P u x h fits. (c.in_ok-assigned.ensures.made P u x h (span_of c.args.span.now) refl fits.plain, c.ends_step.ensures c.args.pool.now (renames P u))
