-- Proves that two left sides are kept where they may be one variable.
use Rattle.std.proofs.Common.{refl}
use Rattle.label_steps.proofs.AddsLaws.{adds_once}
use Rattle.label_steps.proofs.gathered.Gathered.once.Goals as goal

pub returns : goal.returns
returns c = adds_once c.args.known.now c.args.self.now _ c.args.first.now c.args.second.now c.in_ok-copied.field-0 c.in_ok-copied-2.field-0 c.in_ok-copied.ensures c.in_ok-copied-2.ensures refl c.in_ok-insert.ensures.keys
