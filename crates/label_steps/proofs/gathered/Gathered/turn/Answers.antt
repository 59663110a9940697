-- Proves that two names are kept where they may be one variable.
use Rattle.std.proofs.Common.{refl}
use Rattle.label_steps.proofs.AddsLaws.{adds_turn}
use Rattle.label_steps.proofs.gathered.Gathered.turn.Goals as goal

pub returns : goal.returns
returns c = adds_turn c.args.known.now c.args.self.now _ c.args.first.now c.args.second.now c.in_ok-copied.field-0 c.in_ok-copied-2.field-0 c.in_ok-copied.ensures c.in_ok-copied-2.ensures refl c.in_ok-insert.ensures.keys
