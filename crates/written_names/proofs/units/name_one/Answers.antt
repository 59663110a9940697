-- Proves that a word gets its name, which is kept.
use Rattle.std.proofs.lemmas.Result.{on_ok_weaker}
use Rattle.written_names.proofs.Given.{gives_one}
use Rattle.written_names.proofs.units.name_one.Goals as goal

pub returns : goal.returns
returns c =
    on_ok_weaker c.keep.result (λ h. gives_one c.args.giver.now c.give.new.self c.args.into.now c.keep.new.self c.args.name.now c.in_ok-written.written c.in_ok-written.ensures.name c.in_ok-written.ensures.known h) c.keep.ensures
