-- Proves that a process gets its names.
use Rattle.std.proofs.lemmas.Result.{IfOk-weaker}
use Rattle.written_names.proofs.UnitWalks.{process_named}
use Rattle.written_names.proofs.units.process_names.Goals as goal

pub returns : goal.returns
returns c =
    IfOk-weaker c.names_within.result _ _ (λ u h ts.
    process_named c.args.giver.now c.give.new.self c.names_within.new.giver c.in_ok-title.title u _ c.args.process.now c.deref.result.now c.deref-2.result.now c.process.view_is
    c.deref.ensures.value c.deref-2.ensures.value c.in_ok-title.ensures.name c.in_ok-title.ensures.known h.0 h.1 ts)
    c.names_within.ensures
