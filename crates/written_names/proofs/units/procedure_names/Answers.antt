-- Proves that a procedure gets its names.
use Rattle.std.proofs.lemmas.Result.{IfOk-weaker}
use Rattle.written_names.proofs.UnitWalks.{procedure_named}
use Rattle.written_names.proofs.units.procedure_names.Goals as goal

pub returns : goal.returns
returns c =
    IfOk-weaker c.names_within.result _ _ (λ u h ts.
    procedure_named c.args.giver.now c.give.new.self c.names_within.new.giver c.in_ok-title.title u _ c.args.procedure.now c.deref.result.now c.deref-2.result.now c.deref-3.result.now c.procedure.view_is
    c.deref.ensures.value c.deref-2.ensures.value c.deref-3.ensures.value c.in_ok-title.ensures.name c.in_ok-title.ensures.known h.0 h.1 ts)
    c.names_within.ensures
