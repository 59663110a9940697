-- Proves that the line is that of the file that can't be read, and where the script stops that of the stop.
use Rattle.std.proofs.Common.{refl, sym, subst, ◌∙◌}
use Rattle.followed_runs.specs.Stopping.{reply_by}
use Rattle.running.specs.declared.answer.RunAnswer.{RunAnswer}
use Rattle.running.specs.Names.{names_of}
use Rattle.pcal_cli.specs.Told.{Told}
use Rattle.pcal_cli.specs.Runs.{run_line}
use Rattle.pcal_cli.proofs.three.tell_run.Goals as goal

pub returns-in-ReadFault-clause-told : goal.returns-in-ReadFault-clause-told
returns-in-ReadFault-clause-told g c =
    let Tells = Told (g.E.Sink.wrote c.args.err.now) (g.E.Sink.wrote c.tell_of.new.err) (g.E.Sink.faults c.args.err.now) (g.E.Sink.faults c.tell_of.new.err) in
    subst (λ (a : RunAnswer). Tells (run_line (names_of c.args.names.now) a)) (sym c.in-ReadFault.is) c.tell_of.ensures.told

pub returns-in-Stopped-clause-told : goal.returns-in-Stopped-clause-told
returns-in-Stopped-clause-told g c =
    let Tells = Told (g.E.Sink.wrote c.args.err.now) (g.E.Sink.wrote c.say.new.err) (g.E.Sink.faults c.args.err.now) (g.E.Sink.faults c.say.new.err) in
    let s = c.in-Stopped.field-0 in
    subst (λ (a : RunAnswer). Tells (run_line (names_of c.args.names.now) a)) (sym c.in-Stopped.is)
    (subst Tells (c.deref.ensures.value ∙ c.requires.line s (record { step = s.step; reply = reply_by s.cause }) c.in-Stopped.is refl) c.say.ensures.told)
