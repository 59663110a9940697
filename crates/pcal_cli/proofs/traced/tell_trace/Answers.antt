-- Proves that the line is that of the file that can't be read, and where the trace stops that of the stop.
use Rattle.std.proofs.Common.{refl, sym, subst, ◌∙◌}
use Rattle.explained_traces.specs.Halts.{halt_by}
use Rattle.trace_command.specs.declared.answer.TraceAnswer.{TraceAnswer}
use Rattle.running.specs.Names.{names_of}
use Rattle.pcal_cli.specs.Told.{Told}
use Rattle.pcal_cli.specs.Traces.{trace_line}
use Rattle.pcal_cli.proofs.traced.tell_trace.Goals as goal

pub returns-in-ReadFault-clause-told : goal.returns-in-ReadFault-clause-told
returns-in-ReadFault-clause-told g c =
    let Tells = Told (g.E.Sink.wrote c.args.err.now) (g.E.Sink.wrote c.tell_of.new.err) (g.E.Sink.faults c.args.err.now) (g.E.Sink.faults c.tell_of.new.err) in
    subst (λ (a : TraceAnswer). Tells (trace_line (names_of c.args.names.now) a)) (sym c.in-ReadFault.is) c.tell_of.ensures.told

pub returns-in-Halted-clause-told : goal.returns-in-Halted-clause-told
returns-in-Halted-clause-told g c =
    let Tells = Told (g.E.Sink.wrote c.args.err.now) (g.E.Sink.wrote c.say.new.err) (g.E.Sink.faults c.args.err.now) (g.E.Sink.faults c.say.new.err) in
    let s = c.in-Halted.field-0 in
    subst (λ (a : TraceAnswer). Tells (trace_line (names_of c.args.names.now) a)) (sym c.in-Halted.is)
    (subst Tells (c.deref.ensures.value ∙ c.requires.line s (halt_by s) c.in-Halted.is refl) c.say.ensures.told)
