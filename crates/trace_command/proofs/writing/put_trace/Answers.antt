-- Proves that what is answered to a trace that was explained is answered to the files, and what is answered where there is none.
use Rattle.std.proofs.Common.{sym, subst}
use Rattle.promise.specs.Options.{Options}
use Rattle.running.specs.InMemory.{files_of}
use Rattle.trace_command.specs.Put.{Put}
use Rattle.trace_command.proofs.Putting.{put_memory, put_refused}
use Rattle.trace_command.proofs.writing.put_trace.Goals as goal

pub returns-in-Ok-clause-put : goal.returns-in-Ok-clause-put
returns-in-Ok-clause-put g c =
    let options : Options = record { label = c.args.forced; no_terminating = c.args.no_terminating } in
    c.put_explained.ensures.put options (files_of c.args.files.now) c.in-Ok.ensures.trace

pub returns-in-Ok-clause-headline : goal.returns-in-Ok-clause-headline
returns-in-Ok-clause-headline g c =
    let options : Options = record { label = c.args.forced; no_terminating = c.args.no_terminating } in
    c.put_explained.ensures.headline options (files_of c.args.files.now) c.in-Ok.ensures.promise

pub returns-in-Err-Memory-clause-put : goal.returns-in-Err-Memory-clause-put
returns-in-Err-Memory-clause-put g c =
    let options : Options = record { label = c.args.forced; no_terminating = c.args.no_terminating } in
    subst (λ a. Put g.K.Sink.wrote g.K.Sink.faults options (files_of c.args.files.now) a c.args.out.now c.args.out.now) (sym c.without_line.ensures.answer)
    (put_memory g.K.Sink.wrote g.K.Sink.faults options (files_of c.args.files.now) c.args.out.now)

pub returns-in-Err-Refused-clause-put : goal.returns-in-Err-Refused-clause-put
returns-in-Err-Refused-clause-put g c =
    let options : Options = record { label = c.args.forced; no_terminating = c.args.no_terminating } in
    subst (λ a. Put g.K.Sink.wrote g.K.Sink.faults options (files_of c.args.files.now) a c.args.out.now c.args.out.now) (sym c.without_line-in-Err-Refused.ensures.answer)
    (put_refused g.K.Sink.wrote g.K.Sink.faults options (files_of c.args.files.now) c.args.out.now c.in-Err-Refused.which c.in-Err-Refused.refusal (rw c.in-Err-Refused.field-0-is at c.in-Err-Refused.ensures.refused))
