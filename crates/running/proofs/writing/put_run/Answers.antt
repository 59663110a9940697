-- Proves that what is answered to a script that was followed is answered to the files, and what is answered where there is none.
use Rattle.std.proofs.Common.{sym, subst}
use Rattle.running.specs.InMemory.{files_of}
use Rattle.running.specs.Put.{Put}
use Rattle.running.proofs.Putting.{put_memory, put_refused}
use Rattle.running.proofs.writing.put_run.Goals as goal

pub returns-in-Ok-clause-put : goal.returns-in-Ok-clause-put
returns-in-Ok-clause-put g c = c.put_followed.ensures.put c.args.forced (files_of c.args.files.now) c.in-Ok.ensures.run

pub returns-in-Ok-clause-headline : goal.returns-in-Ok-clause-headline
returns-in-Ok-clause-headline g c = c.put_followed.ensures.headline c.args.forced (files_of c.args.files.now) c.in-Ok.ensures.promise

pub returns-in-Err-Memory-clause-put : goal.returns-in-Err-Memory-clause-put
returns-in-Err-Memory-clause-put g c =
    subst (λ a. Put g.K.Sink.wrote g.K.Sink.faults c.args.forced (files_of c.args.files.now) a c.args.out.now c.args.out.now) (sym c.without_line.ensures.answer)
    (put_memory g.K.Sink.wrote g.K.Sink.faults c.args.forced (files_of c.args.files.now) c.args.out.now)

pub returns-in-Err-Refused-clause-put : goal.returns-in-Err-Refused-clause-put
returns-in-Err-Refused-clause-put g c =
    subst (λ a. Put g.K.Sink.wrote g.K.Sink.faults c.args.forced (files_of c.args.files.now) a c.args.out.now c.args.out.now) (sym c.without_line-in-Err-Refused.ensures.answer)
    (put_refused g.K.Sink.wrote g.K.Sink.faults c.args.forced (files_of c.args.files.now) c.args.out.now c.in-Err-Refused.which c.in-Err-Refused.refusal (rw c.in-Err-Refused.field-0-is at c.in-Err-Refused.ensures.refused))
