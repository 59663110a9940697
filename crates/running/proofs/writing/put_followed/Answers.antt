-- Proves what is asked of the answer to a script that was followed.
use Rattle.std.proofs.Common.{◌∙◌, sym, subst}
use Rattle.running.specs.Put.{Put}
use Rattle.running.proofs.Putting.{put_memory, put_whole, put_part, put_promise, ended_fine}
use Rattle.running.proofs.writing.put_followed.Goals as goal

-- all went out
pub returns-in-Ok-put_all-clause-put : goal.returns-in-Ok-put_all-clause-put
returns-in-Ok-put_all-clause-put g c = λ forced f run.
    subst (λ a. Put g.K.Sink.wrote g.K.Sink.faults forced f a c.args.out.now c.put_all.new.sink) (sym c.end_of.ensures)
    (put_whole g.K.Sink.wrote g.K.Sink.faults forced f c.args.out.now c.put_all.new.sink c.args.followed.now.text.items c.args.followed.now.stop run
    c.deref.result.now c.deref.ensures.value c.in-Ok-put_all.ensures.ok c.in-Ok-put_all.ensures.ok_faults)

pub returns-in-Ok-put_all-clause-headline : goal.returns-in-Ok-put_all-clause-headline
returns-in-Ok-put_all-clause-headline g c = λ forced f keeps fine.
    put_promise g.K.Sink.wrote g.K.Sink.faults forced f c.args.out.now c.put_all.new.sink c.args.followed.now.text.items c.deref.result.now c.deref.ensures.value c.in-Ok-put_all.ensures.ok
    (keeps (ended_fine c.args.followed.now.stop (sym c.end_of.ensures ∙ fine)))

-- a part did
pub returns-in-Err-put_all-clause-put : goal.returns-in-Err-put_all-clause-put
returns-in-Err-put_all-clause-put g c = λ forced f run.
    let e = c.in-Err-put_all.ensures in
    subst (λ a. Put g.K.Sink.wrote g.K.Sink.faults forced f a c.args.out.now c.put_all.new.sink) (sym c.without_line.ensures.answer)
    (put_part g.K.Sink.wrote g.K.Sink.faults forced f c.args.out.now c.put_all.new.sink c.args.followed.now.text.items c.args.followed.now.stop run
    c.deref.result.now c.deref.ensures.value e.err e.cause e.faults_grow e.once)

-- there was no memory for the line
pub returns-in-Err-clause-put : goal.returns-in-Err-clause-put
returns-in-Err-clause-put g c = λ forced f run.
    subst (λ a. Put g.K.Sink.wrote g.K.Sink.faults forced f a c.args.out.now c.args.out.now) (sym c.without_line-in-Err.ensures.answer) (put_memory g.K.Sink.wrote g.K.Sink.faults forced f c.args.out.now)
