-- Proves that what is answered to the texts that were read is answered to the files, and what is answered where one wasn't read.
use Rattle.std.proofs.Common.{length, ap, sym, subst, arith}
use Rattle.run_answer.specs.Chosen.{Files, of_module, of_config, of_third}
use Rattle.running.specs.Names.{names_of}
use Rattle.running.specs.Answered.{AnsweredRun, KeepsPromise}
use Rattle.running.specs.Put.{Put}
use Rattle.running.specs.Reading.{files_in}
use Rattle.running.proofs.Told.{of_read}
use Rattle.running.proofs.Answering.{answered_unread, answered_read}
use Rattle.running.proofs.command.run_out.Goals as goal

-- what was read is short
pub put_run-requires-clause-source : goal.put_run-requires-clause-source
put_run-requires-clause-source g c =
    let same = ap (λ (f : Files). length f.source) c.in_memory.ensures in
    let short = c.in-Ok.ensures.read.short of_module in
    omega (arith, same, short)

pub put_run-requires-clause-config : goal.put_run-requires-clause-config
put_run-requires-clause-config g c =
    let same = ap (λ (f : Files). length f.config) c.in_memory.ensures in
    let short = c.in-Ok.ensures.read.short of_config in
    omega (arith, same, short)

pub put_run-requires-clause-script : goal.put_run-requires-clause-script
put_run-requires-clause-script g c =
    let same = ap (λ (f : Files). length f.third) c.in_memory.ensures in
    let short = c.in-Ok.ensures.read.short of_third in
    omega (arith, same, short)

pub returns-in-Ok-clause-answered : goal.returns-in-Ok-clause-answered
returns-in-Ok-clause-answered g c =
    answered_read g.H.Shelf.texts g.H.Shelf.given g.H.Shelf.faults g.K.Sink.wrote g.K.Sink.faults (names_of c.args.names.now) c.args.forced c.put_run.result.answer c.args.shelf.now c.load_three.new.shelf
    (files_in c.in-Ok.loaded) c.args.out.now c.put_run.new.out c.in-Ok.ensures.read
    (subst (λ (f : Files). Put g.K.Sink.wrote g.K.Sink.faults c.args.forced f c.put_run.result.answer c.args.out.now c.put_run.new.out) c.in_memory.ensures c.put_run.ensures.put)

pub returns-in-Ok-clause-headline : goal.returns-in-Ok-clause-headline
returns-in-Ok-clause-headline g c = λ h.
    let keeps = KeepsPromise (g.K.Sink.wrote c.args.out.now) (g.K.Sink.wrote c.put_run.new.out) c.args.forced in
    of_read (g.H.Shelf.texts c.args.shelf.now) (names_of c.args.names.now) (files_in c.in-Ok.loaded) keeps c.in-Ok.ensures.read.text (subst keeps c.in_memory.ensures (c.put_run.ensures.headline h))

pub returns-in-Err-clause-answered : goal.returns-in-Err-clause-answered
returns-in-Err-clause-answered g c =
    subst
    (λ a. AnsweredRun g.H.Shelf.texts g.H.Shelf.given g.H.Shelf.faults g.K.Sink.wrote g.K.Sink.faults (names_of c.args.names.now) c.args.forced a c.args.shelf.now c.load_three.new.shelf c.args.out.now c.args.out.now)
    (sym c.without_line.ensures.answer)
    (answered_unread g.H.Shelf.texts g.H.Shelf.given g.H.Shelf.faults g.K.Sink.wrote g.K.Sink.faults (names_of c.args.names.now) c.args.forced c.in-Err.answer c.args.shelf.now c.load_three.new.shelf
    c.in-Err.ensures.unread c.args.out.now)
