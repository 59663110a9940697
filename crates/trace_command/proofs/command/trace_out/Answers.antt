-- Proves that what is answered to the texts that were read is answered to the files, and what is answered where one wasn't read.
use Rattle.std.proofs.Common.{length, ap, sym, subst, ◌∙◌, arith}
use Rattle.promise.specs.Options.{Options}
use Rattle.run_answer.specs.Chosen.{Files, of_module, of_config, of_third}
use Rattle.running.specs.Names.{names_of}
use Rattle.running.specs.Reading.{files_in}
use Rattle.running.proofs.Told.{of_read}
use Rattle.trace_command.specs.Answered.{AnsweredTrace, KeepsPromise}
use Rattle.trace_command.specs.Put.{Put}
use Rattle.trace_command.proofs.Answering.{answered_unread, answered_read}
use Rattle.trace_command.proofs.command.trace_out.Goals as goal

-- what was read is short
pub put_trace-requires-clause-source : goal.put_trace-requires-clause-source
put_trace-requires-clause-source g c =
    let same = ap (λ (f : Files). length f.source) c.in_memory-files.ensures in
    let short = c.in-Ok.ensures.read.short of_module in
    omega (arith, same, short)

pub put_trace-requires-clause-config : goal.put_trace-requires-clause-config
put_trace-requires-clause-config g c =
    let same = ap (λ (f : Files). length f.config) c.in_memory-files.ensures in
    let short = c.in-Ok.ensures.read.short of_config in
    omega (arith, same, short)

pub put_trace-requires-clause-third : goal.put_trace-requires-clause-third
put_trace-requires-clause-third g c =
    let same = ap (λ (f : Files). length f.third) c.in_memory-files.ensures in
    let short = c.in-Ok.ensures.read.short of_third in
    omega (arith, same, short)

pub returns-in-Ok-clause-answered : goal.returns-in-Ok-clause-answered
returns-in-Ok-clause-answered g c =
    let options : Options = record { label = c.args.forced; no_terminating = c.args.no_terminating } in
    answered_read g.H.Shelf.texts g.H.Shelf.given g.H.Shelf.faults g.K.Sink.wrote g.K.Sink.faults (names_of c.args.names.now) options c.args.shelf.now c.load_three.new.shelf
    c.put_trace.result.answer (files_in c.in-Ok.loaded) c.args.out.now c.put_trace.new.out c.in-Ok.ensures.read
    (subst (λ (f : Files). Put g.K.Sink.wrote g.K.Sink.faults options f c.put_trace.result.answer c.args.out.now c.put_trace.new.out) c.in_memory-files.ensures c.put_trace.ensures.put)

pub returns-in-Ok-clause-headline : goal.returns-in-Ok-clause-headline
returns-in-Ok-clause-headline g c = λ h.
    let options : Options = record { label = c.args.forced; no_terminating = c.args.no_terminating } in
    let keeps = KeepsPromise (g.K.Sink.wrote c.args.out.now) (g.K.Sink.wrote c.put_trace.new.out) options in
    of_read (g.H.Shelf.texts c.args.shelf.now) (names_of c.args.names.now) (files_in c.in-Ok.loaded) keeps c.in-Ok.ensures.read.text (subst keeps c.in_memory-files.ensures (c.put_trace.ensures.headline h))

pub returns-in-Err-clause-answered : goal.returns-in-Err-clause-answered
returns-in-Err-clause-answered g c =
    let options : Options = record { label = c.args.forced; no_terminating = c.args.no_terminating } in
    subst
    (λ a. AnsweredTrace g.H.Shelf.texts g.H.Shelf.given g.H.Shelf.faults g.K.Sink.wrote g.K.Sink.faults (names_of c.args.names.now) options a c.args.shelf.now c.load_three.new.shelf c.args.out.now c.args.out.now)
    (sym (c.without_line.ensures.answer ∙ c.unread_answer.ensures))
    (answered_unread g.H.Shelf.texts g.H.Shelf.given g.H.Shelf.faults g.K.Sink.wrote g.K.Sink.faults (names_of c.args.names.now) options c.args.shelf.now c.load_three.new.shelf
    c.in-Err.answer c.in-Err.ensures.unread c.args.out.now)
