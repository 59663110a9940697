-- Proves that it is the trace that the three files give, that it keeps the promise, and that a file which is refused is answered so.
use Rattle.std.proofs.Common.{subst, sym}
use Rattle.running.specs.declared.files.NoRun.{NoRun}
use Rattle.running.specs.InMemory.{files_of}
use Rattle.running.proofs.ReadyLaws.{can_run}
use Rattle.tracing.specs.InMemory.{IsRefusedTrace}
use Rattle.tracing.proofs.TranslatedLaws.{right_of}
use Rattle.tracing.proofs.WholeLaws.{module_refused, none_given, can_more, states_just, is_trace, promise_kept}
use Rattle.tracing.proofs.whole.trace_of_files.Goals as goal

pub returns-in-Err-clause-refused : goal.returns-in-Err-clause-refused
returns-in-Err-clause-refused c =
    subst (λ (e : NoRun). IsRefusedTrace c.args.forced (files_of c.args.files.now) e) (sym c.no_run.ensures) (module_refused c.args.forced c.args.files.now c.in-Err.stop c.in-Err.ensures.stopped)

pub read_beside-requires-clause-can : goal.read_beside-requires-clause-can
read_beside-requires-clause-can c = can_run c.args.forced c.args.files.now.source.now c.checked_source.new.pool c.in-Ok.checked c.in-Ok.ensures.labelled c.in-Ok.ensures.clean c.requires.source

pub returns-in-Err-read_beside-clause-refused : goal.returns-in-Err-read_beside-clause-refused
returns-in-Err-read_beside-clause-refused c =
    none_given c.args.forced c.args.files.now c.checked_source.new.pool c.in-Ok.checked c.in-Ok.ensures.labelled c.in-Ok.ensures.clean c.in-Err-read_beside.why c.in-Err-read_beside.ensures.refused

pub returns-in-Err-translated-clause-refused : goal.returns-in-Err-translated-clause-refused
returns-in-Err-translated-clause-refused c =
    subst (λ (e : NoRun). IsRefusedTrace c.args.forced (files_of c.args.files.now) e) (sym c.no_run-in-Err-translated.ensures)
    (module_refused c.args.forced c.args.files.now c.in-Err-translated.stop c.in-Err-translated.ensures.stopped)

pub explained_beside-requires-clause-can : goal.explained_beside-requires-clause-can
explained_beside-requires-clause-can c =
    can_more c.args.forced c.args.files.now c.checked_source.new.pool c.in-Ok.checked c.in-Ok.ensures.labelled c.in-Ok.ensures.clean
    c.requires.source c.read_beside.new.pool c.in-Ok-read_beside.read c.in-Ok-read_beside.ensures.read

pub explained_beside-requires-clause-made : goal.explained_beside-requires-clause-made
explained_beside-requires-clause-made c = c.in-Ok-read_beside.ensures.read.made

pub explained_beside-requires-clause-states : goal.explained_beside-requires-clause-states
explained_beside-requires-clause-states c =
    states_just c.args.forced c.args.files.now c.checked_source.new.pool c.in-Ok.checked c.in-Ok.ensures.labelled c.in-Ok.ensures.clean
    c.requires.source c.read_beside.new.pool c.in-Ok-read_beside.read c.in-Ok-read_beside.ensures.read

pub explained_beside-requires-clause-within : goal.explained_beside-requires-clause-within
explained_beside-requires-clause-within c =
    (c.in-Ok-translated.ensures.made (right_of c.args.forced c.args.files.now.source.now c.checked_source.new.pool c.in-Ok.checked c.in-Ok.ensures.labelled c.in-Ok.ensures.clean)).within

pub returns-in-Ok-explained_beside-clause-trace : goal.returns-in-Ok-explained_beside-clause-trace
returns-in-Ok-explained_beside-clause-trace c =
    is_trace c.args.forced c.args.files.now c.checked_source.new.pool c.in-Ok.checked c.in-Ok.ensures.labelled c.in-Ok.ensures.clean
    c.requires.source c.read_beside.new.pool c.in-Ok-read_beside.read c.in-Ok-read_beside.ensures.read
    c.args.no_terminating c.in-Ok-translated.translation c.in-Ok-translated.ensures.made c.in-Ok-explained_beside.explained c.in-Ok-explained_beside.ensures

pub returns-in-Ok-explained_beside-clause-promise : goal.returns-in-Ok-explained_beside-clause-promise
returns-in-Ok-explained_beside-clause-promise c =
    promise_kept (record { label = c.args.forced; no_terminating = c.args.no_terminating }) c.args.files.now c.in-Ok-explained_beside.explained c.requires.source
    (is_trace c.args.forced c.args.files.now c.checked_source.new.pool c.in-Ok.checked c.in-Ok.ensures.labelled c.in-Ok.ensures.clean
    c.requires.source c.read_beside.new.pool c.in-Ok-read_beside.read c.in-Ok-read_beside.ensures.read
    c.args.no_terminating c.in-Ok-translated.translation c.in-Ok-translated.ensures.made c.in-Ok-explained_beside.explained c.in-Ok-explained_beside.ensures)
