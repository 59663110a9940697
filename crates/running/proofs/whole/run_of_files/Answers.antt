-- Proves that it is the run that the three files choose, that it keeps the promise, and that a file which is refused is answered so.
use Rattle.std.proofs.Common.{subst, sym}
use Rattle.running.specs.declared.files.NoRun.{NoRun}
use Rattle.running.specs.InMemory.{files_of, IsRefused}
use Rattle.running.proofs.ReadyLaws.{can_run}
use Rattle.running.proofs.WholeLaws.{module_refused, run_told, refused_told, promise_told}
use Rattle.running.proofs.whole.run_of_files.Goals as goal

pub returns-in-Err-clause-refused : goal.returns-in-Err-clause-refused
returns-in-Err-clause-refused c =
    subst (λ (e : NoRun). IsRefused c.args.forced (files_of c.args.files.now) e) (sym c.no_run.ensures) (module_refused c.args.forced c.args.files.now c.in-Err.stop c.in-Err.ensures.stopped)

pub run_beside-requires-clause-can : goal.run_beside-requires-clause-can
run_beside-requires-clause-can c = can_run c.args.forced c.args.files.now.source.now c.checked_source.new.pool c.in-Ok.checked c.in-Ok.ensures.labelled c.in-Ok.ensures.clean c.requires.source

pub returns-clause-run : goal.returns-clause-run
returns-clause-run c =
    run_told c.args.forced c.args.files.now c.checked_source.new.pool c.in-Ok.checked c.in-Ok.ensures.labelled c.in-Ok.ensures.clean c.run_beside.result c.run_beside.ensures.run

pub returns-clause-promise : goal.returns-clause-promise
returns-clause-promise c =
    promise_told c.args.forced c.args.files.now c.run_beside.result c.requires.source
    (run_told c.args.forced c.args.files.now c.checked_source.new.pool c.in-Ok.checked c.in-Ok.ensures.labelled c.in-Ok.ensures.clean c.run_beside.result c.run_beside.ensures.run)

pub returns-clause-refused : goal.returns-clause-refused
returns-clause-refused c =
    refused_told c.args.forced c.args.files.now c.checked_source.new.pool c.in-Ok.checked c.in-Ok.ensures.labelled c.in-Ok.ensures.clean c.run_beside.result c.run_beside.ensures.refused
