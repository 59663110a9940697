-- Proves what is asked of the answer to a text.
use Rattle.pcal_cli.specs.Tasks.{as_command}
use Rattle.pcal_cli.proofs.FromPut.{put_fine, put_fault, put_refused}
use Rattle.pcal_cli.proofs.top.put_written.Goals as goal

pub returns-in-Ok-put_all-clause-put : goal.returns-in-Ok-put_all-clause-put
returns-in-Ok-put_all-clause-put g c =
    put_fine g.K.Sink.wrote g.K.Sink.faults (as_command c.args.task) c.args.text.now c.args.out.now c.put_all.new.sink c.in-Ok.bytes.items c.deref.result.now c.deref.ensures.value c.in-Ok-put_all.ensures.ok c.in-Ok.ensures.makes c.in-Ok.ensures.clean
    c.in-Ok-put_all.ensures.ok_faults

pub returns-in-Ok-clause-put : goal.returns-in-Ok-clause-put
returns-in-Ok-clause-put g c =
    put_fault g.K.Sink.wrote g.K.Sink.faults (as_command c.args.task) c.args.text.now c.args.out.now c.put_all.new.sink c.in-Ok.bytes.items c.deref.result.now c.deref.ensures.value c.in-Err.ensures.err c.in-Ok.ensures.makes c.in-Ok.ensures.clean
    c.in-Err.ensures.cause c.in-Err.ensures.faults_grow c.in-Err.ensures.once

pub returns-in-Err-Refused-clause-put : goal.returns-in-Err-Refused-clause-put
returns-in-Err-Refused-clause-put g c =
    put_refused g.K.Sink.wrote g.K.Sink.faults (as_command c.args.task) c.args.text.now c.args.out.now c.args.out.now c.in-Err-Refused.refusal (rw c.in-Err-Refused.field-0-is at c.in-Err-Refused.ensures.stopped)
