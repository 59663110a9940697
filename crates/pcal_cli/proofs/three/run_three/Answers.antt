-- Proves why the answer comes, and what is answered where there is no memory for the line.
use Rattle.std.proofs.Common.{sym}
use Rattle.running.specs.Names.{names_of}
use Rattle.pcal_cli.proofs.Runs.{three_memory, run_cause, memory_explains}
use Rattle.pcal_cli.proofs.three.run_three.Goals as goal

pub returns-in-Ok-clause-told : goal.returns-in-Ok-clause-told
returns-in-Ok-clause-told g c = record {
  answer = c.run_out-ended.result.answer;
  is = sym c.run_status.ensures;
  cause =
      run_cause g.H.Shelf.texts g.H.Shelf.given g.H.Shelf.faults g.K.Sink.wrote g.K.Sink.faults (names_of c.args.names.now) c.args.forced c.run_out-ended.result.answer c.args.shelf.now c.run_out-ended.new.shelf c.args.out.now c.run_out-ended.new.out
      c.run_out-ended.ensures.answered;
  told = c.tell_run.ensures.told;
}

pub returns-in-Err-clause-answered : goal.returns-in-Err-clause-answered
returns-in-Err-clause-answered g c =
    three_memory g.H.Shelf.texts g.H.Shelf.given g.H.Shelf.faults g.K.Sink.wrote g.K.Sink.faults (names_of c.args.names.now) c.args.forced c.out_of_memory.result c.args.shelf.now c.args.out.now c.out_of_memory.ensures.memory

pub returns-in-Err-clause-told : goal.returns-in-Err-clause-told
returns-in-Err-clause-told g c = memory_explains _ _ _ _ _ _ _ _ _ _ c.out_of_memory.ensures.memory c.out_of_memory.ensures.told
