-- Proves why the answer comes, and what is answered where there is no memory for the line.
use Rattle.std.proofs.Common.{sym}
use Rattle.command_words.specs.Meant.{options_of}
use Rattle.running.specs.Names.{names_of}
use Rattle.pcal_cli.specs.Asked.{promised}
use Rattle.pcal_cli.proofs.Traces.{traced_memory, trace_cause, trace_memory_explains}
use Rattle.pcal_cli.proofs.traced.trace_three.Goals as goal

pub returns-in-Ok-clause-told : goal.returns-in-Ok-clause-told
returns-in-Ok-clause-told g c = record {
  answer = c.trace_out-ended.result.answer;
  is = sym c.trace_status.ensures;
  cause =
      trace_cause g.H.Shelf.texts g.H.Shelf.given g.H.Shelf.faults g.K.Sink.wrote g.K.Sink.faults (names_of c.args.names.now) (promised (options_of c.args.options)) c.trace_out-ended.result.answer c.args.shelf.now c.trace_out-ended.new.shelf c.args.out.now c.trace_out-ended.new.out
      c.trace_out-ended.ensures.answered;
  told = c.tell_trace.ensures.told;
}

pub returns-in-Err-clause-answered : goal.returns-in-Err-clause-answered
returns-in-Err-clause-answered g c =
    traced_memory g.H.Shelf.texts g.H.Shelf.given g.H.Shelf.faults g.K.Sink.wrote g.K.Sink.faults (names_of c.args.names.now) (promised (options_of c.args.options)) c.out_of_memory.result c.args.shelf.now c.args.out.now c.out_of_memory.ensures.memory

pub returns-in-Err-clause-told : goal.returns-in-Err-clause-told
returns-in-Err-clause-told g c = trace_memory_explains _ _ _ _ _ _ _ _ _ _ c.out_of_memory.ensures.memory c.out_of_memory.ensures.told
