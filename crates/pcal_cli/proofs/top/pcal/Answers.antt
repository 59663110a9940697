-- Proves what is asked of `pcal` where the words mean no command, and where there is no memory for them.
use Rattle.std.proofs.Common.{Option, ap, sym, ◌∙◌}
use Rattle.std.specs.Prelude.{option_map}
use Rattle.pcal_cli.specs.Tasks.{as_job}
use Rattle.pcal_cli.specs.Words.{command_in}
use Rattle.pcal_cli.specs.declared.job.Job.{Job}
use Rattle.pcal_cli.proofs.FromPut.{answered_memory}
use Rattle.pcal_cli.proofs.Told.{memory_told, usage_told}
use Rattle.pcal_cli.proofs.top.pcal.Goals as goal

pub returns-in-Ok-None-clause-told : goal.returns-in-Ok-None-clause-told
returns-in-Ok-None-clause-told g c =
    usage_told _ _ _ _ _ _ _ _ (sym (ap (λ (o : Option Job). option_map as_job o) c.in-Ok-None.field-0-is) ∙ c.in-Ok-None.ensures.command) c.say.ensures.told

pub returns-in-Err-clause-answered : goal.returns-in-Err-clause-answered
returns-in-Err-clause-answered g c =
    answered_memory g.H.Shelf.texts g.H.Shelf.given g.H.Shelf.faults g.K.Sink.wrote g.K.Sink.faults (command_in c.args.words.now) c.out_of_memory.result c.args.shelf.now c.args.out.now c.out_of_memory.ensures.memory

pub returns-in-Err-clause-told : goal.returns-in-Err-clause-told
returns-in-Err-clause-told g c = memory_told _ _ _ _ _ _ _ _ _ c.out_of_memory.ensures.memory c.out_of_memory.ensures.told
