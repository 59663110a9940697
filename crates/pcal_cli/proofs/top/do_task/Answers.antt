-- Proves what is told where there is no memory.
use Rattle.std.proofs.Common.{Some}
use Rattle.pcal_cli.specs.Tasks.{as_command}
use Rattle.pcal_cli.proofs.Told.{memory_told}
use Rattle.pcal_cli.proofs.top.do_task.Goals as goal

pub returns-in-Err-clause-told : goal.returns-in-Err-clause-told
returns-in-Err-clause-told g c =
    memory_told (g.H.Shelf.texts c.args.shelf.now) (g.H.Shelf.faults c.args.shelf.now) (g.H.Shelf.faults c.args.shelf.now) (Some (as_command c.args.task)) _ _ _ _ _ c.out_of_memory.ensures.memory c.out_of_memory.ensures.told
