-- Proves that what is answered to the module that was made is answered to the command.
use Rattle.std.proofs.Common.{Some, subst}
use Rattle.make_module.specs.Big.{big}
use Rattle.pcal_cli.specs.Answers.{status_of}
use Rattle.pcal_cli.specs.Answered.{AnsweredFrom}
use Rattle.pcal_cli.specs.Tasks.{as_command}
use Rattle.pcal_cli.specs.Words.{Input}
use Rattle.pcal_cli.proofs.FromPut.{answered_made}
use Rattle.pcal_cli.proofs.top.carry_out.Goals as goal

pub returns-in-Made-clause-answered : goal.returns-in-Made-clause-answered
returns-in-Made-clause-answered g c =
    subst
    (λ (i : Input). AnsweredFrom g.H.Shelf.texts g.H.Shelf.given g.H.Shelf.faults g.K.Sink.wrote g.K.Sink.faults (Some i) (Some (as_command c.args.task)) (status_of c.made_out.result) c.args.shelf.now c.args.shelf.now c.args.out.now c.made_out.new.out)
    c.in-Made.ensures.input
    (answered_made g.H.Shelf.texts g.H.Shelf.given g.H.Shelf.faults g.K.Sink.wrote g.K.Sink.faults (as_command c.args.task) (status_of c.made_out.result) c.args.shelf.now c.args.shelf.now c.args.out.now c.made_out.new.out (big c.in-Made.seed c.in-Made.count)
    c.made_out.ensures.put)
