-- The line of an answer is that of its number.
use Rattle.std.proofs.Common.{◌∙◌, ap}
use Rattle.pcal_cli.specs.Answers.{status_number}
use Rattle.pcal_cli.specs.Words.{words_given, command_in}
use Rattle.pcal_cli.proofs.FromPut.{answered_memory}
use Rattle.pcal_cli.proofs.Told.{memory_told}
use Rattle.pcal_cli.proofs.program.run.Goals.{in-Ok, in-Err}
use Rattle.pcal_cli.proofs.program.run.Goals as goal

pub returns-clause-told : goal.returns-clause-told
returns-clause-told g c =
    let e = c.from.ensures ∙ c.number.ensures in
    elim c.match-words_of.branch [
      | in-Ok w ↦ (w.pcal-status.result, e ∙ ap status_number w.status-is, rw (← w.in-Ok.ensures, ← w.deref.ensures.value, w.shelf-is, w.err-is) w.pcal-status.ensures.told)
      | in-Err w ↦ (w.out_of_memory-status.result, e ∙ ap status_number w.status-is, rw (w.shelf-is, w.err-is) (memory_told _ _ _ _ _ _ _ _ _ w.out_of_memory-status.ensures.memory w.out_of_memory-status.ensures.told))
    ]

pub returns-clause-answered : goal.returns-clause-answered
returns-clause-answered g c =
    let e = c.from.ensures ∙ c.number.ensures in
    elim c.match-words_of.branch [
      | in-Ok w ↦ (w.pcal-status.result, e ∙ ap status_number w.status-is, rw (← w.in-Ok.ensures, ← w.deref.ensures.value, w.shelf-is, w.out-is) w.pcal-status.ensures.answered)
      | in-Err w ↦ (
        w.out_of_memory-status.result,
        e ∙ ap status_number w.status-is,
        rw (w.shelf-is, w.out-is)
            (answered_memory g.H.Shelf.texts g.H.Shelf.given g.H.Shelf.faults g.K.Sink.wrote g.K.Sink.faults (command_in (words_given c.args.given)) w.out_of_memory-status.result c.args.shelf.now c.args.out.now w.out_of_memory-status.ensures.memory),
      )
    ]
