-- Proves that a module that is made has few steps.
use Rattle.std.proofs.Common.{ap, sym, ◌∙◌, Option, Some}
use Rattle.std.specs.Prelude.{option_map}
use Rattle.command_words.specs.Commands as pure
use Rattle.command_words.specs.Meant.{meant}
use Rattle.command_words.specs.declared.command.Command.{Command}
use Rattle.pcal_cli.proofs.MadeSmall.{job_few}
use Rattle.pcal_cli.proofs.job.job_of.Goals as goal

pub returns-in-Some-clause-small : goal.returns-in-Some-clause-small
returns-in-Some-clause-small c =
    job_few c.job_for.result c.args.words.now (ap (λ (k : pure.Command). Some k) c.job_for.ensures ∙ ap (λ (o : Option Command). option_map meant o) (sym c.in-Some.is) ∙ c.in_ok-command.ensures)
