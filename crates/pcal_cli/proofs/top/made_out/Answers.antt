-- Proves that what is answered to the text that was made is answered to the module that the definition makes.
use Rattle.std.proofs.Common.{◌≡◌, ◌∙◌, ℕ, List, subst}
use Rattle.pcal_cli.specs.declared.status.Status.TheVariants.{Fine}
use Rattle.pcal_cli.specs.Answers.{status_of}
use Rattle.pcal_cli.specs.Asked.{Refuses}
use Rattle.pcal_cli.specs.Causes.{IsRefusal, KeepsPromise}
use Rattle.pcal_cli.specs.Put.{Put}
use Rattle.pcal_cli.specs.Tasks.{as_command}
use Rattle.pcal_cli.proofs.top.made_out.Goals as goal

pub returns-in-Ok-clause-put : goal.returns-in-Ok-clause-put
returns-in-Ok-clause-put g c =
    subst (λ (x : List ℕ). Put g.K.Sink.wrote g.K.Sink.faults (as_command c.args.task) x (status_of c.put_written.result) c.args.out.now c.put_written.new.out) (c.deref.ensures.value ∙ c.in-Ok.ensures.made) c.put_written.ensures.put

pub returns-in-Ok-clause-refused : goal.returns-in-Ok-clause-refused
returns-in-Ok-clause-refused g c =
    subst (λ (x : List ℕ). IsRefusal (Refuses (as_command c.args.task) x) c.put_written.result) (c.deref.ensures.value ∙ c.in-Ok.ensures.made) c.put_written.ensures.refused

pub returns-in-Ok-clause-headline : goal.returns-in-Ok-clause-headline
returns-in-Ok-clause-headline g c =
    subst (λ (x : List ℕ). status_of c.put_written.result ≡ Fine → KeepsPromise (g.K.Sink.wrote c.args.out.now) (g.K.Sink.wrote c.put_written.new.out) (as_command c.args.task) x) (c.deref.ensures.value ∙ c.in-Ok.ensures.made)
    c.put_written.ensures.headline
