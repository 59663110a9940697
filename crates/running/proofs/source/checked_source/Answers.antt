-- Proves that it is the algorithm of the text, and that a text in which something is wrong is answered so.
use Rattle.std.proofs.Common.{ap, subst, Some, None, Err, IfOk, IfErr}
use Rattle.tla_token.specs.declared.rule.Stop.{Stop}
use Rattle.module_tree.specs.TextFront.{Text}
use Rattle.file_answer.specs.Checking.{AnswersChecking}
use Rattle.file_answer.specs.Refusals.{IsStop}
use Rattle.rewriting.proofs.FileRead.{split_stop}
use Rattle.checking.specs.CheckedIn.{IsLabelled}
use Rattle.checking.proofs.CheckedFile.{stops_alike}
use Rattle.running.proofs.source.checked_source.Goals as goal

pub returns-in-Err-clause-stopped : goal.returns-in-Err-clause-stopped
returns-in-Err-clause-stopped c =
    stops_alike c.args.forced c.args.source.now c.in-Err.stop (split_stop c.args.source.now c.in-Err.stop (λ r e. c.in-Err.ensures.refused r (ap (λ (s : Stop). Err s) e)))

pub returns-clause-labelled : goal.returns-clause-labelled
returns-clause-labelled c =
    subst (λ (x : Text). IfOk c.checked_parts.result (λ k. IsLabelled c.args.forced x c.checked_parts.new.pool k)) c.in-Ok.ensures.parts.text c.checked_parts.ensures.labelled

pub returns-clause-clean : goal.returns-clause-clean
returns-clause-clean c =
    subst (λ (x : Text). IfOk c.checked_parts.result (λ k. AnswersChecking c.args.forced x None)) c.in-Ok.ensures.parts.text c.checked_parts.ensures.clean

pub returns-clause-stopped : goal.returns-clause-stopped
returns-clause-stopped c =
    subst (λ (x : Text). IfErr c.checked_parts.result (λ e. IsStop (λ r. AnswersChecking c.args.forced x (Some r)) e)) c.in-Ok.ensures.parts.text c.checked_parts.ensures.stopped
