-- Proves that a file which isn't split, or in which something is wrong, is answered so.
use Rattle.std.proofs.Common.{ap, subst, Some, Err}
use Rattle.tla_token.specs.declared.rule.Stop.{Stop}
use Rattle.module_tree.specs.TextFront.{Text}
use Rattle.file_answer.specs.Checking.{AnswersChecking}
use Rattle.file_answer.specs.Refusals.{IsStop}
use Rattle.rewriting.proofs.FileRead.{split_stop}
use Rattle.checking.proofs.CheckedFile.{stops_alike}
use Rattle.checking.proofs.map.map_text.Goals as goal

pub returns-in-Err-clause-stopped : goal.returns-in-Err-clause-stopped
returns-in-Err-clause-stopped c =
    stops_alike c.args.forced c.args.text.now c.in-Err.stop (split_stop c.args.text.now c.in-Err.stop (λ r e. c.in-Err.ensures.refused r (ap (λ (s : Stop). Err s) e)))

pub returns-clause-stopped : goal.returns-clause-stopped
returns-clause-stopped c =
    subst (λ (x : Text). IsStop (λ r. AnswersChecking c.args.forced x (Some r)) c.in-Err-checked_parts.stop) c.in-Ok.ensures.parts.text c.in-Err-checked_parts.ensures.stopped
