-- Proves that a file which isn't split is answered so.
use Rattle.std.proofs.Common.{ap, Err}
use Rattle.tla_token.specs.declared.rule.Stop.{Stop}
use Rattle.rewriting.proofs.FileRead.{split_stop}
use Rattle.checking.proofs.CheckedFile.{stops_alike}
use Rattle.checking.proofs.check.check_text.Goals as goal

pub returns-in-Err-clause-stopped : goal.returns-in-Err-clause-stopped
returns-in-Err-clause-stopped c =
    stops_alike c.args.forced c.args.text.now c.in-Err.stop (split_stop c.args.text.now c.in-Err.stop (λ r e. c.in-Err.ensures.refused r (ap (λ (s : Stop). Err s) e)))
