-- Proves what is asked of `command_of`.
use Rattle.std.proofs.Common.{rules}
use Rattle.command_words.proofs.Meanings.{meant_by, refused}
use Rattle.command_words.proofs.read.command_of.Goals as goal

pub returns-in-Some : goal.returns-in-Some
returns-in-Some c = meant_by _ _ c.in-Ok.matches _ _ _ c.in_ok-command.ensures c.in-Ok.ensures.kinds c.in-Ok.ensures.matches c.in-Some.ensures.name c.in-Some.ensures.rows c.named.ensures

pub returns : goal.returns
returns c = refused _ _ c.in-Err.e c.in_ok-command.ensures c.in-Err.ensures.kinds (λ h. search rules)
