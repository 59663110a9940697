use Rattle.std.proofs.Common.{ap, find, ◌∙◌}
use Rattle.tla_token.proofs.Spelled.{stands_at}
use Rattle.tla_token.proofs.FirstBytes.{sign_from}
use Rattle.tla_token.proofs.sign.signs_before.Goals as goal

pub returns-else-text-eq92 : goal.returns-else-text-eq92
returns-else-text-eq92 c = ap (find (stands_at c.args.text.now)) c.signs_from.ensures ∙ sign_from c.args.text.now
