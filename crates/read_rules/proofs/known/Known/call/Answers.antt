-- Proves what is seen in a call of a macro, on both ways.
use Rattle.std.proofs.lemmas.Result.{on_ok_weaker}
use Rattle.read_rules.proofs.known.Known.call.Goals as goal

pub returns : goal.returns
returns c = on_ok_weaker c.call_one-2.result (λ done ms k. (c.in_ok-call_one.ensures ms k, done ms k)) c.call_one-2.ensures
