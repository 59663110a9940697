-- Proves what is seen in a loop, on both ways.
use Rattle.std.proofs.lemmas.Result.{on_ok_weaker}
use Rattle.read_rules.proofs.walk.Ways.go_round.Goals as goal

pub returns : goal.returns
returns c = on_ok_weaker c.go_round-2.result (λ done g h. (c.in_ok-go_round.ensures g h, done g h)) c.go_round-2.ensures
