-- Proves that the values are the constants of a run.
use Rattle.running.proofs.ConstantLaws.{with_default_put}
use Rattle.running.proofs.constants.with_default.Goals as goal

pub returns : goal.returns
returns c = with_default_put c.args.constants c.set.new.self c.in_ok-name.name c.in_ok-value.value c.in_ok-name.ensures c.in_ok-value.ensures c.in_ok-set.ensures.ok
