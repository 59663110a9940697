-- Proves the law.
use Rattle.make_module.proofs.Short.{short}
use Rattle.make_module.proofs.laws.made_modules_are_short.Goals as goal

pub returns : goal.returns
returns c = short
