-- Proves that what is met is added.
use Rattle.std.proofs.Common.{refl}
use Rattle.std.proofs.lemmas.Result.{on_ok_weaker}
use Rattle.declared_rules.proofs.MetWalks.{adds_hidden}
use Rattle.declared_rules.proofs.met.Met.name.Goals as goal

pub returns : goal.returns
returns c = on_ok_weaker c.add.result (λ done ts. adds_hidden ts c.args.self.now _ _ done refl) c.add.ensures
