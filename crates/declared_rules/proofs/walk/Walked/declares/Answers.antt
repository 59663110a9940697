-- Proves that a name that is declared is looked at.
use Rattle.std.proofs.Common.{[], ◌∷◌, refl}
use Rattle.declared_rules.specs.Parts.{declares}
use Rattle.declared_rules.proofs.WalkLaws.{adds_found}
use Rattle.declared_rules.proofs.walk.Walked.declares.Goals as goal

pub returns : goal.returns
returns c = λ ts. adds_found ts c.args.self.now _ (declares c.args.name.now ∷ []) refl refl (c.declares.ensures.adds ts)
