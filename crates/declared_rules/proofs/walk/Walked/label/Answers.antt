-- Proves that a label is looked at.
use Rattle.std.proofs.Common.{[], ◌∷◌, refl}
use Rattle.declared_rules.specs.Parts.{labels}
use Rattle.declared_rules.proofs.WalkLaws.{adds_found}
use Rattle.declared_rules.proofs.walk.Walked.label.Goals as goal

pub returns : goal.returns
returns c = λ ts. adds_found ts c.args.self.now _ (labels c.args.name.now ∷ []) refl refl (c.label.ensures ts)
