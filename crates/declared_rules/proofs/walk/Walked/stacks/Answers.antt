-- Proves that the offence is found where the module isn't extended.
use Rattle.std.proofs.Common.{[], ◌∷◌, refl}
use Rattle.declared_rules.specs.Parts.{stacks}
use Rattle.declared_rules.proofs.JoinLaws.{adds_one}
use Rattle.declared_rules.proofs.WalkLaws.{adds_found}
use Rattle.declared_rules.proofs.walk.Walked.stacks.Goals as goal

pub returns : goal.returns
returns c = λ ts. adds_found ts c.args.self.now _ (stacks c.args.place ∷ []) refl refl (adds_one ts c.args.self.now.found c.offence.new.self (stacks c.args.place) (c.offence.ensures.joins ts))
