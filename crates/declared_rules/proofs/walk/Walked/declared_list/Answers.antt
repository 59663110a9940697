-- Proves that the names of parameters and variables are looked at.
use Rattle.std.proofs.Common.{[], ◌∷◌, ◌++◌, refl}
use Rattle.std.proofs.lemmas.Result.{on_ok_weaker}
use Rattle.declared_rules.specs.Parts.{bound, declaration_names}
use Rattle.declared_rules.proofs.WalkLaws.{adds_found}
use Rattle.declared_rules.proofs.walk.Walked.declared_list.Goals as goal

pub returns : goal.returns
returns c =
    on_ok_weaker c.declared_list.result
    (λ done ts. adds_found ts c.args.self.now _ (bound (declaration_names c.args.params.now ++ declaration_names c.args.variables.now) ∷ []) refl refl (done ts))
    c.declared_list.ensures
