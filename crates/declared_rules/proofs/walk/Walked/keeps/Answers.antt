-- Proves that a name is looked at and kept.
use Rattle.std.proofs.Common.{[], ◌∷◌, refl, ap}
use Rattle.tla_tree.specs.Tree.{Name}
use Rattle.declared_rules.specs.declared.walk.Walked.{Walked}
use Rattle.declared_rules.specs.Parts.{declares, takes}
use Rattle.declared_rules.proofs.JoinLaws.{on_ok}
use Rattle.declared_rules.proofs.MetWalks.{adds_as}
use Rattle.declared_rules.proofs.WalkLaws.{adds_then, adds_found, adds_taken}
use Rattle.declared_rules.proofs.walk.Walked.keeps.Goals as goal

pub returns : goal.returns
returns c =
    let between : Walked = record { found = c.declares.new.self; met = c.args.self.now.met } in
    let after : Walked = record { found = c.declares.new.self; met = c.name-2.new.self } in
    let n : Name = c.args.name.now in
    on_ok c.name-2.result
    (λ done ts.
    adds_then ts c.args.self.now between after (declares n ∷ []) (takes (n ∷ []) ∷ []) (adds_found ts c.args.self.now between (declares n ∷ []) refl refl (c.declares.ensures.adds ts))
    (adds_taken ts between after (n ∷ []) refl (adds_as ts c.args.self.now.met c.name-2.new.self _ _ (ap (λ (x : Name). x.word ∷ []) c.name.view_is) (done ts))))
    c.name-2.ensures
