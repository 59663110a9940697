-- Proves that names are looked at and kept.
use Rattle.std.proofs.Common.{[], ◌∷◌, refl}
use Rattle.declared_rules.specs.declared.walk.Walked.{Walked}
use Rattle.declared_rules.specs.Parts.{bound, takes}
use Rattle.declared_rules.proofs.JoinLaws.{on_ok}
use Rattle.declared_rules.proofs.WalkLaws.{adds_then, adds_found, adds_taken}
use Rattle.declared_rules.proofs.walk.Walked.params.Goals as goal

pub returns : goal.returns
returns c =
    let between : Walked = record { found = c.list.new.self; met = c.args.self.now.met } in
    let after : Walked = record { found = c.list.new.self; met = c.names.new.self } in
    on_ok c.names.result
    (λ done ts.
    adds_then ts c.args.self.now between after (bound c.args.names.now ∷ []) (takes c.args.names.now ∷ []) (adds_found ts c.args.self.now between (bound c.args.names.now ∷ []) refl refl (c.in_ok-list.ensures ts))
    (adds_taken ts between after c.args.names.now refl (done ts)))
    c.names.ensures
