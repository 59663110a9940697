-- Proves that names are looked at and kept.
use Rattle.std.proofs.Common.{[], ◌∷◌, map, refl}
use Rattle.declared_rules.specs.declared.walk.Walked.{Walked}
use Rattle.declared_rules.specs.Parts.{bound, takes, bind_name}
use Rattle.declared_rules.proofs.JoinLaws.{on_ok}
use Rattle.declared_rules.proofs.WalkLaws.{adds_then, adds_found, adds_taken}
use Rattle.declared_rules.proofs.walk.Walked.bind_list.Goals as goal

pub returns : goal.returns
returns c =
    let between : Walked = record { found = c.bind_list.new.self; met = c.args.self.now.met } in
    let after : Walked = record { found = c.bind_list.new.self; met = c.bind_names.new.self } in
    on_ok c.bind_names.result
    (λ done ts.
    adds_then ts c.args.self.now between after (bound (map bind_name c.args.binds.now) ∷ []) (takes (map bind_name c.args.binds.now) ∷ []) (adds_found ts c.args.self.now between (bound (map bind_name c.args.binds.now) ∷ []) refl refl (c.in_ok-bind_list.ensures ts))
    (adds_taken ts between after (map bind_name c.args.binds.now) refl (done ts)))
    c.bind_names.ensures
