-- Proves that a procedure is looked at.
use Rattle.std.proofs.lemmas.Result.{on_ok_weaker}
use Rattle.std.proofs.Common.{List, [], ◌∷◌, ◌++◌, ap}
use Rattle.std.specs.List.{flat_map}
use Rattle.pcal_tree.specs.declared.algorithm.Declaration.{Declaration}
use Rattle.declared_rules.specs.Parts.{bound, declaration_names, declaration_parts, body_parts}
use Rattle.declared_rules.proofs.WalkLaws.{adds_as, adds_then}
use Rattle.declared_rules.proofs.walk.Walked.procedure.Goals as goal

pub returns : goal.returns
returns c =
    on_ok_weaker c.body.result
    (λ done ts.
    adds_then ts c.args.self.now c.stacked.new.self c.body.new.self _ _ (c.stacked.ensures ts)
    (adds_then ts c.stacked.new.self c.declared_list.new.self c.body.new.self _ _
    (adds_as ts c.stacked.new.self c.declared_list.new.self _ _ (λ i. bound (declaration_names (c.deref.ensures.value i) ++ declaration_names (c.deref-2.ensures.value i)) ∷ []) (c.in_ok-declared_list.ensures ts))
    (adds_then ts c.declared_list.new.self c.starts.new.self c.body.new.self _ _
    (adds_as ts c.declared_list.new.self c.starts.new.self _ _ (ap (λ (ds : List Declaration). flat_map (declaration_parts ts) ds) c.deref-3.ensures.value) (c.starts.ensures ts))
    (adds_then ts c.starts.new.self c.starts-2.new.self c.body.new.self _ _
    (adds_as ts c.starts.new.self c.starts-2.new.self _ _ (ap (λ (ds : List Declaration). flat_map (declaration_parts ts) ds) c.deref-4.ensures.value) (c.starts-2.ensures ts))
    (adds_as ts c.starts-2.new.self c.body.new.self _ _ (ap (body_parts ts) c.deref-5.ensures.value) (done ts)))))) c.body.ensures
