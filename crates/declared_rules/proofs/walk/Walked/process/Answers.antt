-- Proves that a process is looked at.
use Rattle.std.proofs.lemmas.Result.{on_ok_weaker}
use Rattle.std.proofs.Common.{List, [], ◌∷◌, ap, ◌∙◌, append-nil}
use Rattle.std.specs.List.{flat_map}
use Rattle.tla_tree.specs.Tree.{Name}
use Rattle.pcal_tree.specs.declared.algorithm.Declaration.{Declaration}
use Rattle.declared_rules.specs.Parts.{bound, declaration_names, declaration_parts, body_parts}
use Rattle.declared_rules.proofs.WalkLaws.{adds_as, adds_then}
use Rattle.declared_rules.proofs.walk.Walked.process.Goals as goal

pub returns : goal.returns
returns c =
    on_ok_weaker c.body.result
    (λ done ts.
    adds_then ts c.args.self.now c.declares.new.self c.body.new.self _ _ (c.declares.ensures ts)
    (adds_then ts c.declares.new.self c.declared_list.new.self c.body.new.self _ _
    (adds_as ts c.declares.new.self c.declared_list.new.self _ _
    (ap (λ (ns : List Name). bound ns ∷ []) (append-nil (declaration_names c.deref.result.now) ∙ ap declaration_names c.deref.ensures.value)) (c.in_ok-declared_list.ensures ts))
    (adds_then ts c.declared_list.new.self c.expr.new.self c.body.new.self _ _ (c.expr.ensures ts)
    (adds_then ts c.expr.new.self c.starts.new.self c.body.new.self _ _
    (adds_as ts c.expr.new.self c.starts.new.self _ _ (ap (λ (ds : List Declaration). flat_map (declaration_parts ts) ds) c.deref-2.ensures.value) (c.starts.ensures ts))
    (adds_as ts c.starts.new.self c.body.new.self _ _ (ap (body_parts ts) c.deref-3.ensures.value) (done ts)))))) c.body.ensures
