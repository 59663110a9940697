-- Proves that the names are the same.
use Rattle.std.proofs.Common.{◌≡◌, List, [], ◌∷◌, ◌++◌, take, sym, ap, ◌∙◌}
use Rattle.std.proofs.lemmas.List.{take_more, take_all}
use Rattle.tla_tree.specs.Tree.{Name}
use Rattle.read_rules.proofs.macros.copied_names.Goals as goal

pub loop-one-preserved : goal.loop-one-preserved
loop-one-preserved c =
    let names = c.args.names.now in
    let n = c.loop-one.one-index in
    let last : c.loop-one.list.items ++ c.in_ok-copied.field-0 ∷ [] ≡ take n names ++ c.one-item.result ∷ [] = λ i. c.loop-one.invariant i ++ c.in_ok-copied.ensures i ∷ [] in
    ◌∙◌ {A = List Name} c.in_ok-push.ensures.items
    (◌∙◌ {A = List Name} last (◌∙◌ {A = List Name} (ap (λ (x : Name). take n names ++ x ∷ []) c.one-item.is) (sym (take_more names n c.one-item.result c.loop-one-test.true))))

pub returns : goal.returns
returns c = c.loop-one.invariant ∙ take_all c.loop-one.one-index c.args.names.now c.loop-one-test.false
