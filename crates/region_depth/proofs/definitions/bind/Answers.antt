-- Proves that names are bound one after another.
use Rattle.std.proofs.Common.{◌+◌, [], ◌∷◌, ◌++◌, take, sym, ap, ◌∙◌}
use Rattle.std.proofs.lemmas.List.{take_more, take_all}
use Rattle.tla_tree.specs.Tree.{Word}
use Rattle.algorithm_limits.proofs.BoundLemmas.{hides_none, hides_then, hides_as}
use Rattle.region_depth.proofs.definitions.bind.Goals as goal

pub loop-name-init : goal.loop-name-init
loop-name-init c = hides_none c.args.bound.now

pub loop-name-preserved : goal.loop-name-preserved
loop-name-preserved c =
    let xs = c.args.names.now in
    let i = c.loop-name.name-index in
    let x = c.name-item.result in
    hides_as c.args.bound.now c.add.new.self (take i xs ++ x ∷ []) (take (i + 1) xs) (sym (take_more xs i x c.loop-name-test.true ∙ ap (λ (y : Word). take i xs ++ y ∷ []) (sym c.name-item.is)))
    (hides_then c.args.bound.now c.loop-name.bound c.add.new.self (take i xs) (x ∷ []) c.loop-name.invariant c.in_ok-add.ensures)

pub returns : goal.returns
returns c = hides_as c.args.bound.now c.loop-name.bound (take c.loop-name.name-index c.args.names.now) c.args.names.now (take_all c.loop-name.name-index c.args.names.now c.loop-name-test.false) c.loop-name.invariant
