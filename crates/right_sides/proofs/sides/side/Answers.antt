-- Proves that the right side is what is assigned, or an EXCEPT.
use Rattle.std.proofs.Common.{ℕ, [], ◌∷◌, ◌≡◌, ◌<◌, Option, slice_index_or, length, sym, ap, subst, ◌∙◌, arith, false-eqb, MatchOption, IfSome}
use Rattle.std.proofs.lemmas.List.{get_or_default}
use Rattle.tla_tree.specs.Tree.{Word, node, name, root_place}
use Rattle.tla_tree.specs.Pool.{Entry, at, trees_at}
use Rattle.tla_tree.specs.Shapes.{HavePaths}
use Rattle.tla_tree.specs.Tree as pure
use Rattle.tla_tree.specs.TreeOf.{trees_from}
use Rattle.pcal_tree.specs.declared.algorithm.Assignment.{Assignment}
use Rattle.right_sides.specs.Parts.{slots_at, all_parts_at}
use Rattle.right_sides.proofs.SideLaws.{side_made, side_right}
use Rattle.right_sides.proofs.sides.side.Goals as goal

abbrev unset : Assignment
unset = record { left = 0; right = 0 }

pub returns-in-Some-clause-tree : goal.returns-in-Some-clause-tree
returns-in-Some-clause-tree c = λ plain.
    let ts = c.args.pool.now in
    let us = c.put.new.self in
    let ms = c.args.group.now in
    let m = slice_index_or ms 0 unset in
    let some : 0 < length ms = (let one = false-eqb (length ms) 0 c.if-is_empty.ensures in omega (arith, one)) in
    let place = ap root_place c.node-node.ensures.tree ∙ ap (λ (n : Entry). n.place) (sym c.node.view_is) in
    let whole = c.in_ok-whole.ensures.tree ∙ (λ j. node (name (c.in_ok-copied-2.ensures j)) c.node.inside.place (trees_at ts (c.new.ensures.items j))) in
    let made = c.in_ok-made.ensures in
    side_made ts us c.except.new.pool c.in_ok-whole.ensures.kept made.kept c.args.name.now ms m c.requires (get_or_default ms 0 unset m some) some plain c.node.inside.place c.in_ok-whole.whole c.in-Some.made place whole
    (subst (λ (o : Option ℕ). IfSome o (λ r. HavePaths (slots_at us ms))) c.in-Some.is made.paths)
    (subst (λ (o : Option ℕ). MatchOption o (slots_at us ms ≡ []) (λ r. at c.except.new.pool r ≡ node (pure.strict (pure.except (slots_at us ms))) c.node.inside.place (trees_from (at us c.in_ok-whole.whole ∷ all_parts_at us ms)))) c.in-Some.is made.tree)

pub returns-in-None-clause-tree : goal.returns-in-None-clause-tree
returns-in-None-clause-tree c = λ plain.
    let ts = c.args.pool.now in
    let us = c.put.new.self in
    let ms = c.args.group.now in
    let m = slice_index_or ms 0 unset in
    let some : 0 < length ms = (let one = false-eqb (length ms) 0 c.if-is_empty.ensures in omega (arith, one)) in
    let made = c.in_ok-made.ensures in
    side_right ts us c.except.new.pool c.in_ok-whole.ensures.kept made.kept c.args.name.now ms m c.requires (get_or_default ms 0 unset m some) some plain
    (subst (λ (o : Option ℕ). MatchOption o (slots_at us ms ≡ []) (λ r. at c.except.new.pool r ≡ node (pure.strict (pure.except (slots_at us ms))) c.node.inside.place (trees_from (at us c.in_ok-whole.whole ∷ all_parts_at us ms)))) c.in-None.is made.tree)
