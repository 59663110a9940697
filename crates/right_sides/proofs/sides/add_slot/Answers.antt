-- Proves that a right side goes behind its subscripts.
use Rattle.std.proofs.Common.{length, sym, subst, ◌∙◌, arith}
use Rattle.tla_tree.specs.Pool.{at, AllBelow}
use Rattle.tla_tree.proofs.PoolNumbers.{AllBelow-push}
use Rattle.right_sides.specs.Keys.{left_keys}
use Rattle.right_sides.proofs.SideLaws.{some_keys, parts_more}
use Rattle.right_sides.proofs.sides.add_slot.Goals as goal

pub returns-clause-parts : goal.returns-clause-parts
returns-clause-parts c =
    let ts = c.args.pool.now in
    let path = c.in_ok-path.path in
    let keys = left_keys (at ts c.args.one.now.left) in
    parts_more ts c.args.parts.now.items c.path.new.subscripts.items c.push.new.self.items c.args.one.now.right keys
    (some_keys path.items _ keys (sym c.is_empty.ensures ∙ c.if-is_empty.false) path.ok.0 c.in_ok-path.ensures.path) c.in_ok-path.ensures.subscripts c.in_ok-push.ensures.items

pub returns-clause-within : goal.returns-clause-within
returns-clause-within c =
    let m = length c.args.pool.now in
    subst (AllBelow m) (sym c.in_ok-push.ensures.items) (AllBelow-push m c.path.new.subscripts.items c.args.one.now.right c.in_ok-path.ensures.within (omega (arith, c.requires.there)))
