-- Proves what is asked of the functions that go through an expression.
use Rattle.std.proofs.Common.{slice_index_or, ◌∙◌, arith}
use Rattle.std.proofs.lemmas.List.{get_or_default}
use Rattle.tla_tree.proofs.PoolNumbers.{AllBelow-at}
use Rattle.read_rules.proofs.UseLaws.{parts_then, parts_done}
use Rattle.read_rules.specs.UsesIn.{uses_of}
use Rattle.read_rules.proofs.uses.+uses.Goals as goal

pub add_parts-add_uses-requires : goal.add_parts-add_uses-requires
add_parts-add_uses-requires t c =
    let below = AllBelow-at c.args.past c.args.parts.now c.loop-i.i 0 c.requires c.loop-i-test.true in
    omega (arith, below, c.decreases)

pub add_parts-loop-i-preserved : goal.add_parts-loop-i-preserved
add_parts-loop-i-preserved t c =
    let e = slice_index_or c.args.parts.now c.loop-i.i 0 in
    parts_then c.args.pool.now (uses_of c.loop-i.list.items) (uses_of c.add_uses.new.list.items) c.args.parts.now c.loop-i.i e (get_or_default c.args.parts.now c.loop-i.i 0 e c.loop-i-test.true) c.loop-i-test.true c.in_ok-add_uses.ensures
    ∙ c.loop-i.invariant

pub add_parts-returns : goal.add_parts-returns
add_parts-returns t c = parts_done c.args.pool.now (uses_of c.loop-i.list.items) c.args.parts.now c.loop-i.i c.loop-i-test.false ∙ c.loop-i.invariant
