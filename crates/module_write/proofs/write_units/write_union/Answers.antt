-- Proves what is asked of `write_union`.
use Rattle.std.proofs.Common.{ℕ, List, length, map, get_or, refl}
use Rattle.std.specs.Prelude.{codes}
use Rattle.tla_tree.specs.Pool.{at}
use Rattle.tla_tree.proofs.PoolNumbers.{AllBelow-at}
use Rattle.module_tree.specs.ExprText.{operand}
use Rattle.module_tree.specs.Layout.{union_text}
use Rattle.tla_tree.proofs.PoolNumbers.{same_default}
use Rattle.tla_write.proofs.OneMore.{parted_more}
use Rattle.module_write.proofs.write_units.write_union.Goals as goal

pub append_operand-requires : goal.append_operand-requires
append_operand-requires c = AllBelow-at (length c.args.pool.now) c.args.sets.now c.loop-i.i 0 c.requires c.loop-i-test.true

pub loop-i-preserved : goal.loop-i-preserved
loop-i-preserved c =
    let ts = c.args.pool.now in
    let es = c.args.sets.now in
    let i = c.loop-i.i in
    let e = get_or es i 0 in
    parted_more (λ (es : List ℕ). union_text (map (at ts) es)) (λ (e : ℕ). operand (at ts e)) (codes " \\cup ") (record { none = refl; one = λ x. refl; more = λ x y xs. refl })
    c.args.into.now c.loop-i.into c.write_where.new.into c.append_operand.new.into es i e (same_default es i 0 e c.loop-i-test.true) c.loop-i-test.true c.loop-i.invariant c.in_ok-write_where.ensures c.in_ok-append_operand.ensures
