-- Proves that the parts of a form are looked at.
use Rattle.std.proofs.Common.{arith, ◌∙◌}
use Rattle.pcal_tree.specs.InMemory.{past_number}
use Rattle.pcal_tree.proofs.InMemoryEach.{all_below_past}
use Rattle.declared_rules.proofs.ListLaws.{past_item}
use Rattle.declared_rules.proofs.SweepLaws.{parts_then, parts_over}
use Rattle.declared_rules.proofs.found.Found.parts.Goals as goal

pub part-requires : goal.part-requires
part-requires c =
    let below = all_below_past c.args.past c.args.parts.now c.requires.below in
    let less = past_item past_number c.args.parts.now c.loop-i.i 0 c.loop-i-test.true in
    omega (arith, below, less, c.requires.marked, c.loop-i.invariant.many)

pub loop-i-preserved : goal.loop-i-preserved
loop-i-preserved c = record {
  many = c.part.ensures.many ∙ c.loop-i.invariant.many;
  rest = λ k g.
      c.loop-i.invariant.rest k
      (parts_then c.args.pool.now c.loop-i.self c.part.new.self k c.args.member c.is_right.result c.args.parts.now c.loop-i.i c.loop-i-test.true c.is_right.ensures c.part.ensures g);
}

pub returns : goal.returns
returns c = c.loop-i.invariant.rest c.loop-i.self (parts_over c.args.pool.now c.loop-i.self c.args.member c.args.parts.now c.loop-i.i c.loop-i-test.false)
