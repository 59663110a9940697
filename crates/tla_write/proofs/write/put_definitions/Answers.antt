-- Proves what is asked of `put_definitions`.
use Rattle.std.proofs.Common.{arith, ap, ◌∙◌}
use Rattle.tla_write.specs.Writing.{shown}
use Rattle.tla_tree.specs.Tree.{Name}
use Rattle.tla_write.proofs.WritingLemmas.{shown_append, definitions_next}
use Rattle.tla_write.proofs.write.put_definitions.Goals as goal

pub loop-i-preserved : goal.loop-i-preserved
loop-i-preserved c = (
  omega (arith, c.loop-i.invariant.0),
  λ xs h ps. (let e = ap (λ (x : Name). x.word) (c.bound.view_is ∙ c.index-names-i.is) in rw (c.in_ok-extend_from_slice.ensures.items, c.in_ok-put_blank_if.ensures)
      (simp shown_append (rw (c.loop-i.invariant.1 xs h ps) (rw e (definitions_next c.args.names.now xs c.loop-i.i c.index-names-i.result h (omega (arith, c.loop-i-test.true)) c.loop-i.invariant.0 (shown xs c.args.plan.now.items ps)))))),
)
