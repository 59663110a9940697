-- Proves that the names of assignments are looked at.
use Rattle.declared_rules.specs.Parts.{assignment_parts}
use Rattle.declared_rules.proofs.WalkLaws.{adds_then, adds_item, adds_all}
use Rattle.declared_rules.proofs.walk.Walked.assignments.Goals as goal

pub loop-assignment-preserved : goal.loop-assignment-preserved
loop-assignment-preserved c = λ ts.
    adds_item ts (assignment_parts ts) c.args.list.now c.args.self.now c.loop-assignment.self c.expr-in-loop-assignment.new.self c.loop-assignment.assignment-index (record { left = 0; right = 0 }) c.loop-assignment-test.true (c.loop-assignment.invariant ts)
    (adds_then ts c.loop-assignment.self c.expr.new.self c.expr-in-loop-assignment.new.self _ _ (c.expr.ensures ts) (c.expr-in-loop-assignment.ensures ts))

pub returns : goal.returns
returns c = λ ts. adds_all ts (assignment_parts ts) c.args.list.now c.args.self.now c.loop-assignment.self c.loop-assignment.assignment-index c.loop-assignment-test.false (c.loop-assignment.invariant ts)
