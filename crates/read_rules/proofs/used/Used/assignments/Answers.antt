-- Proves that the names of left and right sides are met.
use Rattle.std.proofs.Common.{slice_index_or}
use Rattle.std.proofs.lemmas.List.{get_or_default}
use Rattle.pcal_tree.specs.declared.algorithm.Assignment.{Assignment}
use Rattle.read_rules.proofs.BodyLaws.{assigned_then, assigned_done}
use Rattle.read_rules.proofs.used.Used.assignments.Goals as goal

abbrev none : Assignment
none = record { left = 0; right = 0 }

pub loop-assignment-preserved : goal.loop-assignment-preserved
loop-assignment-preserved c = λ k g.
    let i = c.loop-assignment.assignment-index in
    let m = slice_index_or c.args.list.now i none in
    c.loop-assignment.invariant k
    (assigned_then c.args.pool.now c.loop-assignment.self c.expr.new.self c.expr-in-loop-assignment.new.self k c.args.list.now i m (get_or_default c.args.list.now i none m c.loop-assignment-test.true) c.loop-assignment-test.true c.in_ok-expr.ensures
    c.in_ok-expr-2.ensures g)

pub loop-assignment-init : goal.loop-assignment-init
loop-assignment-init c = λ k g. g

pub returns : goal.returns
returns c = c.loop-assignment.invariant c.loop-assignment.self (assigned_done c.args.pool.now c.loop-assignment.self c.args.list.now c.loop-assignment.assignment-index c.loop-assignment-test.false)
