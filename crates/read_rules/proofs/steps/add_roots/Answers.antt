-- Proves which variables left sides have.
use Rattle.std.proofs.Common.{slice_index_or}
use Rattle.std.proofs.lemmas.List.{get_or_default}
use Rattle.pcal_tree.specs.declared.algorithm.Assignment.{Assignment}
use Rattle.read_rules.proofs.StepLaws.{roots_then, roots_done}
use Rattle.read_rules.proofs.steps.add_roots.Goals as goal

abbrev none : Assignment
none = record { left = 0; right = 0 }

pub loop-assignment-init : goal.loop-assignment-init
loop-assignment-init c = λ k g. g

pub loop-assignment-preserved : goal.loop-assignment-preserved
loop-assignment-preserved c = λ k g.
    let i = c.loop-assignment.assignment-index in
    let m = slice_index_or c.args.assignments.now i none in
    c.loop-assignment.invariant k
    (roots_then c.args.pool.now c.loop-assignment.names c.add_root.new.names k c.args.assignments.now i m (get_or_default c.args.assignments.now i none m c.loop-assignment-test.true) c.loop-assignment-test.true c.in_ok-add_root.ensures g)

pub returns : goal.returns
returns c = c.loop-assignment.invariant c.loop-assignment.names (roots_done c.args.pool.now c.loop-assignment.names c.args.assignments.now c.loop-assignment.assignment-index c.loop-assignment-test.false)
