-- Proves what left and right sides use.
use Rattle.std.proofs.Common.{◌∙◌, slice_index_or}
use Rattle.std.proofs.lemmas.List.{get_or_default}
use Rattle.pcal_tree.specs.declared.algorithm.Assignment.{Assignment}
use Rattle.read_rules.specs.UsesIn.{uses_of}
use Rattle.read_rules.proofs.StepLaws.{assigned_then, assigned_done}
use Rattle.read_rules.proofs.steps.add_assignments.Goals as goal

abbrev none : Assignment
none = record { left = 0; right = 0 }

pub loop-assignment-preserved : goal.loop-assignment-preserved
loop-assignment-preserved c =
    let i = c.loop-assignment.assignment-index in
    let m = slice_index_or c.args.assignments.now i none in
    assigned_then c.args.pool.now (uses_of c.loop-assignment.list.items) (uses_of c.add_left.new.list.items) (uses_of c.add_uses.new.list.items) c.args.assignments.now i m
    (get_or_default c.args.assignments.now i none m c.loop-assignment-test.true) c.loop-assignment-test.true c.in_ok-add_left.ensures c.in_ok-add_uses.ensures
    ∙ c.loop-assignment.invariant

pub returns : goal.returns
returns c = assigned_done c.args.pool.now (uses_of c.loop-assignment.list.items) c.args.assignments.now c.loop-assignment.assignment-index c.loop-assignment-test.false ∙ c.loop-assignment.invariant
