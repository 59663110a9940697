-- Proves that left and right sides are looked at.
use Rattle.std.proofs.Common.{slice_index_or}
use Rattle.std.proofs.lemmas.List.{get_or_default}
use Rattle.tla_tree.specs.Pool.{at}
use Rattle.pcal_tree.specs.declared.algorithm.Assignment.{Assignment}
use Rattle.pcal_tree.specs.OffencesRebind.{any_name, whole_rebinds}
use Rattle.declared_rules.proofs.TellLaws.{adds_as, adds_then, list_then, list_done}
use Rattle.declared_rules.proofs.BindBodyLaws.{assigned, each_assigned}
use Rattle.declared_rules.proofs.bind_walk.Walk.assignments.Goals as goal

abbrev none : Assignment
none = record { left = 0; right = 0 }

pub loop-assignment-init : goal.loop-assignment-init
loop-assignment-init c = λ k g. g

pub loop-assignment-preserved : goal.loop-assignment-preserved
loop-assignment-preserved c = λ k g.
    let i = c.loop-assignment.assignment-index in
    let m = slice_index_or c.args.list.now i none in
    let s = c.args.sight.now in
    c.loop-assignment.invariant k
    (list_then s any_name (assigned c.args.pool.now) c.loop-assignment.self c.expr-in-loop-assignment.new.self k c.args.list.now i m (get_or_default c.args.list.now i none m c.loop-assignment-test.true) c.loop-assignment-test.true
    (adds_then s any_name c.loop-assignment.self c.expr.new.self c.expr-in-loop-assignment.new.self (λ ms r. whole_rebinds ms (at c.args.pool.now m.left) r) (λ ms r. whole_rebinds ms (at c.args.pool.now m.right) r)
    (c.in_ok-expr.ensures any_name) (c.in_ok-expr-2.ensures any_name)) g)

pub returns : goal.returns
returns c =
    adds_as c.args.sight.now any_name c.args.self.now c.loop-assignment.self _ _ (λ ms r. each_assigned c.args.pool.now ms r c.args.list.now)
    (c.loop-assignment.invariant c.loop-assignment.self (list_done c.args.sight.now any_name (assigned c.args.pool.now) c.loop-assignment.self c.args.list.now c.loop-assignment.assignment-index c.loop-assignment-test.false))
