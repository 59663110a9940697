-- Proves what is asked of `read_assignments`.
use Rattle.std.proofs.Common.{refl, arith, suc, length}
use Rattle.std.proofs.lemmas.Result.{err_from_is_err_and}
use Rattle.tla_tree.proofs.PoolNumbers.{Keeps-then}
use Rattle.expr_nodes.specs.Ahead.{ahead}
use Rattle.pcal_tree.specs.InMemory.{past_assignment}
use Rattle.algorithm_reader.specs.PartsRead.{parts_in}
use Rattle.algorithm_reader.specs.SimpleRead.{assignment_at}
use Rattle.algorithm_reader.proofs.Gathered.{none_in_pool, one_more_in_pool, last_in_pool, one_fails_in_pool}
use Rattle.algorithm_reader.proofs.GatheredAssignments.{step_more, members, assignments_told, assignment_told, assignments_stay, assignments_go_on, assignments_end, assignments_fail}
use Rattle.algorithm_reader.proofs.assignments.read_assignments.Goals as goal

pub loop-list-init : goal.loop-list-init
loop-list-init c =
    record {
      in_pool = (λ n h. none_in_pool (step_more (parts_in c.args.tokens.now)) members assignment_at past_assignment c.args.tokens.now c.args.pool.now c.args.at c.new-list.result.items c.new-list.ensures.items c.requires.there (suc n) (omega (arith, h)));
      kept = record { longer = omega arith; same = λ i h. refl };
      inside = c.requires.there;
      further = omega arith;
    }

pub loop-list-preserved : goal.loop-list-preserved
loop-list-preserved c =
    let v = c.args.tokens.now in
    let said = c.in_ok-assignment.ensures in
    let mark = c.in-Some.ensures in
    let us = c.read_assignment.new.pool in
    record {
      in_pool = (λ n h. one_more_in_pool (step_more (parts_in v)) members assignment_at past_assignment v c.loop-list.pool us (suc n) c.args.at c.loop-list.from c.in-Some.behind c.loop-list.list.items c.push.new.self.items
          c.in_ok-assignment.assignment (c.loop-list.invariant.in_pool n h) said.kept (assignments_stay _ _ said.kept) (said.read (length v.items.items) (omega arith)).told.below c.in_ok-push.ensures.items (omega (arith, said.further, mark.no_less)) mark.inside
          (λ k l b. assignments_go_on (parts_in v) v c.loop-list.from c.in_ok-assignment.end _ c.in-Some.behind mark.there mark.rest said.further said.inside k b (assignment_told (said.read k b))));
      kept = Keeps-then _ _ _ c.loop-list.invariant.kept said.kept;
      inside = mark.inside;
      further = omega (arith, c.loop-list.invariant.further, said.further, mark.no_less);
    }

pub returns-in-None-clause-read : goal.returns-in-None-clause-read
returns-in-None-clause-read c n h =
    let v = c.args.tokens.now in
    let said = c.in_ok-assignment.ensures in
    let us = c.read_assignment.new.pool in
    let all = last_in_pool (step_more (parts_in v)) members assignment_at past_assignment v c.loop-list.pool us (suc n) c.args.at c.loop-list.from c.in_ok-assignment.end c.loop-list.list.items c.push.new.self.items
    c.in_ok-assignment.assignment (c.loop-list.invariant.in_pool n h) said.kept (assignments_stay _ _ said.kept) (said.read (length v.items.items) (omega arith)).told.below c.in_ok-push.ensures.items
    (λ k l b. assignments_end (parts_in v) v c.loop-list.from c.in_ok-assignment.end _ c.in-None.ensures.none said.further said.inside k b (assignment_told (said.read k b))) in
    assignments_told us c.push.new.self (ahead v c.in_ok-assignment.end) _ all

pub returns-in_err-assignment-clause-read : goal.returns-in_err-assignment-clause-read
returns-in_err-assignment-clause-read c n h =
    let v = c.args.tokens.now in
    let p = err_from_is_err_and c.from_residual.result c.from_residual.ensures.1 in
    let e = c.in_err-assignment.field-0.0 in
    rw (p.1, p.2) (one_fails_in_pool (step_more (parts_in v)) members assignment_at past_assignment v c.loop-list.pool (suc n) c.args.at c.loop-list.from c.loop-list.list.items (c.loop-list.invariant.in_pool n h) e
    (λ k l b. assignments_fail (parts_in v) e (ahead v c.loop-list.from) k (c.in_err-assignment.ensures.read k b)))
