-- Proves that settings are made one after another.
use Rattle.std.proofs.Common.{length, List, get_or, ◌∙◌, sym, ap}
use Rattle.tla_tree.specs.Pool.{Entry}
use Rattle.tla_tree.specs.Tree.{Tree, root_place}
use Rattle.pcal_tree.specs.declared.algorithm.Assignment.{Assignment}
use Rattle.pcal_tree.specs.Variables.{vars}
use Rattle.step_moves.specs.Programs.{program_at}
use Rattle.step_moves.specs.StatesOf.{state_of}
use Rattle.step_moves.specs.PartsOf.{part_of}
use Rattle.step_moves.specs.ScopeIn.{scope_in}
use Rattle.step_moves.proofs.SettingLists.{one_settled, left_below, right_below, of_more, found}
use Rattle.step_moves.proofs.assign.settings.Goals as goal

abbrev first_one : Assignment
first_one = record { left = 0; right = 0 }

pub left-requires-clause-below : goal.left-requires-clause-below
left-requires-clause-below c =
    left_below c.args.assignments.now c.loop-one.one-index (get_or c.args.assignments.now c.loop-one.one-index first_one) (length c.args.program.now.pool.now) (found c.args.assignments.now c.loop-one.one-index first_one c.loop-one-test.true) c.loop-one-test.true c.requires.below

pub value-requires-clause-below : goal.value-requires-clause-below
value-requires-clause-below c =
    right_below c.args.assignments.now c.loop-one.one-index (get_or c.args.assignments.now c.loop-one.one-index first_one) (length c.args.program.now.pool.now) (found c.args.assignments.now c.loop-one.one-index first_one c.loop-one-test.true) c.loop-one-test.true c.requires.below

pub loop-one-preserved : goal.loop-one-preserved
loop-one-preserved c =
    let ts : List Tree = c.args.program.now.pool.now in
    let P = program_at c.args.program.now in
    let one : Assignment = get_or c.args.assignments.now c.loop-one.one-index first_one in
    let place = ap root_place c.node.ensures.tree ∙ ap (λ (n : Entry). n.place) (sym c.behind-program.view_is) in
    record {
      settled = one_settled ts (scope_in P c.args.bound.now.names.items c.args.bound.now.values.items) (state_of c.args.state.now) c.args.assignments.now c.loop-one.one-index one
          (found c.args.assignments.now c.loop-one.one-index first_one c.loop-one-test.true) c.loop-one-test.true c.loop-one.all.items c.push.new.self.items _ (part_of c.in_ok-part.part) c.in_ok-value.value
          c.in_ok-part.ensures.part c.in_ok-value.ensures (λ i. record { place = sym place i; part = part_of c.in_ok-part.part; value = c.in_ok-value.value }) c.in_ok-push.ensures.items c.loop-one.invariant.settled;
      variables = of_more (vars P) c.loop-one.all.items c.push.new.self.items _ c.in_ok-push.ensures.items c.in_ok-part.ensures.variable c.loop-one.invariant.variables;
    }
