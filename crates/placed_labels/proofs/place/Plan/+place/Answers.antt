-- Proves that labels are put where it was decided.
use Rattle.std.proofs.Common.{Vec, Global, ap, ◌∙◌, arith}
use Rattle.std.proofs.lemmas.List.{length_push}
use Rattle.std.proofs.lemmas.Iterator.Adapters.{YieldsList-from_vec}
use Rattle.std.proofs.lemmas.Iterator.Consumers.{YieldsList-turn, YieldsList-end}
use Rattle.tla_tree.proofs.PoolNumbers.{past_at}
use Rattle.pcal_tree.specs.declared.algorithm.Stmt.{Stmt}
use Rattle.pcal_tree.proofs.StatementHeights.{height, heights, either_height}
use Rattle.placed_labels.proofs.PlaceLaws.{in_label, in_simple, in_with, in_if, in_either, in_while, either_numbers, next_put, all_put, next_in, all_in}
use Rattle.placed_labels.proofs.place.Plan.+place.Goals as goal

pub inside-branches-requires : goal.inside-branches-requires
inside-branches-requires t c = omega (arith, either_height c.in-Either.span c.in-Either.list, ap height c.in-Either.is, c.decreases)

pub inside-returns-in-Label-clause-puts : goal.inside-returns-in-Label-clause-puts
inside-returns-in-Label-clause-puts t c = in_label c.args.self.now c.args.stmt c.in-Label.name c.in-Label.mark c.in-Label.is

pub inside-returns-in-Simple-clause-puts : goal.inside-returns-in-Simple-clause-puts
inside-returns-in-Simple-clause-puts t c = in_simple c.args.self.now c.args.stmt c.in-Simple.span c.in-Simple.simple c.in-Simple.is

pub inside-returns-in-With-clause-puts : goal.inside-returns-in-With-clause-puts
inside-returns-in-With-clause-puts t c = in_with c.args.self.now c.args.stmt c.in-With.span c.in-With.binds c.in-With.body c.in-With.is

pub inside-returns-in_ok-second-in-If-clause-puts : goal.inside-returns-in_ok-second-in-If-clause-puts
inside-returns-in_ok-second-in-If-clause-puts t c =
    in_if c.args.self.now c.statements.new.self c.statements-in-If.new.self c.args.stmt c.in-If.span c.in-If.test c.in-If.then c.in-If.otherwise c.in_ok-first-in-If.first c.in_ok-second-in-If.second c.in-If.is
    c.in_ok-first-in-If.ensures.puts c.in_ok-second-in-If.ensures.puts

pub inside-returns-in_ok-branches-in-Either-clause-puts : goal.inside-returns-in_ok-branches-in-Either-clause-puts
inside-returns-in_ok-branches-in-Either-clause-puts t c =
    in_either c.args.self.now c.branches.new.self c.args.stmt c.in-Either.span c.in-Either.list c.in_ok-branches-in-Either.branches c.in-Either.is c.in_ok-branches-in-Either.ensures.puts

pub inside-returns-in_ok-branches-in-Either-clause-numbers : goal.inside-returns-in_ok-branches-in-Either-clause-numbers
inside-returns-in_ok-branches-in-Either-clause-numbers t c =
    either_numbers c.args.stmt c.in-Either.span c.in-Either.list c.in_ok-branches-in-Either.branches c.in-Either.is c.in_ok-branches-in-Either.ensures.numbers

pub inside-returns-in_ok-inner-in-While-clause-puts : goal.inside-returns-in_ok-inner-in-While-clause-puts
inside-returns-in_ok-inner-in-While-clause-puts t c =
    in_while c.args.self.now c.statements-in-While.new.self c.args.stmt c.in-While.span c.in-While.test c.in-While.body c.in_ok-inner-in-While.inner c.in-While.is c.in_ok-inner-in-While.ensures.puts

pub branches-statements-requires : goal.branches-statements-requires
branches-statements-requires t c =
    let y = YieldsList-turn (YieldsList-from_vec {s = c.into_iter-stmts-iterator.result} c.args.list.items c.into_iter-stmts-iterator.ensures.into_iter_gives.0 (c.into_iter-stmts-iterator.ensures.into_iter_gives.1 ∙ c.args.list.ok.0)) c.loop-stmts.yielded c.loop-stmts.stmts-iterator c.loop-stmts.yielded_by c.next.result c.next.new.self c.in-Some.stmts c.in-Some.is c.next.ensures.steps in
    let less = past_at (λ (b : Vec Stmt Global). heights b.items) c.args.list.items _ c.in-Some.stmts y.1 y.0 in
    omega (arith, less, c.decreases)

pub branches-loop-stmts-preserved : goal.branches-loop-stmts-preserved
branches-loop-stmts-preserved t c =
    let y = YieldsList-turn (YieldsList-from_vec {s = c.into_iter-stmts-iterator.result} c.args.list.items c.into_iter-stmts-iterator.ensures.into_iter_gives.0 (c.into_iter-stmts-iterator.ensures.into_iter_gives.1 ∙ c.args.list.ok.0)) c.loop-stmts.yielded c.loop-stmts.stmts-iterator c.loop-stmts.yielded_by c.next.result c.next.new.self c.in-Some.stmts c.in-Some.is c.next.ensures.steps in
    next_in c.args.self.now c.loop-stmts.self c.statements.new.self c.args.list.items c.loop-stmts.out.items _ _ c.in-Some.stmts c.in_ok-statements.field-0 (length_push c.loop-stmts.yielded c.in-Some.stmts) y c.loop-stmts.invariant c.in_ok-statements.ensures.puts c.in_ok-statements.ensures.numbers c.push.new.self.items c.in_ok-push.ensures.items

pub branches-returns-clause-puts : goal.branches-returns-clause-puts
branches-returns-clause-puts t c =
    let y = YieldsList-end (YieldsList-from_vec {s = c.into_iter-stmts-iterator.result} c.args.list.items c.into_iter-stmts-iterator.ensures.into_iter_gives.0 (c.into_iter-stmts-iterator.ensures.into_iter_gives.1 ∙ c.args.list.ok.0)) c.loop-stmts.yielded c.loop-stmts.stmts-iterator c.loop-stmts.yielded_by c.next.result c.next.new.self c.in-None.is c.next.ensures.steps in
    all_in c.args.self.now c.loop-stmts.self c.args.list.items c.loop-stmts.out.items _ (omega (arith, y.1)) c.loop-stmts.invariant

pub statements-inside-requires : goal.statements-inside-requires
statements-inside-requires t c =
    let y = YieldsList-turn (YieldsList-from_vec {s = c.into_iter-stmt-iterator.result} c.args.stmts.items c.into_iter-stmt-iterator.ensures.into_iter_gives.0 (c.into_iter-stmt-iterator.ensures.into_iter_gives.1 ∙ c.args.stmts.ok.0)) c.loop-stmt.yielded c.loop-stmt.stmt-iterator c.loop-stmt.yielded_by c.next.result c.next.new.self c.in-Some.stmt c.in-Some.is c.next.ensures.steps in
    let less = past_at height c.args.stmts.items _ c.in-Some.stmt y.1 y.0 in
    omega (arith, less, c.decreases)

pub statements-loop-stmt-preserved : goal.statements-loop-stmt-preserved
statements-loop-stmt-preserved t c =
    let y = YieldsList-turn (YieldsList-from_vec {s = c.into_iter-stmt-iterator.result} c.args.stmts.items c.into_iter-stmt-iterator.ensures.into_iter_gives.0 (c.into_iter-stmt-iterator.ensures.into_iter_gives.1 ∙ c.args.stmts.ok.0)) c.loop-stmt.yielded c.loop-stmt.stmt-iterator c.loop-stmt.yielded_by c.next.result c.next.new.self c.in-Some.stmt c.in-Some.is c.next.ensures.steps in
    next_put c.args.self.now c.loop-stmt.self c.add_label.new.self c.inside.new.self c.args.stmts.items c.loop-stmt.out.items c.add_label.new.out.items _ _ c.in-Some.stmt c.in_ok-inside.field-0 (length_push c.loop-stmt.yielded c.in-Some.stmt) y c.loop-stmt.invariant c.in_ok-add_label.ensures c.in_ok-inside.ensures.puts c.in_ok-inside.ensures.numbers c.push.new.self.items c.in_ok-push.ensures.items

pub statements-returns-clause-puts : goal.statements-returns-clause-puts
statements-returns-clause-puts t c =
    let y = YieldsList-end (YieldsList-from_vec {s = c.into_iter-stmt-iterator.result} c.args.stmts.items c.into_iter-stmt-iterator.ensures.into_iter_gives.0 (c.into_iter-stmt-iterator.ensures.into_iter_gives.1 ∙ c.args.stmts.ok.0)) c.loop-stmt.yielded c.loop-stmt.stmt-iterator c.loop-stmt.yielded_by c.next.result c.next.new.self c.in-None.is c.next.ensures.steps in
    all_put c.args.self.now c.loop-stmt.self c.args.stmts.items c.loop-stmt.out.items _ (omega (arith, y.1)) c.loop-stmt.invariant
