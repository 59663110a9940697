-- Proves what is asked of `read_processes`.
use Rattle.std.proofs.Common.{◌≡◌, ℕ, ◌<◌, Option, IfSome, refl, subst, arith, map}
use Rattle.std.proofs.lemmas.Result.{err_from_is_err_and}
use Rattle.tla_token.specs.declared.token.Tokens.{Tokens}
use Rattle.tla_token.specs.Places.{nowhere}
use Rattle.tla_tree.proofs.PoolNumbers.{Keeps-then}
use Rattle.expr_nodes.specs.ReadIn.{Reads}
use Rattle.expr_nodes.specs.Ahead.{ahead}
use Rattle.pcal_tree.specs.declared.mark.Fairness.{Fairness}
use Rattle.pcal_tree.specs.InMemory.{process_at, past_process}
use Rattle.pcal_tree.specs.Grammar.{process_tree}
use Rattle.syntax_reading.specs.ReadRoutines as reader
use Rattle.algorithm_reader.specs.PartsRead.{parts_in}
use Rattle.algorithm_reader.proofs.Gathered.{none_in_pool, one_more_in_pool, one_fails_in_pool}
use Rattle.algorithm_reader.specs.RoutinesRead.{read_beginning, beginning_fairness}
use Rattle.algorithm_reader.proofs.NoMore.{no_more_in_pool, tree_told}
use Rattle.algorithm_reader.proofs.Grown.{processes_stay}
use Rattle.algorithm_reader.proofs.ProcessRounds.{fair_spelling, spelled_so, processes_go_on, one_process_fails, processes_end, beginning_fails}
use Rattle.algorithm_reader.proofs.processes.read_processes.Goals as goal

-- how fair a process is, where it is known whether one begins
abbrev Begun : Tokens → ℕ → ℕ → Option Fairness → Type 0
Begun v i j o = Reads (λ a. o ≡ beginning_fairness a) (ahead v j) (read_beginning (ahead v i))

pub loop-list-init : goal.loop-list-init
loop-list-init g c =
    let m = parts_in c.args.tokens.now in
    record {
      in_pool = none_in_pool (reader.read_processes m (g.W.Ways.readers m)) (map process_tree) process_at past_process c.args.tokens.now c.args.pool.now c.args.at c.new-list.result.items c.new-list.ensures.items c.requires.there;
      kept = record { longer = omega arith; same = λ i h. refl };
      inside = c.requires.there;
      further = omega arith;
    }

pub loop-list-preserved : goal.loop-list-preserved
loop-list-preserved g c =
    let v = c.args.tokens.now in
    let m = parts_in v in
    let f = g.W.Ways.readers m in
    let word = c.in_ok-fairness.ensures in
    let begun = subst (Begun v c.loop-list.from c.in_ok-fairness.next) c.in-Some.is word.read in
    let past = subst (λ (o : Option Fairness). IfSome o (λ a. c.loop-list.from < c.in_ok-fairness.next)) c.in-Some.is word.further in
    let said = c.in_ok-one-in-Some.ensures in
    let us = c.read_process.new.pool in
    let on = processes_go_on m f v c.loop-list.from c.in_ok-fairness.next c.in-Some.fairness begun c.in_ok-one-in-Some.end (process_at us c.in_ok-one-in-Some.one) in
    record {
      in_pool = (λ n h. one_more_in_pool (reader.read_processes m f) (map process_tree) process_at past_process v c.loop-list.pool us n c.args.at c.loop-list.from c.in_ok-one-in-Some.end c.loop-list.list.items c.push.new.self.items
          c.in_ok-one-in-Some.one (c.loop-list.invariant.in_pool n h) said.kept (processes_stay _ _ said.kept) (said.read n (fair_spelling c.in-Some.fairness) nowhere (spelled_so c.in-Some.fairness) (omega (arith, h, c.loop-list.invariant.further, past))).told.below c.in_ok-push-in-Some.ensures.items
          (omega (arith, said.further, past)) said.inside (λ k l b. on k (λ a q e. tree_told (said.read k a q e (omega (arith, b, past))))));
      kept = Keeps-then _ _ _ c.loop-list.invariant.kept said.kept;
      inside = said.inside;
      further = omega (arith, c.loop-list.invariant.further, said.further, past);
    }

pub returns-in-None-clause-read : goal.returns-in-None-clause-read
returns-in-None-clause-read g c n h =
    let v = c.args.tokens.now in
    let m = parts_in v in
    let f = g.W.Ways.readers m in
    let all = no_more_in_pool (reader.read_processes m f) (map process_tree) process_at past_process v c.loop-list.pool n c.args.at c.loop-list.from c.in_ok-fairness.next c.loop-list.list.items (c.loop-list.invariant.in_pool n h)
    (λ k. processes_end m f v c.loop-list.from c.in_ok-fairness.next k (subst (Begun v c.loop-list.from c.in_ok-fairness.next) c.in-None.is c.in_ok-fairness.ensures.read)) in
    record { what = all.what; is = all.is; told = record { below = all.told.below; tree = all.told.tree } }

pub returns-in_err-fairness-clause-read : goal.returns-in_err-fairness-clause-read
returns-in_err-fairness-clause-read g c n h =
    let v = c.args.tokens.now in
    let m = parts_in v in
    let f = g.W.Ways.readers m in
    let p = err_from_is_err_and c.from_residual.result c.from_residual.ensures.1 in
    let e = c.in_err-fairness.field-0.0 in
    rw (p.1, p.2) (one_fails_in_pool (reader.read_processes m f) (map process_tree) process_at past_process v c.loop-list.pool n c.args.at c.loop-list.from c.loop-list.list.items (c.loop-list.invariant.in_pool n h) e (λ k l b. beginning_fails m f e k (ahead v c.loop-list.from) c.in_err-fairness.ensures.read))

pub returns-in_err-one-in-Some-clause-read : goal.returns-in_err-one-in-Some-clause-read
returns-in_err-one-in-Some-clause-read g c n h =
    let v = c.args.tokens.now in
    let m = parts_in v in
    let f = g.W.Ways.readers m in
    let word = c.in_ok-fairness.ensures in
    let past = subst (λ (o : Option Fairness). IfSome o (λ a. c.loop-list.from < c.in_ok-fairness.next)) c.in-Some.is word.further in
    let p = err_from_is_err_and c.from_residual-in_err-one-in-Some.result c.from_residual-in_err-one-in-Some.ensures.1 in
    let e = c.in_err-one-in-Some.field-0.0 in
    rw (p.1, p.2) (one_fails_in_pool (reader.read_processes m f) (map process_tree) process_at past_process v c.loop-list.pool n c.args.at c.loop-list.from c.loop-list.list.items (c.loop-list.invariant.in_pool n h) e
    (λ k l b. one_process_fails m f v c.loop-list.from c.in_ok-fairness.next c.in-Some.fairness (subst (Begun v c.loop-list.from c.in_ok-fairness.next) c.in-Some.is word.read) e k (λ a q s. c.in_err-one-in-Some.ensures.read k a q s (omega (arith, b, past)))))
