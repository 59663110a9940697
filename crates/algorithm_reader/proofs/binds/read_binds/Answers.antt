-- Proves what is asked of `read_binds`.
use Rattle.std.proofs.Common.{refl, arith, subst, ◌≡◌, ◌+◌, ◌∷◌, [], length, length-append}
use Rattle.std.proofs.lemmas.Result.{err_from_is_err_and}
use Rattle.tla_tree.proofs.PoolNumbers.{Keeps-then}
use Rattle.expr_nodes.specs.ReadIn.{Fails, Reads}
use Rattle.expr_nodes.specs.Ahead.{ahead}
use Rattle.pcal_tree.specs.InMemory.{bind_at, past_bind}
use Rattle.algorithm_reader.specs.PartsRead.{parts_in, StandsFor, all_bound_at, past_all_bound, bound_from}
use Rattle.algorithm_reader.proofs.Gathered.{none_in_pool, one_more_in_pool, last_in_pool, one_fails_in_pool}
use Rattle.algorithm_reader.proofs.GatheredVariables.{separator_told}
use Rattle.algorithm_reader.proofs.GatheredBinds.{binds_below, members, all_below, binds_told, bind_told, bind_fails, binds_stay, binds_go_on, binds_end, binds_fail}
use Rattle.algorithm_reader.proofs.binds.read_binds.Goals as goal

pub loop-list-init : goal.loop-list-init
loop-list-init c =
    record {
      in_pool = (λ n h. none_in_pool (binds_below (parts_in c.args.tokens.now) (c.args.depth + n)) members bind_at past_bind c.args.tokens.now c.args.pool.now c.args.at c.new-list.result.items c.new-list.ensures.items c.requires.there n h);
      kept = record { longer = omega arith; same = λ i h. refl };
      inside = c.requires.there;
      further = omega arith;
      deeper = (rw c.new-list.ensures.items (omega arith));
    }

pub loop-list-preserved : goal.loop-list-preserved
loop-list-preserved c =
    let v = c.args.tokens.now in
    let said = c.in_ok-bind.ensures in
    let behind = c.past_separator_to_name-another.ensures in
    let us = c.read_bind.new.pool in
    record {
      in_pool = (λ n h. one_more_in_pool (binds_below (parts_in v) (c.args.depth + n)) members bind_at past_bind v c.loop-list.pool us n c.args.at c.loop-list.from c.past_separator_to_name-another.result.1 c.loop-list.list.items c.push.new.self.items
          c.in_ok-bind.bind (c.loop-list.invariant.in_pool n h) said.kept (binds_stay _ _ said.kept) said.read.told.below c.in_ok-push.ensures.items (omega (arith, said.further, behind.no_less)) behind.inside
          (λ k l b. binds_go_on (parts_in v) v (c.args.depth + n) k c.loop-list.from c.in_ok-bind.end c.past_separator_to_name-another.result.1 _ (omega (arith, l))
          (bind_told (parts_in v) (ahead v c.loop-list.from) c.loop-list.deep (c.args.depth + n) k (omega (arith, l, c.loop-list.invariant.deeper)) said.read) (separator_told _ behind.read c.if-not-another.false)));
      kept = Keeps-then _ _ _ c.loop-list.invariant.kept said.kept;
      inside = behind.inside;
      further = omega (arith, c.loop-list.invariant.further, said.further, behind.no_less);
      deeper = (rw c.in_ok-push.ensures.items (omega (arith, c.loop-list.invariant.deeper, length-append c.loop-list.list.items (c.in_ok-bind.bind ∷ []))));
    }

pub returns-then-not-another-clause-read : goal.returns-then-not-another-clause-read
returns-then-not-another-clause-read c n h =
    let v = c.args.tokens.now in
    let read = binds_below (parts_in v) (c.args.depth + n) in
    let said = c.in_ok-bind.ensures in
    let behind = c.past_separator_to_name-another.ensures in
    let us = c.read_bind.new.pool in
    let all = last_in_pool read members bind_at past_bind v c.loop-list.pool us n c.args.at c.loop-list.from c.past_separator_to_name-another.result.1 c.loop-list.list.items c.push.new.self.items
    c.in_ok-bind.bind (c.loop-list.invariant.in_pool n h) said.kept (binds_stay _ _ said.kept) said.read.told.below c.in_ok-push.ensures.items
    (λ k l b. binds_end (parts_in v) v (c.args.depth + n) k c.loop-list.from c.in_ok-bind.end c.past_separator_to_name-another.result.1 _ (omega (arith, l))
    (bind_told (parts_in v) (ahead v c.loop-list.from) c.loop-list.deep (c.args.depth + n) k (omega (arith, l, c.loop-list.invariant.deeper)) said.read) (separator_told _ behind.read c.if-not-another.true)) in
    let deep : c.loop-list.deep + 1 ≡ c.args.depth + length c.push.new.self.items = (rw c.in_ok-push.ensures.items (omega (arith, c.loop-list.invariant.deeper, length-append c.loop-list.list.items (c.in_ok-bind.bind ∷ [])))) in
    subst (Reads (StandsFor all_bound_at past_all_bound (bound_from c.args.depth) us (c.push.new.self, c.loop-list.deep + 1)) (ahead v c.past_separator_to_name-another.result.1)) (all_below (parts_in v) n c.args.depth (ahead v c.args.at))
    (binds_told us c.push.new.self c.args.depth (c.loop-list.deep + 1) _ _ deep all)

pub returns-in_err-bind-clause-read : goal.returns-in_err-bind-clause-read
returns-in_err-bind-clause-read c n h =
    let v = c.args.tokens.now in
    let p = err_from_is_err_and c.from_residual.result c.from_residual.ensures.1 in
    let e = c.in_err-bind.field-0.0 in
    let top = c.args.depth + n in
    rw (p.1, p.2) (subst (Fails e) (all_below (parts_in v) n c.args.depth (ahead v c.args.at))
    (one_fails_in_pool (binds_below (parts_in v) top) members bind_at past_bind v c.loop-list.pool n c.args.at c.loop-list.from c.loop-list.list.items (c.loop-list.invariant.in_pool n h) e
    (λ k l b. binds_fail (parts_in v) e (ahead v c.loop-list.from) top k (bind_fails (parts_in v) (ahead v c.loop-list.from) e c.loop-list.deep top k (omega (arith, l, c.loop-list.invariant.deeper)) c.in_err-bind.ensures.read))))
