-- Proves what is asked of `binds`.
use Rattle.std.proofs.Common.{arith}
use Rattle.std.proofs.lemmas.Result.{err_from_is_err_and}
use Rattle.tla_token.specs.TokensSeen.{span_bytes}
use Rattle.tla_tree.proofs.PoolNumbers.{Keeps-then}
use Rattle.expr_nodes.specs.ReadIn.{word_seen}
use Rattle.expr_rows.proofs.ReadGrown.{same_pool}
use Rattle.expr_binders.proofs.ReadBinds.{binds_first, group_lost, binds_end, next_lost, binds_next}
use Rattle.expr_binders.proofs.BindsRead.{bound_names, bound_many}
use Rattle.expr_binders.proofs.read_bind.binds.Goals as goal

pub loop-all-init : goal.loop-all-init
loop-all-init g c = record {
  groups = rw (c.new.ensures.items, c.new-2.ensures.items) (binds_first c.args.tokens.now c.args.s.left c.args.s.edge c.args.pool.now c.args.s.at c.args.first.place (span_bytes c.args.tokens.now.bytes.items c.args.first.span));
  kept = same_pool;
  small = omega arith;
  inside = c.requires.given.there;
  further = omega arith;
}

pub loop-all-preserved : goal.loop-all-preserved
loop-all-preserved g c =
    let v = c.args.tokens.now in
    let s = c.args.s in
    let so_far = c.loop-all.invariant in
    let one = c.in_ok-names.ensures in
    let more = c.in_ok-keep.ensures in
    let next = binds_next v s.left s.edge c.in_ok-names.next so_far.groups one.kept one.read c.in-Some.from c.in_ok-other.past (word_seen v.bytes.items c.in_ok-other.other) c.in-Some.ensures.there c.in-Some.ensures.rest c.in_ok-other.ensures.value in
    record {
      groups = rw (more.groups, more.sets, more.nesting) next;
      kept = Keeps-then _ _ _ so_far.kept one.kept;
      small = omega (arith, more.nesting, so_far.small, one.small);
      inside = c.in_ok-other.ensures.inside;
      further = omega (arith, so_far.further, one.further, c.in-Some.ensures.further, c.in_ok-other.ensures.further);
    }

pub returns-in_err-names-clause-read : goal.returns-in_err-names-clause-read
returns-in_err-names-clause-read g c =
    let p = err_from_is_err_and c.from_residual.result c.from_residual.ensures.1 in
    rw (p.1, p.2) (group_lost c.args.tokens.now c.args.s.left c.args.s.edge _ c.loop-all.invariant.groups c.in_err-names.ensures.read)

pub returns-in_err-other-clause-read : goal.returns-in_err-other-clause-read
returns-in_err-other-clause-read g c =
    let one = c.in_ok-names.ensures in
    let p = err_from_is_err_and c.from_residual-in_err-other.result c.from_residual-in_err-other.ensures.1 in
    rw (p.1, p.2) (next_lost c.args.tokens.now c.args.s.left c.args.s.edge c.in_ok-names.next c.loop-all.invariant.groups one.kept one.read c.in-Some.from _ c.in-Some.ensures.there c.in-Some.ensures.rest c.in_err-other.ensures.value)

pub returns-in_default : goal.returns-in_default
returns-in_default g c =
    let so_far = c.loop-all.invariant in
    let one = c.in_ok-names.ensures in
    let more = c.in_ok-keep.ensures in
    let all = binds_end c.args.tokens.now c.args.s.left c.args.s.edge c.in_ok-names.next so_far.groups one.kept one.read c.in_default.ensures.none in
    record {
      read = rw (more.groups, more.sets, more.nesting) all;
      kept = Keeps-then _ _ _ so_far.kept one.kept;
      below = rw (more.sets) all.told.below;
      named = rw (more.groups) (bound_names all.told);
      as_many = rw (more.groups, more.sets) (bound_many all.told);
      small = omega (arith, more.nesting, so_far.small, one.small);
      inside = one.inside;
      further = omega (arith, so_far.further, one.further);
    }
