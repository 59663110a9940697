-- Proves what is asked of `spec_lines_from`.
use Rattle.std.proofs.Common.{arith}
use Rattle.std.proofs.lemmas.Result.{err_from_is_err_and}
use Rattle.tla_tree.specs.declared.op.Op.TheVariants as op
use Rattle.tla_tree.proofs.PoolNumbers.{Keeps-then}
use Rattle.expr_nodes.specs.Ahead.{ahead}
use Rattle.expr_rows.proofs.ReadGrown.{same_pool}
use Rattle.region_reading.specs.CallReader.{spec_in}
use Rattle.region_items.specs.Begins.{bound}
use Rattle.region_calls.specs.Told.{IsSpec}
use Rattle.region_calls.proofs.Kept.{spec_kept}
use Rattle.region_calls.proofs.ReadBullets.{specs_step, no_bullet, so_first, so_lost, so_end, so_more}
use Rattle.region_calls.proofs.bulleted.spec_lines_from.Goals as goal

pub loop-list-init : goal.loop-list-init
loop-list-init c =
    let s = c.args.s in
    record {
      row = rw c.new-list.ensures.items (so_first IsSpec op.And (spec_in (bound s.left)) c.args.col (specs_step s.left c.args.col) c.args.tokens.now s.at c.in_ok-at.at _ c.in_ok-at.ensures.value);
      kept = same_pool;
      inside = c.in_ok-at.ensures.inside;
      further = c.in_ok-at.ensures.further;
    }

pub loop-list-preserved : goal.loop-list-preserved
loop-list-preserved c =
    let s = c.args.s in
    let so = c.loop-list.invariant in
    let one = c.in_ok-one.ensures in
    let from = c.in-Some in
    record {
      row = rw c.in_ok-push.ensures.items (so_more IsSpec op.And (spec_in (bound s.left)) c.args.col (specs_step s.left c.args.col) c.args.tokens.now s.at c.loop-list.at so.row
          c.in_ok-one.next one.kept one.read (λ old us y a k h. spec_kept k y a h) from.from from.ensures.there from.ensures.rest);
      kept = Keeps-then _ _ _ so.kept one.kept;
      inside = from.ensures.inside;
      further = omega (arith, so.further, one.further, from.ensures.further);
    }

pub returns-in_err-at-clause-read : goal.returns-in_err-at-clause-read
returns-in_err-at-clause-read c =
    let s = c.args.s in
    let p = err_from_is_err_and c.from_residual.result c.from_residual.ensures.1 in
    rw (p.1, p.2) (no_bullet IsSpec op.And (spec_in (bound s.left)) c.args.col (specs_step s.left c.args.col) _ (ahead c.args.tokens.now s.at) c.in_err-at.ensures.value)

pub returns-in_err-one-clause-read : goal.returns-in_err-one-clause-read
returns-in_err-one-clause-read c =
    let s = c.args.s in
    let p = err_from_is_err_and c.from_residual-in_err-one.result c.from_residual-in_err-one.ensures.1 in
    rw (p.1, p.2) (so_lost IsSpec op.And (spec_in (bound s.left)) c.args.col (specs_step s.left c.args.col) c.args.tokens.now s.at c.loop-list.at c.loop-list.invariant.row _ c.in_err-one.ensures.read)

pub returns-in_default-clause-read : goal.returns-in_default-clause-read
returns-in_default-clause-read c =
    let s = c.args.s in
    let one = c.in_ok-one.ensures in
    rw c.in_ok-push.ensures.items (so_end IsSpec op.And (spec_in (bound s.left)) c.args.col (specs_step s.left c.args.col) c.args.tokens.now s.at c.loop-list.at c.loop-list.invariant.row
    c.in_ok-one.next one.kept one.read c.in_default.ensures.none)
