-- Proves what is asked of `links`.
use Rattle.std.proofs.Common.{arith}
use Rattle.std.proofs.lemmas.Result.{err_from_is_err_and}
use Rattle.tla_tree.proofs.PoolNumbers.{Keeps-then}
use Rattle.algorithm_reader.specs.PartsRead.{parts_in}
use Rattle.algorithm_reader.proofs.LeftSides.{left_longer, left_ended, left_failed}
use Rattle.algorithm_reader.proofs.left.links.Goals as goal

pub loop-longer-preserved : goal.loop-longer-preserved
loop-longer-preserved c =
    let v = c.args.tokens.now in
    let kept_so = c.loop-longer.invariant in
    let said = c.in_ok-longer.ensures in
    let further = rw c.in-Some.is at said.further in
    record {
      read = (λ a h n e. let s = kept_so.read a h n e in
          left_longer (parts_in v) v c.args.place c.loop-longer.pool c.link.new.pool c.loop-longer.so_far c.in-Some.longer c.loop-longer.from c.in-Some.next _ kept_so.inside further s (rw c.in-Some.is at (said.read s.what s.stands)));
      kept = Keeps-then _ _ _ kept_so.kept said.kept;
      within = rw c.in-Some.is at said.within;
      inside = rw c.in-Some.is at said.inside;
      further = omega (arith, kept_so.further, further);
    }

pub returns-clause-read : goal.returns-clause-read
returns-clause-read c a h n e =
    let v = c.args.tokens.now in
    let s = c.loop-longer.invariant.read a h n e in
    let said = c.in_ok-longer.ensures in
    let all = left_ended (parts_in v) v c.args.place c.loop-longer.pool c.link.new.pool c.loop-longer.so_far c.loop-longer.from _ c.loop-longer.invariant.inside said.kept s (rw c.in_default.is at (said.read s.what s.stands)) in
    record { what = all.what; is = all.is; told = record { below = all.told.below; tree = all.told.tree } }

pub returns-in_err-longer-clause-read : goal.returns-in_err-longer-clause-read
returns-in_err-longer-clause-read c a h n e =
    let v = c.args.tokens.now in
    let s = c.loop-longer.invariant.read a h n e in
    let p = err_from_is_err_and c.from_residual.result c.from_residual.ensures.1 in
    rw (p.1, p.2) (left_failed (parts_in v) v c.args.place c.loop-longer.pool c.loop-longer.so_far c.loop-longer.from _ c.in_err-longer.field-0.0 c.loop-longer.invariant.inside s (c.in_err-longer.ensures.read s.what s.stands))
