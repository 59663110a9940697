-- Proves what is asked of `climb`.
use Rattle.std.proofs.Common.{arith, refl, Some}
use Rattle.tla_tree.specs.Whole.{whole_in}
use Rattle.tla_tree.proofs.PoolNumbers.{Keeps-then}
use Rattle.expr_nodes.specs.ShapeOf.{context_seen}
use Rattle.expr_rows.proofs.ReadGrown.{same_pool, grown_on}
use Rattle.expr_operands.proofs.read_climb.climb.Goals as goal

pub loop-b-init : goal.loop-b-init
loop-b-init g c = record {
  read = λ i h. record { what = i; told = h; is = refl };
  kept = same_pool;
  stands = (c.requires.a_in, c.requires.a_small, c.requires.given.there, omega arith);
}

pub loop-b-preserved : goal.loop-b-preserved
loop-b-preserved g c =
    let kept = c.loop-b.invariant.kept in
    let stands = rw c.in-Some.is at c.in_ok-b.ensures.stands in
    record {
      read = λ i h. grown_on c.args.tokens.now (λ j. (whole_in c.args.s.linked (Some c.args.s.left)).climb c.args.s.edge (context_seen c.args.context) j) (c.loop-b.invariant.read i h) (λ j k. rw c.in-Some.is at (c.in_ok-b.ensures.read j k));
      kept = Keeps-then _ _ _ kept c.in_ok-b.ensures.kept;
      stands = (stands.0, stands.1, stands.2, omega (arith, c.loop-b.invariant.stands.3, stands.3));
    }
