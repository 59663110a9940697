-- Proves what is asked of `climb`.
use Rattle.std.proofs.Common.{arith, refl, Some}
use Rattle.tla_tree.specs.Reader.{behind}
use Rattle.tla_tree.specs.Whole.{whole_in}
use Rattle.tla_tree.proofs.PoolNumbers.{Keeps-then}
use Rattle.expr_rows.proofs.ReadGrown.{same_pool}
use Rattle.expr_operands.proofs.ReadElement.{parts_on}
use Rattle.expr_operands.proofs.read_element.climb.Goals as goal

pub loop-b-init : goal.loop-b-init
loop-b-init g c = record {
  read = λ i p q x h. record { what = i; told = h; is = refl };
  some = c.requires.some;
  kept = same_pool;
  small = omega (arith, c.requires.small);
  inside = c.requires.given.there;
  further = omega arith;
}

pub loop-b-preserved : goal.loop-b-preserved
loop-b-preserved g c =
    let s = c.args.s in
    let so_far = c.loop-b.invariant in
    let some = so_far.some in
    let step = rw c.in-Some.is at (c.in_ok-b.ensures.read some.what some.place some.sign some.word_of some.told) in
    record {
      read = λ i p q x h. parts_on c.args.tokens.now (λ j. (whole_in c.args.s.linked (Some s.left)).climb s.edge (behind p x q) j) (so_far.read i p q x h) (λ j k. rw c.in-Some.is at (c.in_ok-b.ensures.read j p q x k));
      some = record { place = some.place; word_of = some.word_of; sign = some.sign; what = step.what; told = step.told };
      kept = Keeps-then _ _ _ so_far.kept c.in_ok-b.ensures.kept;
      small = rw c.in-Some.is at c.in_ok-b.ensures.small;
      inside = rw c.in-Some.is at c.in_ok-b.ensures.inside;
      further = omega (arith, so_far.further, rw c.in-Some.is at c.in_ok-b.ensures.further);
    }
