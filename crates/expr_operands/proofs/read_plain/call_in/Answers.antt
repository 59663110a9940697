-- Proves what is asked of `call_in`.
use Rattle.std.proofs.Common.{arith, refl}
use Rattle.tla_tree.specs.Spelling.{call}
use Rattle.tla_tree.proofs.PoolNumbers.{Keeps-then}
use Rattle.expr_rows.proofs.ReadLemmas.{told_then, told_on}
use Rattle.expr_operands.proofs.read_plain.call_in.Goals as goal

pub returns : goal.returns
returns g c =
    let many = c.in_ok-many.ensures in
    let made = c.in_ok-whole.ensures in
    record {
      read = told_then _ _ many.read (λ xs are. told_on _ _ _ c.in_ok-at.ensures.value (record {
        what = call c.args.word.place _ c.args.place xs c.in_ok-at.field-0-0;
        is = refl;
        told = made.read _ xs c.args.place c.in_ok-at.field-0-0 are;
      }));
      kept = Keeps-then _ _ _ many.kept made.kept;
      within = made.within;
      small = grind (arith, made.shape, many.small);
      inside = c.in_ok-at.ensures.inside;
      further = omega (arith, many.further, c.in_ok-at.ensures.further);
    }
