-- Proves what is asked of `case_in`.
use Rattle.std.proofs.Common.{arith, refl}
use Rattle.tla_tree.specs.Spelling.{cases}
use Rattle.tla_tree.proofs.PoolNumbers.{Keeps-then}
use Rattle.expr_rows.proofs.ReadLemmas.{told_then}
use Rattle.tla_expr.proofs.read_listed.case_in.Goals as goal

pub returns : goal.returns
returns g c =
    let many = c.in_ok-many.ensures in
    let made = c.in_ok-whole.ensures in
    record {
      read = told_then _ _ many.read (λ xs are. record { what = cases c.args.place xs; is = refl; told = made.read _ xs are });
      kept = Keeps-then _ _ _ many.kept made.kept;
      within = made.within;
      small = grind (arith, made.shape, many.small);
      inside = many.inside;
      further = many.further;
    }
