-- Proves what is asked of `fields_in`.
use Rattle.std.proofs.Common.{arith, refl}
use Rattle.tla_tree.specs.Spelling.{fields}
use Rattle.tla_tree.proofs.PoolNumbers.{Keeps-then}
use Rattle.expr_rows.proofs.ReadLemmas.{told_then, told_on}
use Rattle.expr_lists.proofs.read_record.fields_in.Goals as goal

pub returns : goal.returns
returns g c =
    let all = c.in_ok-all.ensures in
    let made = c.in_ok-whole.ensures in
    record {
      read = told_then _ _ all.read (λ fs are. told_on _ _ _ c.in_ok-at.ensures.value (record {
        what = fields c.args.place fs c.in_ok-at.field-0-0;
        is = refl;
        told = made.read _ fs c.in_ok-at.field-0-0 are;
      }));
      kept = Keeps-then _ _ _ all.kept made.kept;
      within = made.within;
      small = grind (arith, made.shape, all.small);
      inside = c.in_ok-at.ensures.inside;
      further = omega (arith, all.further, c.in_ok-at.ensures.further);
    }
