-- Proves what is asked of `bracket_in`.
use Rattle.std.proofs.Common.{arith, refl}
use Rattle.tla_tree.specs.Spelling.{brackets}
use Rattle.expr_rows.proofs.ReadLemmas.{told_then, told_on}
use Rattle.expr_operands.proofs.read_plain.bracket_in.Goals as goal

pub returns : goal.returns
returns g c =
    let one = c.requires.given.reads _ _ _ _ _ (omega arith) c.requires.given.there c.in_ok-a.ensures in
    record {
      read = told_then _ _ one.read (λ i is. told_on _ _ _ c.in_ok-at.ensures.value (record {
        what = brackets c.args.place i c.in_ok-at.field-0-0;
        is = refl;
        told = c.brackets.ensures.read _ _ i c.in_ok-at.field-0-0 is;
      }));
      kept = one.kept;
      within = (c.brackets.ensures.read _ _ _ c.args.place (one.read.told)).below;
      small = grind (arith, c.brackets.ensures.shape, one.small);
      inside = c.in_ok-at.ensures.inside;
      further = omega (arith, one.further, c.in_ok-at.ensures.further);
    }
