-- Proves what is asked of `operand_in`.
use Rattle.std.proofs.Common.{arith, refl}
use Rattle.tla_tree.specs.Spelling.{prefix_of}
use Rattle.tla_tree.proofs.PoolNumbers.{Keeps-then}
use Rattle.expr_rows.proofs.ReadLemmas.{told_then}
use Rattle.expr_operands.proofs.read_plain.operand_in.Goals as goal

pub returns : goal.returns
returns g c =
    let one = c.requires.given.reads _ _ _ _ _ (omega arith) c.requires.given.there c.in_ok-a.ensures in
    let made = c.in_ok-whole.ensures in
    record {
      read = told_then _ _ one.read (λ i is. record { what = prefix_of c.args.place c.args.op i; is = refl; told = made.read _ i is });
      kept = Keeps-then _ _ _ one.kept made.kept;
      within = made.within;
      small = grind (arith, made.shape, one.small);
      inside = one.inside;
      further = one.further;
    }
