-- Proves what is asked of `let_in`.
use Rattle.std.proofs.Common.{arith, refl}
use Rattle.tla_tree.specs.Spelling.{local}
use Rattle.tla_tree.proofs.PoolNumbers.{Keeps-then, AllBelow-more}
use Rattle.expr_rows.proofs.ReadLemmas.{told_then, told_on}
use Rattle.tla_expr.proofs.ReadListed.{locals_kept}
use Rattle.tla_expr.proofs.read_listed.let_in.Goals as goal

pub local-requires-clause-below : goal.local-requires-clause-below
local-requires-clause-below g c =
    let one = c.requires.given.reads _ _ _ _ _ (omega arith) c.in_ok-at.ensures.inside c.in_ok-a.ensures in
    AllBelow-more _ _ _ one.kept.longer c.in_ok-many.ensures.below

pub returns : goal.returns
returns g c =
    let many = c.in_ok-many.ensures in
    let one = c.requires.given.reads _ _ _ _ _ (omega arith) c.in_ok-at.ensures.inside c.in_ok-a.ensures in
    let made = c.in_ok-whole.ensures in
    record {
      read = told_then _ _ many.read (λ ls are. told_on _ _ _ c.in_ok-at.ensures.value (told_then _ _ one.read (λ i is. record {
        what = local c.args.place ls c.in_ok-at.field-0-0 i;
        is = refl;
        told = made.read _ i ls c.in_ok-at.field-0-0 is (locals_kept one.kept are);
      })));
      kept = Keeps-then _ _ _ many.kept (Keeps-then _ _ _ one.kept made.kept);
      within = made.within;
      small = grind (arith, made.shape, many.small, one.small);
      inside = one.inside;
      further = omega (arith, many.further, c.in_ok-at.ensures.further, one.further);
    }
