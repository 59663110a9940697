-- Proves what is asked of `quantifier_in`.
use Rattle.std.proofs.Common.{arith, refl}
use Rattle.tla_tree.specs.Spelling.{quantified}
use Rattle.tla_tree.proofs.PoolNumbers.{Keeps-then, AllBelow-more}
use Rattle.expr_rows.proofs.ReadLemmas.{told_then, told_on}
use Rattle.expr_binders.proofs.ReadBinds.{kept_bound}
use Rattle.expr_binders.proofs.read_quantifier.quantifier_in.Goals as goal

pub quantified-requires-clause-below : goal.quantified-requires-clause-below
quantified-requires-clause-below g c = (let one = c.requires.given.reads _ _ _ _ _ (omega arith) c.in_ok-at.ensures.inside c.in_ok-a.ensures in AllBelow-more _ _ _ one.kept.longer c.in_ok-bound.ensures.below)

pub returns : goal.returns
returns g c =
    let many = c.in_ok-bound.ensures in
    let one = c.requires.given.reads _ _ _ _ _ (omega arith) c.in_ok-at.ensures.inside c.in_ok-a.ensures in
    let made = c.in_ok-whole.ensures in
    record {
      read = told_on _ _ _ c.in_ok-word.ensures.value (told_then _ _ many.read (λ bs are. told_on _ _ _ c.in_ok-at.ensures.value (told_then _ _ one.read (λ i is. record {
        what = quantified c.args.every c.args.place bs c.in_ok-at.field-0-0 i;
        is = refl;
        told = made.read _ i bs c.in_ok-at.field-0-0 is (kept_bound one.kept are);
      }))));
      kept = Keeps-then _ _ _ many.kept (Keeps-then _ _ _ one.kept made.kept);
      within = made.within;
      small = grind (arith, made.shape, many.small, one.small);
      inside = one.inside;
      further = omega (arith, c.in_ok-word.ensures.further, many.further, c.in_ok-at.ensures.further, one.further);
    }
