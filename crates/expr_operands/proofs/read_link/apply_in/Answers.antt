-- Proves what is asked of `apply_in`.
use Rattle.std.proofs.Common.{arith, refl}
use Rattle.tla_tree.specs.Spelling.{apply}
use Rattle.expr_nodes.proofs.MakeLemmas.{kept_in}
use Rattle.expr_rows.proofs.ReadLemmas.{told_then, told_on}
use Rattle.expr_operands.proofs.read_link.apply_in.Goals as goal

pub returns-clause-read : goal.returns-clause-read
returns-clause-read g c = λ i p h.
    told_then _ _ c.in_ok-many.ensures.read (λ xs are. told_on _ _ _ c.in_ok-at.ensures.value (record {
      what = apply i p xs c.in_ok-at.field-0-0;
      is = refl;
      told = c.in_ok-whole.ensures.read i xs p _ (kept_in c.in_ok-many.ensures.kept h) are;
    }))

pub returns-clause-stands : goal.returns-clause-stands
returns-clause-stands g c = (
  c.in_ok-whole.ensures.within,
  grind (arith, c.in_ok-whole.ensures.shape, c.in_ok-many.ensures.small, c.requires.a_small),
  c.in_ok-at.ensures.inside,
  omega (arith, c.in_ok-many.ensures.further, c.in_ok-at.ensures.further),
)
