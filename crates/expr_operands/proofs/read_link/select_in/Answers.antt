-- Proves what is asked of `select_in`.
use Rattle.std.proofs.Common.{arith, refl}
use Rattle.tla_tree.specs.Spelling.{select}
use Rattle.expr_rows.proofs.ReadLemmas.{told_on}
use Rattle.expr_operands.proofs.read_link.select_in.Goals as goal

pub returns-clause-read : goal.returns-clause-read
returns-clause-read c = λ i p h.
    told_on _ _ _ c.in_ok-field.ensures.value (record { what = select i p _; is = refl; told = c.in_ok-whole.ensures.read i p h })

pub returns-clause-stands : goal.returns-clause-stands
returns-clause-stands c = (
  c.in_ok-whole.ensures.within,
  grind (arith, c.in_ok-whole.ensures.shape, c.requires.a_small),
  c.in_ok-field.ensures.inside,
  c.in_ok-field.ensures.further,
)
