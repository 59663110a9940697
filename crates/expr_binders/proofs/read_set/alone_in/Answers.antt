-- Proves what is asked of `alone_in`.
use Rattle.std.proofs.Common.{arith, refl}
use Rattle.tla_tree.specs.Spelling.{set_of, last}
use Rattle.expr_rows.proofs.ReadLemmas.{told_on}
use Rattle.expr_rows.proofs.ReadRows.{one_in}
use Rattle.expr_binders.proofs.read_set.alone_in.Goals as goal

pub returns-clause-read : goal.returns-clause-read
returns-clause-read c = λ i h.
    told_on _ _ _ c.in_ok-at.ensures.value (record {
      what = set_of c.args.place (last i) c.in_ok-at.field-0-0;
      is = refl;
      told = c.in_ok-whole.ensures.read _ (last i) c.in_ok-at.field-0-0 (rw c.in_ok-ids.ensures.items (one_in h));
    })

pub returns-clause-stands : goal.returns-clause-stands
returns-clause-stands c = (
  c.in_ok-whole.ensures.within,
  grind (arith, c.in_ok-whole.ensures.shape, c.requires.a_small),
  c.in_ok-at.ensures.inside,
  c.in_ok-at.ensures.further,
)
