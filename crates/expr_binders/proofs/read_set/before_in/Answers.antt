-- Proves what is asked of `before_in`.
use Rattle.std.proofs.Common.{arith, refl}
use Rattle.tla_tree.specs.Spelling.{set_of, more}
use Rattle.expr_nodes.proofs.MakeLemmas.{kept_in}
use Rattle.expr_rows.proofs.ReadLemmas.{told_then, told_on}
use Rattle.expr_rows.proofs.ReadRows.{more_in}
use Rattle.expr_binders.proofs.read_set.before_in.Goals as goal

pub returns-clause-read : goal.returns-clause-read
returns-clause-read g c = λ i q h.
    told_then _ _ c.in_ok-many.ensures.read (λ xs are. told_on _ _ _ c.in_ok-at.ensures.value (record {
      what = set_of c.args.place (more i q xs) c.in_ok-at.field-0-0;
      is = refl;
      told = c.in_ok-whole.ensures.read _ (more i q xs) c.in_ok-at.field-0-0 (rw (c.in_ok-ids.ensures, c.larger.ensures) (more_in q (kept_in c.in_ok-many.ensures.kept h) are));
    }))

pub returns-clause-stands : goal.returns-clause-stands
returns-clause-stands g c = (
  c.in_ok-whole.ensures.within,
  grind (arith, c.in_ok-whole.ensures.shape, c.in_ok-many.ensures.small, c.requires.a_small, c.larger.ensures),
  c.in_ok-at.ensures.inside,
  omega (arith, c.in_ok-many.ensures.further, c.in_ok-at.ensures.further),
)
