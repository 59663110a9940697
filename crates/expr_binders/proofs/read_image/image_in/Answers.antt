-- Proves what is asked of `image_in`.
use Rattle.std.proofs.Common.{arith, refl}
use Rattle.tla_tree.specs.Spelling.{image}
use Rattle.expr_nodes.proofs.MakeLemmas.{kept_in}
use Rattle.expr_rows.proofs.ReadLemmas.{told_then, told_on}
use Rattle.expr_binders.proofs.read_image.image_in.Goals as goal

pub returns-clause-read : goal.returns-clause-read
returns-clause-read g c = λ i q h.
    let many = c.in_ok-bound.ensures in
    told_on _ _ _ c.in_ok-word.ensures.value (told_then _ _ many.read (λ bs are. told_on _ _ _ c.in_ok-at.ensures.value (record {
      what = image c.args.place i q bs c.in_ok-at.field-0-0;
      is = refl;
      told = c.in_ok-whole.ensures.read _ i bs q c.in_ok-at.field-0-0 (kept_in many.kept h) are;
    })))

pub returns-clause-stands : goal.returns-clause-stands
returns-clause-stands g c =
    let many = c.in_ok-bound.ensures in (
      c.in_ok-whole.ensures.within,
      grind (arith, c.in_ok-whole.ensures.shape, many.small, c.requires.a_small),
      c.in_ok-at.ensures.inside,
      omega (arith, c.in_ok-word.ensures.further, many.further, c.in_ok-at.ensures.further),
    )
