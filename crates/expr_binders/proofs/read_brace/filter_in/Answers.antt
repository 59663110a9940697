-- Proves what is asked of `filter_in`.
use Rattle.std.proofs.Common.{arith, refl}
use Rattle.tla_tree.specs.Spelling.{filter}
use Rattle.expr_nodes.proofs.MakeLemmas.{kept_in}
use Rattle.expr_rows.proofs.ReadLemmas.{told_then, told_on}
use Rattle.expr_binders.proofs.read_brace.filter_in.Goals as goal

pub returns-clause-read : goal.returns-clause-read
returns-clause-read g c = λ i q t h.
    let one = c.requires.given.reads _ _ _ _ _ (omega arith) c.requires.given.there c.in_ok-b.ensures in
    told_then _ _ one.read (λ j js. told_on _ _ _ c.in_ok-at.ensures.value (record {
      what = filter c.args.place c.args.word.place _ q i t j c.in_ok-at.field-0-0;
      is = refl;
      told = c.in_ok-whole.ensures.read _ i j q t c.in_ok-at.field-0-0 (kept_in one.kept h) js;
    }))

pub returns-clause-stands : goal.returns-clause-stands
returns-clause-stands g c =
    let one = c.requires.given.reads _ _ _ _ _ (omega arith) c.requires.given.there c.in_ok-b.ensures in (
      c.in_ok-whole.ensures.within,
      grind (arith, c.in_ok-whole.ensures.shape, one.small, c.requires.a_small),
      c.in_ok-at.ensures.inside,
      omega (arith, one.further, c.in_ok-at.ensures.further),
    )
