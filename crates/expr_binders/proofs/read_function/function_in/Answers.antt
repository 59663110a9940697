-- Proves what is asked of `function_in`.
use Rattle.std.proofs.Common.{arith, refl}
use Rattle.tla_tree.specs.Spelling.{function}
use Rattle.tla_tree.proofs.PoolNumbers.{AllBelow-more}
use Rattle.expr_rows.proofs.ReadLemmas.{told_then, told_on}
use Rattle.expr_binders.proofs.ReadBinds.{kept_bound}
use Rattle.expr_binders.proofs.read_function.function_in.Goals as goal

pub function-requires-clause-below : goal.function-requires-clause-below
function-requires-clause-below g c = (let one = c.requires.given.reads _ _ _ _ _ (omega arith) c.in_ok-at.ensures.inside c.in_ok-a.ensures in AllBelow-more _ _ _ one.kept.longer c.requires.below)

pub returns-clause-read : goal.returns-clause-read
returns-clause-read g c = λ bs are.
    let one = c.requires.given.reads _ _ _ _ _ (omega arith) c.in_ok-at.ensures.inside c.in_ok-a.ensures in
    told_on _ _ _ c.in_ok-at.ensures.value (told_then _ _ one.read (λ i is. told_on _ _ _ c.in_ok-at-2.ensures.value (record {
      what = function c.args.place bs c.in_ok-at.field-0-0 i c.in_ok-at-2.field-0-0;
      is = refl;
      told = c.in_ok-whole.ensures.read _ i bs c.in_ok-at.field-0-0 c.in_ok-at-2.field-0-0 is (kept_bound one.kept are);
    })))

pub returns-clause-stands : goal.returns-clause-stands
returns-clause-stands g c =
    let one = c.requires.given.reads _ _ _ _ _ (omega arith) c.in_ok-at.ensures.inside c.in_ok-a.ensures in (
      c.in_ok-whole.ensures.within,
      grind (arith, c.in_ok-whole.ensures.shape, one.small, c.requires.small),
      c.in_ok-at-2.ensures.inside,
      omega (arith, c.in_ok-at.ensures.further, one.further, c.in_ok-at-2.ensures.further),
    )
