-- Proves what is asked of `choice_from`.
use Rattle.std.proofs.Common.{arith, refl}
use Rattle.tla_tree.specs.Spelling.{if_then_else}
use Rattle.tla_tree.proofs.PoolNumbers.{Keeps-then}
use Rattle.expr_nodes.proofs.MakeLemmas.{kept_in}
use Rattle.expr_rows.proofs.ReadLemmas.{told_then, told_on}
use Rattle.expr_binders.proofs.read_choice.choice_from.Goals as goal

pub returns : goal.returns
returns g c =
    let one = c.requires.given.reads _ _ _ _ _ (omega arith) c.requires.given.there c.in_ok-a.ensures in
    let two = c.requires.given.reads _ _ _ _ _ (omega arith) c.in_ok-at.ensures.inside c.in_ok-b.ensures in
    let three = c.requires.given.reads _ _ _ _ _ (omega arith) c.in_ok-at-2.ensures.inside c.in_ok-c.ensures in
    let made = c.in_ok-whole.ensures in
    record {
      read = told_then _ _ one.read (λ i is. told_on _ _ _ c.in_ok-at.ensures.value
          (told_then _ _ two.read (λ j js. told_on _ _ _ c.in_ok-at-2.ensures.value
          (told_then _ _ three.read (λ k ks. record {
            what = if_then_else c.args.place i c.in_ok-at.field-0-0 j c.in_ok-at-2.field-0-0 k;
            is = refl;
            told = made.read _ i j k _ _ (kept_in (Keeps-then _ _ _ two.kept three.kept) is) (kept_in three.kept js) ks;
          })))));
      kept = Keeps-then _ _ _ one.kept (Keeps-then _ _ _ two.kept (Keeps-then _ _ _ three.kept made.kept));
      within = made.within;
      small = grind (arith, made.shape, one.small, two.small, three.small);
      inside = three.inside;
      further = omega (arith, one.further, c.in_ok-at.ensures.further, two.further, c.in_ok-at-2.ensures.further, three.further);
    }
