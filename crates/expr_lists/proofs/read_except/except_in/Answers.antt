-- Proves what is asked of `except_in`.
use Rattle.std.proofs.Common.{refl}
use Rattle.tla_tree.specs.Spelling.{except}
use Rattle.expr_nodes.proofs.MakeLemmas.{kept_in}
use Rattle.expr_rows.proofs.ReadLemmas.{told_then, told_on}
use Rattle.expr_lists.proofs.read_except.except_in.Goals as goal

pub returns-clause-read : goal.returns-clause-read
returns-clause-read g c = λ i q h.
    let all = c.in_ok-all.ensures in
    told_then _ _ all.read (λ ss are. told_on _ _ _ c.in_ok-at.ensures.value (record {
      what = except c.args.place i q ss c.in_ok-at.field-0-0;
      is = refl;
      told = c.in_ok-whole.ensures.read _ i ss c.in_ok-all.all.ids.items q c.in_ok-at.field-0-0 c.in_ok-parts.ensures (kept_in all.kept h) are;
    }))
