-- Proves that an expression is as Init has it.
use Rattle.std.proofs.Common.{◌∙◌}
use Rattle.std.proofs.lemmas.Result.{IfOk-weaker}
use Rattle.tla_tree.specs.Pool.{at}
use Rattle.module_formulas.specs.Starts.{for_takers}
use Rattle.module_formulas.proofs.Grown.{taker_at-kept}
use Rattle.module_formulas.proofs.StartLaws.{written_is}
use Rattle.module_formulas.proofs.starts.expression.Goals as goal

pub returns-clause-tree : goal.returns-clause-tree
returns-clause-tree c =
    let ts = c.args.pool.now in
    let said = c.in_ok-written.ensures in
    IfOk-weaker c.for_taker.result _ _ (λ r h P u d l.
    h d.this
    ∙ (λ j. for_takers (taker_at-kept ts c.localise.new.pool said.kept c.args.taker c.requires.within j) ((said.tree ∙ written_is ts c.args.draft.now c.args.local.now P u d l (at ts c.args.e)) j)))
    c.for_taker.ensures.tree
