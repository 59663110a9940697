-- What is no constant is measured.
use Rattle.std.proofs.Common.{sym, ◌∙◌}
use Rattle.std.proofs.lemmas.Result.{IfOk-weaker}
use Rattle.module_outside.proofs.depth.definition_depth.Goals as goal

pub returns-clause-depth : goal.returns-clause-depth
returns-clause-depth c =
    IfOk-weaker c.depth_within-depth.result _ _ (λ r h v s.
    h v c.args.title.now s (sym (s.constants c.args.title.now) ∙ sym c.has.ensures ∙ c.if-has.false) c.new-bound.ensures)
    c.depth_within-depth.ensures.depth
