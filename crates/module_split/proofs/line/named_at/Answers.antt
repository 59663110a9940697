use Rattle.std.proofs.Common.{ap, sym, ◌∙◌}
use Rattle.std.specs.Prelude.{codes}
use Rattle.module_tree.specs.TextFront.{past_run, past_word}
use Rattle.module_split.proofs.Titles.{name_left}
use Rattle.module_split.proofs.line.named_at.Goals as goal

pub returns-then-ends_line-clause-end : goal.returns-then-ends_line-clause-end
returns-then-ends_line-clause-end c =
    name_left c.args.text.now c.in_ok-rest.rest.now c.in_ok-rest-2.rest.now c.in_ok-named.named.now (ap (past_run 45) (sym c.past_spaces.ensures) ∙ c.in_ok-rest.ensures)
    (ap (past_word (codes "MODULE")) (sym c.past_spaces-2.ensures) ∙ c.in_ok-rest-2.ensures) c.in_ok-named.ensures
