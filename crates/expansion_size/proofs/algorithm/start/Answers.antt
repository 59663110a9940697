-- Proves that a first value counts.
use Rattle.std.proofs.Common.{sym, ap, ◌∙◌}
use Rattle.pcal_tree.specs.declared.algorithm.Start.{Start}
use Rattle.pcal_tree.specs.InMemory.{start_at}
use Rattle.macro_expand.specs.Measured.{of_start}
use Rattle.expansion_size.specs.Budget.{budget}
use Rattle.expansion_size.specs.FramesIn.{put_by}
use Rattle.expansion_size.proofs.algorithm.start.Goals as goal

pub returns-in-Equals : goal.returns-in-Equals
returns-in-Equals c = λ d.
    c.whole.ensures d ∙ ap (λ (s : Start). of_start (budget (put_by c.args.pool.now c.args.frames.now)) (start_at c.args.pool.now s) d c.args.left) (sym c.in-Equals.is)

pub returns-in-Among : goal.returns-in-Among
returns-in-Among c = λ d.
    c.whole-in-Among.ensures d ∙ ap (λ (s : Start). of_start (budget (put_by c.args.pool.now c.args.frames.now)) (start_at c.args.pool.now s) d c.args.left) (sym c.in-Among.is)
