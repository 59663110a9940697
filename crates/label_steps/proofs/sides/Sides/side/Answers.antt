-- Proves that one more left side is passed.
use Rattle.std.proofs.Common.{sym, ◌∙◌}
use Rattle.tla_tree.specs.Pool.{at}
use Rattle.label_steps.proofs.SideLaws.{side_added, side_passed}
use Rattle.label_steps.proofs.sides.Sides.side.Goals as goal

pub returns-in-None : goal.returns-in-None
returns-in-None c = λ t ms a. side_passed c.args.self.now (at c.args.pool.now c.args.left) t ms (sym c.in_ok-root.ensures ∙ c.in-None.is) a

pub returns-in_ok-add-in-Some : goal.returns-in_ok-add-in-Some
returns-in_ok-add-in-Some c = λ t ms a.
    side_added c.args.self.now c.add.new.self (at c.args.pool.now c.args.left) t c.in-Some.name c.is_whole.result ms (sym c.in_ok-root.ensures ∙ c.in-Some.is) c.is_whole.ensures c.in_ok-add-in-Some.ensures a
