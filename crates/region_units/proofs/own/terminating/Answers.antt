-- Proves what is asked of `terminating`.
use Rattle.std.proofs.Common.{ℕ}
use Rattle.tla_tree.specs.Reader.{Out}
use Rattle.expr_nodes.specs.Ahead.{ahead}
use Rattle.expr_nodes.specs.ReadIn.{Told}
use Rattle.module_tree.specs.Units.{UnitForm}
use Rattle.region_made.specs.declared.unit.Unit.{Unit as Kept}
use Rattle.region_units.specs.Stands.{IsUnitOf}
use Rattle.region_units.proofs.BracketSteps.{terminating_so}
use Rattle.region_units.proofs.own.terminating.Goals as goal

pub returns-clause-read : goal.returns-clause-read
returns-clause-read c = λ p.
    let v = c.args.tokens.now in
    let s = c.args.s in
    terminating_so (λ (o : Out UnitForm). Told (λ (x : Kept × ℕ) f. IsUnitOf c.terminating_after.new.pool x.0 f) (λ x. ahead v x.1) c.terminating_after.result o)
    s.left _ p _ _ (ahead v s.at) _ _ c.in_ok-bullet.ensures.left c.in_ok-at.ensures.value c.in_ok-bullet.ensures.value (c.terminating_after.ensures.read p _)
