-- Proves what is asked of `bracketed`.
use Rattle.std.proofs.Common.{ℕ}
use Rattle.tla_tree.specs.Reader.{Out}
use Rattle.expr_nodes.specs.Ahead.{ahead}
use Rattle.expr_nodes.specs.ReadIn.{Told}
use Rattle.region_items.specs.Stand.{IsTree}
use Rattle.region_units.specs.Brackets.{BracketForm}
use Rattle.region_units.proofs.BracketSteps.{bracketed_so}
use Rattle.region_units.proofs.own.bracketed.Goals as goal

pub returns-clause-read : goal.returns-clause-read
returns-clause-read c =
    let v = c.args.tokens.now in
    let s = c.args.s in
    bracketed_so (λ (o : Out BracketForm). Told (λ (x : ℕ × ℕ) (f : BracketForm). IsTree c.closed.new.pool x.0 f.inner) (λ x. ahead v x.1) c.closed.result o)
    s.left _ s.edge _ (ahead v s.at) _ c.in_ok-from.ensures.left c.in_ok-from.ensures.value (c.closed.ensures.read _)
