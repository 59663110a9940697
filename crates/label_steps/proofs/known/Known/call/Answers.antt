-- Proves what a call of a macro assigns.
use Rattle.std.proofs.Common.{subst}
use Rattle.tla_tree.specs.Pool.{trees_at}
use Rattle.label_steps.specs.KnownIn.{IsKnown, find_summary}
use Rattle.label_steps.proofs.KnownLaws.{no_call, one_call}
use Rattle.label_steps.proofs.known.Known.call.Goals as goal

pub returns-in-None : goal.returns-in-None
returns-in-None c = λ ms a.
    no_call ms c.args.name.now (trees_at c.args.pool.now c.args.args.now) c.nothing.result (subst (λ o. IsKnown c.args.self.now.params.keys o (find_summary ms c.args.name.now)) c.in-None.is (c.find.ensures ms a))
    c.nothing.ensures.names c.nothing.ensures.twice

pub returns-in_ok-step-in-Some : goal.returns-in_ok-step-in-Some
returns-in_ok-step-in-Some c = λ ms a.
    let f = subst (λ o. IsKnown c.args.self.now.params.keys o (find_summary ms c.args.name.now)) c.in-Some.is (c.find.ensures ms a) in
    one_call c.args.self.now.params.keys ms c.args.name.now (trees_at c.args.pool.now c.args.args.now) c.in_ok-step-in-Some.step c.in-Some.summary.now f.0 f.1 f.2 c.in_ok-step-in-Some.ensures.names c.in_ok-step-in-Some.ensures.twice
