-- Proves what comes of calls.
use Rattle.std.proofs.Common.{ℕ, List, length, ◌≤◌, sym, ap, subst, ◌∙◌}
use Rattle.tla_tree.specs.Pool.{AllBelow, trees_at}
use Rattle.pcal_tree.proofs.InMemoryEach.{past_all_below}
use Rattle.pcal_tree.specs.declared.algorithm.Simple.{Simple}
use Rattle.pcal_tree.specs.Algorithm as pure
use Rattle.pcal_tree.specs.InMemory.{simple_at, past_simple}
use Rattle.step_spots.specs.Targets.{target_word}
use Rattle.step_moves.specs.Runners.{partner_of}
use Rattle.step_flow.specs.Ends.{Ends, one_from}
use Rattle.step_flow.proofs.simple.simple.Goals as goal

pub called-requires-clause-below : goal.called-requires-clause-below
called-requires-clause-below c =
    let m = length c.args.runner.now.program.pool.now in
    subst (AllBelow m) (sym c.deref-in-Call.ensures.value) (past_all_below m c.in-Call.arguments.items (subst (λ (x : Simple). past_simple x ≤ m) c.in-Call.is c.requires.below))

pub returns-in-Call-clause-ends : goal.returns-in-Call-clause-ends
returns-in-Call-clause-ends c v u r =
    subst (λ (st : pure.Statement). Ends c.called.result c.called.new.going c.args.choices.now (one_from c.args.runner.now v u (target_word c.args.here) c.args.span.first st (target_word c.args.exit) (partner_of c.args.partner) c.args.going.now c.args.choices.now))
    (ap (λ (es : List ℕ). pure.call c.in-Call.name (trees_at c.args.runner.now.program.pool.now es)) c.deref-in-Call.ensures.value ∙ sym (ap (simple_at c.args.runner.now.program.pool.now) c.in-Call.is))
    (c.called.ensures.ends v u r)
