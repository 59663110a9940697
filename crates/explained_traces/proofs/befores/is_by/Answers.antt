-- Proves that it is told of a process whether the step is its.
use Rattle.std.proofs.Common.{sym, ◌∙◌}
use Rattle.explained_traces.proofs.VerdictLaws.{mine_said, is_told}
use Rattle.explained_traces.proofs.befores.is_by.Goals as goal

pub returns : goal.returns
returns c = λ m a.
    is_told _ _ c.in_ok-so.so (mine_said c.args.judge.now m c.args.pair.now c.requires.pair _ c.args.actor.now.identifier c.as_ref-who.ensures.value) (c.in_ok-so.ensures _ (c.by_process.ensures m a)) ∙ sym c.unwrap_or.ensures
