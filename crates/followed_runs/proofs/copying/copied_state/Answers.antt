-- Proves that one more name has its value in the copy.
use Rattle.followed_runs.proofs.CopyLaws.{next_copied}
use Rattle.followed_runs.proofs.copying.copied_state.Goals as goal

pub loop-name-preserved : goal.loop-name-preserved
loop-name-preserved c =
    next_copied c.args.variables.now c.loop-name.name-index c.name-item.result c.in_ok-copied-in-Some.field-0 c.in_ok-copied-in-Some-2.field-0 c.in-Some.value.now c.args.state.now c.loop-name.copy c.set.new.self
    c.name-item.is c.loop-name-test.true c.in-Some.ensures c.in_ok-copied-in-Some.ensures c.in_ok-copied-in-Some-2.ensures c.in_ok-set-in-Some.ensures.ok c.loop-name.invariant
