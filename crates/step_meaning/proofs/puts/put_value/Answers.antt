-- Proves that the variable has the value, and that the names stay.
use Rattle.step_meaning.proofs.FlowLaws.{on_ok}
use Rattle.step_meaning.proofs.OrderedNames.{state_put, begun_put}
use Rattle.step_meaning.proofs.puts.put_value.Goals as goal

pub returns-clause-put : goal.returns-clause-put
returns-clause-put c = on_ok c.set.result (λ e. state_put c.args.state.now c.set.new.self c.args.name.now c.in_ok-copied.field-0 c.args.value e c.in_ok-copied.ensures) c.set.ensures.ok

pub returns-clause-begun : goal.returns-clause-begun
returns-clause-begun c =
    on_ok c.set.result (λ e p h b. begun_put p c.args.state.now c.set.new.self c.args.name.now c.in_ok-copied.field-0 c.args.value e c.in_ok-copied.ensures h b) c.set.ensures.ok
