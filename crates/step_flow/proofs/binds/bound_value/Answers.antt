-- Proves what is bound.
use Rattle.step_moves.specs.Programs.{program_at}
use Rattle.step_moves.specs.StatesOf.{state_of}
use Rattle.step_flow.specs.Ends.{scope_of}
use Rattle.step_flow.proofs.BindLaws.{among_bound, is_bound}
use Rattle.step_flow.proofs.binds.bound_value.Goals as goal

pub returns-in-Among-clause-taken : goal.returns-in-Among-clause-taken
returns-in-Among-clause-taken c =
    among_bound c.args.runner.now.program.pool.now c.args.at (scope_of (program_at c.args.runner.now.program) c.args.going.now) (state_of c.args.going.now.state) c.member.result _ _ c.args.bind.now c.in-Among.field-0 c.in-Among.set c.in-Among.is
    c.member.ensures.taken

pub returns-in_ok-value-in-Is-clause-taken : goal.returns-in_ok-value-in-Is-clause-taken
returns-in_ok-value-in-Is-clause-taken c =
    is_bound c.args.runner.now.program.pool.now c.args.at (scope_of (program_at c.args.runner.now.program) c.args.going.now) (state_of c.args.going.now.state) _ c.in_ok-value-in-Is.field-0 c.args.bind.now c.in-Is.field-0 c.in-Is.e c.in-Is.is
    c.in_ok-value-in-Is.ensures
