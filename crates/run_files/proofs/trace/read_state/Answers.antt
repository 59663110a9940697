-- Proves what is asked of `read_state`.
use Rattle.std.proofs.Common.{sym, ◌∙◌}
use Rattle.run_files.proofs.TraceLaws.{state_read, state_lacks, state_stops}
use Rattle.run_files.proofs.trace.read_state.Goals as goal

pub returns-then-not-all_given : goal.returns-then-not-all_given
returns-then-not-all_given c =
    state_lacks c.args.known.now c.args.vars.now c.args.text.now c.in-Ok.state c.requires.names c.in-Ok.ensures (sym c.all_given.ensures ∙ c.if-not-all_given.true)

pub returns-in_ok-push-in-Ok : goal.returns-in_ok-push-in-Ok
returns-in_ok-push-in-Ok c =
    (c.in-Ok.state, state_read c.args.known.now c.args.vars.now c.args.text.now c.in-Ok.state c.requires.names c.in-Ok.ensures (sym c.all_given.ensures ∙ c.if-not-all_given.false), c.in_ok-push-in-Ok.ensures.items)

pub returns-in-Err : goal.returns-in-Err
returns-in-Err c = state_stops c.args.known.now c.args.vars.now c.args.text.now c.args.states.now.items c.args.states.now.items c.in-Err.halt c.requires.names c.in-Err.ensures
