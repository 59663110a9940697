-- Proves that the start is followed by the steps, or that it is where the run stops.
use Rattle.step_moves.specs.StatesOf.{state_of}
use Rattle.run_files.specs.Turns.{script_of}
use Rattle.followed_runs.specs.Parties.{program_of, actors_of}
use Rattle.followed_runs.proofs.FollowLaws.{run_shown}
use Rattle.std.proofs.Common.{sym}
use Rattle.followed_runs.proofs.following.add_run.Goals as goal

pub returns-in_ok-add_state-in-Ok : goal.returns-in_ok-add_state-in-Ok
returns-in_ok-add_state-in-Ok c =
    let P = program_of c.args.party.now in
    run_shown P (script_of c.args.script.now) (actors_of c.args.party.now) (state_of c.in-Ok.state) _ _ c.args.text.now c.add_state.new.out c.add_turns.new.text c.add_turns.result
    c.deref.ensures.value c.deref-in-Ok.ensures.value c.in-Ok.ensures.replies (c.in_ok-add_state-in-Ok.ensures P (sym c.requires.party.variables)) c.add_turns.ensures
