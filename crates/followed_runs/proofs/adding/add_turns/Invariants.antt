-- What the loop keeps: the steps that are left go on from here as all do from the first state.
use Rattle.step_moves.specs.StatesOf.{state_of}
use Rattle.step_moves.specs.ScopeIn.{IsScene}
use Rattle.followed_runs.specs.Parties.{program_of, actors_of}
use Rattle.followed_runs.proofs.FollowLaws.{GoingFrom}
use Rattle.followed_runs.proofs.adding.add_turns.Given as goal

abbrev pub invariant-loop-i : goal.invariant-loop-i
invariant-loop-i l = record {
  scene : IsScene l.party.stage.program l.state;
  going : GoingFrom (program_of l.party) (actors_of l.party) l.turns (state_of l.fn.first) l.fn.text l.i (state_of l.state) l.text;
}
