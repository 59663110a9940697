-- Proves that each step goes on as the script does, and that one that isn't taken is where it stops.
use Rattle.step_moves.specs.StatesOf.{state_of}
use Rattle.followed_runs.specs.Parties.{program_of, actors_of}
use Rattle.followed_runs.proofs.FollowLaws.{next_from, ends_shown}
use Rattle.followed_runs.proofs.adding.add_turns.Goals as goal

pub loop-i-preserved : goal.loop-i-preserved
loop-i-preserved c = record {
  scene = c.in-Ok.ensures.scene;
  going =
      next_from (program_of c.args.party.now) (actors_of c.args.party.now) c.args.turns.now (state_of c.args.first) c.args.text.now c.loop-i.i c.index-turns-i.result
      (state_of c.loop-i.state) (state_of c.in-Ok.next) c.loop-i.text c.next_state.new.text c.index-turns-i.is c.loop-i-test.true c.in-Ok.ensures.replies c.in-Ok.ensures.adds
      c.loop-i.invariant.going;
}

pub returns-in-Err : goal.returns-in-Err
returns-in-Err c =
    ends_shown (program_of c.args.party.now) (actors_of c.args.party.now) c.args.turns.now (state_of c.args.first) c.args.text.now c.in-Err.halt c.loop-i.i c.index-turns-i.result
    (state_of c.loop-i.state) c.loop-i.text c.next_state.new.text c.stopped.result c.index-turns-i.is c.loop-i-test.true c.in-Err.ensures.replies c.in-Err.ensures.adds
    c.loop-i.invariant.going c.stopped.ensures
