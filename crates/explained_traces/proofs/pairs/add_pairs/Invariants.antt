-- What the loop keeps: the states that are left go on from here as all do from the first one.
use Rattle.tla_value.specs.States.{value_of}
use Rattle.module_tree.specs.Module.{Module}
use Rattle.step_moves.specs.StatesOf.{state_of}
use Rattle.action_truth.specs.AskedOf.{IsAsked}
use Rattle.followed_runs.specs.Parties.{program_of, actors_of}
use Rattle.explained_traces.specs.Judging.{IsState}
use Rattle.explained_traces.proofs.PairLaws.{GoingFrom}
use Rattle.explained_traces.proofs.pairs.add_pairs.Given as goal

abbrev pub invariant-loop-i : goal.invariant-loop-i
invariant-loop-i l = record {
  from : IsState l.judge l.from;
  going : (m : Module) → IsAsked l.judge.asked m
      → GoingFrom (program_of l.judge.party) m (value_of l.judge.asked.constants.now) (actors_of l.judge.party) (state_of l.fn.first) l.rest l.fn.text l.i (state_of l.from) l.text;
}
