-- Proves that each state goes on as the trace does, and that one that isn't shown is where it stops.
use Rattle.std.proofs.Common.{refl, sym, ap, ◌∙◌, arith}
use Rattle.tla_value.specs.States.{value_of}
use Rattle.step_moves.specs.StatesOf.{state_of}
use Rattle.followed_runs.specs.Parties.{program_of, actors_of}
use Rattle.explained_traces.specs.Halts.{halt_by, halt_of}
use Rattle.explained_traces.specs.Judging.{IsState}
use Rattle.explained_traces.proofs.PairLaws.{all_at, next_from, halts_from, ends_from}
use Rattle.explained_traces.proofs.pairs.add_pairs.Goals as goal

pub pair_halt-requires-clause-pair : goal.pair_halt-requires-clause-pair
pair_halt-requires-clause-pair c = record {
  from = c.loop-i.invariant.from;
  to = all_at (IsState c.args.judge.now) c.args.rest.now c.loop-i.i c.index-rest-i.result c.requires.rest c.index-rest-i.is c.loop-i-test.true;
}

pub add_second-requires-clause-pair : goal.add_second-requires-clause-pair
add_second-requires-clause-pair c = record {
  from = c.loop-i.invariant.from;
  to = all_at (IsState c.args.judge.now) c.args.rest.now c.loop-i.i c.index-rest-i.result c.requires.rest c.index-rest-i.is c.loop-i-test.true;
}

pub loop-i-preserved : goal.loop-i-preserved
loop-i-preserved c = record {
  from = all_at (IsState c.args.judge.now) c.args.rest.now c.loop-i.i c.index-rest-i.result c.requires.rest c.index-rest-i.is c.loop-i-test.true;
  going = λ m a.
      let j = c.args.judge.now in
      next_from (program_of j.party) m (value_of j.asked.constants.now) (actors_of j.party) (state_of c.args.first.now) c.args.rest.now c.args.text.now c.loop-i.i c.index-rest-i.result
      (state_of c.loop-i.from.now) c.loop-i.text c.add_second.new.text c.index-rest-i.is c.loop-i-test.true (sym (ap halt_of c.in-None.is) ∙ c.in_ok-halt.ensures m a)
      (c.in_ok-add_second-in-None.ensures m a) (c.loop-i.invariant.going m a);
}

pub returns-in-Some : goal.returns-in-Some
returns-in-Some c = λ m a.
    let j = c.args.judge.now in
    halts_from (program_of j.party) m (value_of j.asked.constants.now) (actors_of j.party) (state_of c.args.first.now) c.args.rest.now c.args.text.now (halt_by c.in-Some.halt) _ c.loop-i.i
    c.index-rest-i.result (state_of c.loop-i.from.now) c.loop-i.text c.index-rest-i.is c.loop-i-test.true (sym (ap halt_of c.in-Some.is) ∙ c.in_ok-halt.ensures m a) refl (c.loop-i.invariant.going m a)

pub returns : goal.returns
returns c = λ m a.
    let j = c.args.judge.now in
    ends_from (program_of j.party) m (value_of j.asked.constants.now) (actors_of j.party) (state_of c.args.first.now) c.args.rest.now c.args.text.now c.loop-i.i (state_of c.loop-i.from.now)
    c.loop-i.text (omega (arith, c.loop-i-test.false)) (c.loop-i.invariant.going m a)
