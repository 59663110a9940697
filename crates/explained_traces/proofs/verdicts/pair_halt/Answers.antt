-- Proves why a trace stops at the state of a pair.
use Rattle.std.proofs.Common.{Option, true, false, Some, None, ap, ◌∙◌}
use Rattle.tla_value.specs.Value.{Trouble}
use Rattle.step_runner.specs.Explained.{told, troubled}
use Rattle.followed_runs.specs.Parties.{program_of}
use Rattle.explained_traces.proofs.VerdictLaws.{next_said, halts_so}
use Rattle.explained_traces.proofs.verdicts.pair_halt.Goals as goal

pub returns-in-Some-true : goal.returns-in-Some-true
returns-in-Some-true c = λ m a.
    halts_so c.args.pair.now.number _ _ c.in_ok-truth.field-0 (Some true) _ (next_said c.args.judge.now m c.args.pair.now c.requires.pair) (c.in_ok-truth.ensures _ (c.holds.ensures m a)) (c.in-Some-true.is ∙ ap Some c.in-Some-true.field-0-test)

pub returns-in-Some-false : goal.returns-in-Some-false
returns-in-Some-false c = λ m a.
    halts_so c.args.pair.now.number _ _ c.in_ok-truth.field-0 (Some false) _ (next_said c.args.judge.now m c.args.pair.now c.requires.pair) (c.in_ok-truth.ensures _ (c.holds.ensures m a)) (c.in-Some-false.is ∙ ap Some c.in-Some-false.field-0-test)

pub first_trouble-requires-clause-scene : goal.first_trouble-requires-clause-scene
first_trouble-requires-clause-scene c = record { whole = c.requires.judge.party.stage.whole; names = c.requires.pair.from }

pub returns-in_ok-found-in-None : goal.returns-in_ok-found-in-None
returns-in_ok-found-in-None c = λ m a.
    ap Some (c.troubled_by.ensures ∙ ap (λ (o : Option Trouble). troubled (told (program_of c.args.judge.now.party) o)) c.in_ok-found-in-None.ensures)
    ∙ halts_so c.args.pair.now.number _ _ c.in_ok-truth.field-0 None _ (next_said c.args.judge.now m c.args.pair.now c.requires.pair) (c.in_ok-truth.ensures _ (c.holds.ensures m a)) c.in-None.is
