-- Proves why a trace stops at its first state.
use Rattle.std.proofs.Common.{Option, true, false, Some, None, ap, ◌∙◌}
use Rattle.tla_value.specs.Value.{Trouble}
use Rattle.step_runner.specs.Explained.{told, troubled}
use Rattle.followed_runs.specs.Parties.{program_of}
use Rattle.explained_traces.proofs.VerdictLaws.{init_said, halts_so}
use Rattle.explained_traces.proofs.verdicts.start_halt.Goals as goal

pub returns-in-Some-true : goal.returns-in-Some-true
returns-in-Some-true c = λ m a.
    halts_so 0 _ _ c.in_ok-truth.field-0 (Some true) _ (init_said c.args.judge.now m c.args.state.now c.requires.state) (c.in_ok-truth.ensures _ (c.starts.ensures m a)) (c.in-Some-true.is ∙ ap Some c.in-Some-true.field-0-test)

pub returns-in-Some-false : goal.returns-in-Some-false
returns-in-Some-false c = λ m a.
    halts_so 0 _ _ c.in_ok-truth.field-0 (Some false) _ (init_said c.args.judge.now m c.args.state.now c.requires.state) (c.in_ok-truth.ensures _ (c.starts.ensures m a)) (c.in-Some-false.is ∙ ap Some c.in-Some-false.field-0-test)

pub returns-in_ok-found-in-None : goal.returns-in_ok-found-in-None
returns-in_ok-found-in-None c = λ m a.
    ap Some (c.troubled_by.ensures ∙ ap (λ (o : Option Trouble). troubled (told (program_of c.args.judge.now.party) o)) c.in_ok-found-in-None.ensures)
    ∙ halts_so 0 _ _ c.in_ok-truth.field-0 None _ (init_said c.args.judge.now m c.args.state.now c.requires.state) (c.in_ok-truth.ensures _ (c.starts.ensures m a)) c.in-None.is
