-- Proves that the text of the state is added, behind the step that leads to it.
use Rattle.std.proofs.Common.{◌++◌, sym, ap, ◌∙◌}
use Rattle.step_runner.specs.Shown.{Before, state_text}
use Rattle.step_moves.specs.StatesOf.{state_of}
use Rattle.step_meaning.proofs.FlowLaws.{on_ok}
use Rattle.followed_runs.specs.Parties.{program_of}
use Rattle.explained_traces.specs.Shows.{before_by}
use Rattle.explained_traces.proofs.pairs.add_second.Goals as goal

pub returns-in-Some : goal.returns-in-Some
returns-in-Some c =
    let P = program_of c.args.judge.now.party in
    let q = c.args.pair.now in
    on_ok c.add_state.result
    (λ add m a. add P (sym c.requires.judge.party.variables)
    ∙ ap (λ (b : Before). c.args.text.now ++ state_text P q.number b (state_of q.to.now)) (ap before_by (sym c.in-Some.is) ∙ c.in_ok-leaving.ensures m a))
    c.add_state.ensures

pub returns-in-None : goal.returns-in-None
returns-in-None c =
    let P = program_of c.args.judge.now.party in
    let q = c.args.pair.now in
    on_ok c.add_state-in-None.result
    (λ add m a. add P (sym c.requires.judge.party.variables)
    ∙ ap (λ (b : Before). c.args.text.now ++ state_text P q.number b (state_of q.to.now)) (ap before_by (sym c.in-None.is) ∙ c.in_ok-leaving.ensures m a))
    c.add_state-in-None.ensures
