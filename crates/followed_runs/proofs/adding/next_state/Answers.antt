-- Proves that the text of the state is added, behind what came before it.
use Rattle.std.proofs.Common.{◌++◌, Option, sym, ap, ◌∙◌}
use Rattle.tla_value.specs.Value.{Value}
use Rattle.step_runner.specs.Shown.{Before, stepped, state_text}
use Rattle.step_moves.specs.StatesOf.{state_of}
use Rattle.followed_runs.specs.Parties.{program_of, actors_of}
use Rattle.followed_runs.proofs.FollowLaws.{before_by}
use Rattle.followed_runs.proofs.adding.next_state.Goals as goal

pub returns-clause-adds : goal.returns-clause-adds
returns-clause-adds c =
    let P = program_of c.args.party.now in
    let s = state_of c.args.state in
    let taken = c.in_ok-turned.turned.taken in
    let before =
    before_by P (actors_of c.args.party.now) c.args.one.now s c.requires.party.actors ∙ c.in_ok-turned.ensures.before
    ∙ ap (λ (w : Option Value). stepped taken.label w taken.place) (sym c.as_ref.ensures.value)
    in
    c.in_ok-add_state.ensures P (sym c.requires.party.variables) ∙ ap (λ (b : Before). c.args.text.now ++ state_text P c.args.number b (state_of taken.state)) (sym before)
