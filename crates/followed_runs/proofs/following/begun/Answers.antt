-- Proves that a start with choices left over isn't made.
use Rattle.std.proofs.Common.{◌≡◌, sym, ap, ◌∙◌}
use Rattle.pcal_tree.specs.declared.algorithm.Algorithm.{Algorithm}
use Rattle.pcal_tree.specs.StepAnswers.{too_many_choices}
use Rattle.step_moves.specs.StatesOf.{state_of}
use Rattle.followed_runs.specs.Parties.{program_of}
use Rattle.followed_runs.proofs.StartLaws.{left_over}
use Rattle.followed_runs.proofs.following.begun.Goals as goal

pub returns-then-begin-choices-clause-replies : goal.returns-then-begin-choices-clause-replies
returns-then-begin-choices-clause-replies c =
    let at : (program_of c.args.party.now).algorithm.name.place ≡ _ = sym (ap (λ (a : Algorithm). a.name.place) c.algorithm.view_is) in
    left_over (program_of c.args.party.now).algorithm.name.place _ (state_of c.in_ok-begin.begin.state) c.in_ok-begin.begin.used c.args.choices.now c.in_ok-begin.ensures.starts
    c.if-begin-choices.true
    ∙ ap too_many_choices at
