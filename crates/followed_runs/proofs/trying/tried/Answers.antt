-- Proves what a list of choices comes to.
use Rattle.std.proofs.Common.{sym, subst, List}
use Rattle.tla_tree.specs.Tree.{Word}
use Rattle.step_moves.specs.StatesOf.{state_of, HasJust}
use Rattle.followed_runs.proofs.CopyLaws.{same_state, same_scene}
use Rattle.followed_runs.proofs.TryLaws.{taken_comes, halted_comes}
use Rattle.followed_runs.proofs.trying.tried.Goals as goal

pub copied_state-requires : goal.copied_state-requires
copied_state-requires c = record { just = subst (λ (xs : List Word). HasJust xs c.args.state.now) (sym c.requires.party.variables) c.requires.scene.names }

pub step-requires-clause-scene : goal.step-requires-clause-scene
step-requires-clause-scene c = same_scene c.args.party.now.stage.program c.args.state.now c.in_ok-copy.copy c.in_ok-copy.ensures c.requires.scene

pub returns-in-Ok : goal.returns-in-Ok
returns-in-Ok c =
    taken_comes c.args.party.now c.args.actor.now c.args.state.now c.in_ok-copy.copy (same_state c.args.state.now c.in_ok-copy.copy c.in_ok-copy.ensures) c.args.choices.now
    (state_of c.in-Ok._taken.state, c.in-Ok._taken.label) c.in-Ok.ensures.stepped

pub returns-in-Err : goal.returns-in-Err
returns-in-Err c =
    halted_comes c.args.party.now c.args.actor.now c.args.state.now c.in_ok-copy.copy (same_state c.args.state.now c.in_ok-copy.copy c.in_ok-copy.ensures) c.args.choices.now
    c.in-Err.halt c.came_to.result c.in-Err.ensures.stepped c.came_to.ensures
