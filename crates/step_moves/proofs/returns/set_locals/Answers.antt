-- Proves that the variables of a routine are set, and that the variables stay the program's.
use Rattle.std.proofs.Common.{◌≡◌, List, true, sym, subst, ◌∙◌}
use Rattle.tla_token.specs.Signs.{is_among}
use Rattle.tla_tree.specs.Tree.{Word, Each}
use Rattle.tla_value.specs.Limits.{bounded}
use Rattle.pcal_tree.specs.Assign as pure
use Rattle.pcal_tree.specs.Variables.{vars}
use Rattle.value_forms.specs.Gives.{Gives}
use Rattle.step_moves.specs.Programs.{program_at}
use Rattle.step_moves.specs.StatesOf.{state_of}
use Rattle.step_moves.proofs.ScopeLaws.{scene_after}
use Rattle.step_moves.proofs.SettingLaws.{parts_made, are_of, parts_of}
use Rattle.step_moves.proofs.returns.set_locals.Goals as goal

pub returns-clause-set : goal.returns-clause-set
returns-clause-set c =
    subst (λ (ss : List pure.Setting). Gives (λ x. state_of c.set_all.new.state) c.set_all.result (pure.set_all bounded ss (state_of c.args.state.now)))
    (parts_made c.args.at _ _ c.args.names.now _ c.args.values.now c.new-all.result.items _ c.new-all.ensures.items (c.deref.ensures.value ∙ c.in_ok-path.ensures) (c.deref-2.ensures.value ∙ c.in_ok-places.ensures) c.in_ok-add_settings.ensures)
    c.set_all.ensures.set

pub returns-clause-scene : goal.returns-clause-scene
returns-clause-scene c =
    let xs = vars (program_at c.args.runner.now.program) in
    let made = parts_made c.args.at _ _ c.args.names.now _ c.args.values.now c.new-all.result.items _ c.new-all.ensures.items (c.deref.ensures.value ∙ c.in_ok-path.ensures) (c.deref-2.ensures.value ∙ c.in_ok-places.ensures) c.in_ok-add_settings.ensures in
    let known : Each (λ x. is_among xs x ≡ true) c.args.names.now = subst (λ (ys : List Word). Each (λ x. is_among xs x ≡ true) ys) (sym c.requires.names) c.requires.ready.variables in
    scene_after c.args.runner.now.program c.set_all.new.state c.set_all.result c.requires.scene.whole
    (c.set_all.ensures.names xs (are_of xs _ _ made (parts_of xs c.args.at _ c.args.names.now c.args.values.now known)) c.requires.scene.names)
