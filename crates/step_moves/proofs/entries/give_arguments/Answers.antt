-- Proves that the variables stay the program's where parameters get their arguments.
use Rattle.std.proofs.Common.{◌≡◌, ◌++◌, List, ap, ◌∙◌}
use Rattle.pcal_tree.specs.Calls.{argument_settings}
use Rattle.pcal_tree.specs.Variables.{vars}
use Rattle.step_moves.specs.Programs.{program_at}
use Rattle.step_moves.specs.declared.setting.Setting.{Setting}
use Rattle.step_moves.specs.StatesOf.{settings_of}
use Rattle.step_moves.proofs.ScopeLaws.{scene_after}
use Rattle.step_moves.proofs.SettingLaws.{are_of, arguments_of}
use Rattle.step_moves.proofs.entries.give_arguments.Goals as goal

pub returns-clause-scene : goal.returns-clause-scene
returns-clause-scene c =
    let xs = vars (program_at c.args.runner.now.program) in
    let w = c.args.visit.now in
    let set = argument_settings c.deref.result.now c.args.names.now w.places.now w.values.now in
    let made : settings_of c.add_settings.new.all.items ≡ set = c.in_ok-add_settings.ensures ∙ ap (λ (l : List Setting). settings_of l ++ set) c.new-all.ensures.items in
    scene_after c.args.runner.now.program c.set_all.new.state c.set_all.result c.requires.scene.whole
    (c.set_all.ensures.names xs (are_of xs _ _ made (arguments_of xs c.deref.result.now c.args.names.now w.places.now w.values.now c.requires.known)) c.requires.scene.names)
