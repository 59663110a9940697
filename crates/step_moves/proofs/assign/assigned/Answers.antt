-- Proves that the variables stay the program's.
use Rattle.pcal_tree.specs.Variables.{vars}
use Rattle.step_moves.specs.Programs.{program_at}
use Rattle.step_moves.proofs.ScopeLaws.{scene_after}
use Rattle.step_moves.proofs.assign.assigned.Goals as goal

pub returns-clause-scene : goal.returns-clause-scene
returns-clause-scene c =
    scene_after c.args.program.now c.set_all.new.state c.set_all.result c.requires.scene.whole
    (c.set_all.ensures.names (vars (program_at c.args.program.now)) c.in_ok-all.ensures.variables c.requires.scene.names)
