-- Proves that the state is of the program's variables.
use Rattle.step_meaning.proofs.OrderedNames.{scene_of}
use Rattle.step_meaning.proofs.globals.set_plain.Goals as goal

pub plain_value-requires-clause-scene : goal.plain_value-requires-clause-scene
plain_value-requires-clause-scene c = scene_of c.args.program.now c.args.state.now c.requires.begun
