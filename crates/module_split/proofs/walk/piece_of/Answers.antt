use Rattle.std.proofs.Common.{sym}
use Rattle.std.proofs.lemmas.List.{length-take-le}
use Rattle.module_split.specs.Walking.{state_of}
use Rattle.module_split.proofs.WalkSteps.{front_within}
use Rattle.module_split.proofs.walk.piece_of.Goals as goal

pub slice_bounds-result-end : goal.slice_bounds-result-end
slice_bounds-result-end c = sym (length-take-le c.args.front.len c.args.rest.now (front_within (state_of c.args.walker) c.args.rest.now c.args.front c.requires))

pub returns-clause-within : goal.returns-clause-within
returns-clause-within c = front_within (state_of c.args.walker) c.args.rest.now c.args.front c.requires
