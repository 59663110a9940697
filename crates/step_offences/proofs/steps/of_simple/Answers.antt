-- Proves that what a statement with none in it offends is found.
use Rattle.added_labels.specs.Sight.{effects_of}
use Rattle.step_offences.proofs.SimpleLaws.{simple_goes}
use Rattle.step_offences.proofs.steps.of_simple.Goals as goal

pub returns : goal.returns
returns c = λ ms k j n s is.
    simple_goes (effects_of c.args.at.now ms) c.args.spot j c.args.pool.now c.args.simple.now c.in_ok-step.step s c.args.place c.args.ways.now c.pass.new.self c.args.found.now c.tell.new.found c.meets-twice.result c.behind_simple-behind.result
    (c.in_ok-step.ensures ms k j n) is (c.behind_simple-behind.ensures.held c.args.pool.now) (c.behind_simple-behind.ensures.due c.args.pool.now j n) c.meets-twice.ensures c.in_ok-tell.ensures c.in_ok-pass.ensures
