-- Proves that a statement with none in it is passed on all paths.
use Rattle.std.proofs.Common.{refl}
use Rattle.std.proofs.lemmas.Result.{on_ok_weaker}
use Rattle.pcal_tree.specs.Run.{no_partner}
use Rattle.label_steps.proofs.WaysLaws.{simple_goes}
use Rattle.label_steps.proofs.around.Around.along_simple.Goals as goal

pub returns : goal.returns
returns c =
    on_ok_weaker c.pass.result (λ w ms k name own.
    simple_goes c.args.self.now ms c.args.pool.now c.args.simple.now c.in_ok-step.step c.jumps.result c.args.ways.now c.pass.new.self c.args.found.now c.meet.new.found name own
    (c.in_ok-step.ensures ms k no_partner refl) (c.jumps.ensures c.args.pool.now) (c.in_ok-meet.ensures ms k) w) c.pass.ensures
