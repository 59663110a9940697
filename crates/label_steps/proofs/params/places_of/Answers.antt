-- Proves that names are found by their places.
use Rattle.std.proofs.Common.{◌-◌, length, ap, ◌∙◌}
use Rattle.tla_tree.specs.Tree.{Word}
use Rattle.algorithm_limits.specs.Numbers.{with_number}
use Rattle.label_steps.proofs.ParamLaws.{places_more}
use Rattle.label_steps.proofs.params.places_of.Goals as goal

pub loop-i-preserved : goal.loop-i-preserved
loop-i-preserved c =
    places_more c.loop-i.places c.set.new.self c.args.names.now c.loop-i.i c.index-names-place.result c.index-names-place.is c.loop-i-test.true
    (c.in_ok-set.ensures ∙ ap (λ (x : Word). with_number c.loop-i.places x (length c.args.names.now - c.loop-i.i)) c.in_ok-name_of.ensures) c.loop-i.invariant
