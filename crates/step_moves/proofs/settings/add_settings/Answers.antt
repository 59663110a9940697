-- Proves that no setting is left where places or values end.
use Rattle.std.proofs.Common.{arith}
use Rattle.step_moves.specs.StatesOf.{settings_of}
use Rattle.step_moves.proofs.SettingLaws.{places_end, values_end}
use Rattle.step_moves.proofs.settings.add_settings.Goals as goal
use Rattle.step_moves.proofs.settings.add_settings.Goals.{then-i-places-via-then-i-places, then-i-places-via-else-i-places+then-i-values}

pub returns-then-i-places : goal.returns-then-i-places
returns-then-i-places c =
    let done = settings_of c.loop-i.all.items in
    elim c.then-i-places.branch [
      | then-i-places-via-then-i-places w ↦ places_end c.args.path.now c.args.names.now c.args.places.now c.args.values.now c.loop-i.i done _ (omega (arith, w.if-i-places)) c.loop-i.invariant
      | then-i-places-via-else-i-places+then-i-values w ↦ values_end c.args.path.now c.args.names.now c.args.places.now c.args.values.now c.loop-i.i done _ (omega (arith, w.if-i-values)) c.loop-i.invariant
    ]
