-- What the loop of `depth` keeps.
use Rattle.std.proofs.Common.{◌≡◌, ◌≤◌, drop}
use Rattle.std.specs.Prelude.{max}
use Rattle.tla_value.specs.Value.{values_in}
use Rattle.tla_value.specs.Limits.{depths}
use Rattle.tla_value.specs.ValueOf.{AreStored}
use Rattle.tla_value.proofs.build.+depth.Given as goal

abbrev pub invariant-depth_in-loop-v : goal.invariant-depth_in-loop-v
invariant-depth_in-loop-v l =
    (max l.deep (depths (values_in (drop l.v-index l.values))) ≡ depths (values_in l.values)) × (l.deep ≤ 200) × (AreStored (values_in (drop l.v-index l.values)) → AreStored (values_in l.values))
