-- What rules on names find through macro calls, computed once for each macro ("A PlusCal User's Manual", section 3.5, macros).
use Rattle.std.specs.Prelude.{reverse}
use Rattle.pcal_tree.specs.Algorithm.{Algorithm}
use Rattle.pcal_tree.specs.OffencesNames.{use_offences_by}
use Rattle.pcal_tree.specs.OffencesOfNames.{ThroughCalls}
use Rattle.pcal_tree.specs.OffencesRebind.{rebind_offences_by}
use Rattle.pcal_tree.specs.OffencesStale.{stale_offences_by}
use Rattle.pcal_tree.specs.laws.MacroBindings.{macro_bindings, rebinds_by}
use Rattle.pcal_tree.specs.laws.MacroSpots.{spots_by_macros}
use Rattle.pcal_tree.specs.laws.MacroUses.{macro_uses, offences_by_uses}
use Rattle.tla_value.specs.Outside.{Outside}

abbrev pub once_for_each_macro : Algorithm → Outside → ThroughCalls
once_for_each_macro a o = record {
  uses = use_offences_by (offences_by_uses (macro_uses (reverse a.macros) a.procedures)) a o;
  rebound = rebind_offences_by (λ ms. rebinds_by o.extended (macro_bindings o.extended a.procedures ms)) a o;
  stale = stale_offences_by (spots_by_macros a) a;
}
