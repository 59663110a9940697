-- The call of a label's action, as one disjunct ("A PlusCal User's Manual", section 3.7, labels).
use Rattle.tla_tree.specs.Tree.{Word}
use Rattle.module_tree.specs.Module.{Way, one_way}
use Rattle.pcal_tree.specs.Takers.{Taken}
use Rattle.pcal_tree.specs.Program.{Program}
use Rattle.pcal_tree.specs.Calls.{label_name}
use Rattle.action_builder.specs.LabelActions.{call_by}

abbrev pub label_way : Program → Taken → Word → Way
label_way P t l = one_way (call_by t.takers (label_name P t.routine l))
