-- The translation with the actions of steps, one for each label in the order of the text ("A PlusCal User's Manual", section 3.7, labels).
use Rattle.std.specs.Prelude.{Bool}
use Rattle.module_tree.specs.Module.{Region}
use Rattle.pcal_tree.specs.Program.{Program}
use Rattle.step_forms.specs.Steps.{actions_by_steps}
use Rattle.translation.specs.Region.{region_of}

abbrev pub region_by_steps : Bool → Program → Region
region_by_steps no_terminating P = record (region_of no_terminating P) { actions = actions_by_steps P }
