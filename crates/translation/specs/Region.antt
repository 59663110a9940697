-- The written module: the one that is written for a labelled algorithm, with what the module has outside and the option `--no-terminating`
-- ("A PlusCal User's Manual", sections 3 and 4).
use Rattle.std.specs.Prelude.{Bool, map}
use Rattle.tla_tree.specs.Tree.{Word}
use Rattle.tla_value.specs.Outside.{Outside}
use Rattle.module_tree.specs.Module.{Region, Module}
use Rattle.pcal_tree.specs.Algorithm.{Algorithm}
use Rattle.pcal_tree.specs.Placeless.{placeless}
use Rattle.pcal_tree.specs.Program.{Program, inner}
use Rattle.pcal_tree.specs.Variables.{vars}
use Rattle.action_builder.specs.WrittenNames.{with_names}
use Rattle.action_builder.specs.ModelValues.{model_values}
use Rattle.action_builder.specs.ProcessSets.{process_set_of}
use Rattle.action_builder.specs.InitialFormulas.{init}
use Rattle.action_builder.specs.LabelActions.{actions}
use Rattle.action_builder.specs.NextFormula.{ended, all_done, next}
use Rattle.fairness.specs.FairnessLines.{fairness_lines}

-- unit by unit, of the algorithm with its written names
abbrev pub region_of : Bool → Program → Region
region_of no_terminating P = record {
  model_values = model_values P.algorithm;
  variables = vars P;
  definitions = map inner P.algorithm.definitions;
  vars = vars P;
  process_set = process_set_of P.algorithm.main;
  init = init P;
  actions = actions P;
  ended = ended no_terminating P.algorithm.main;
  next = next no_terminating P;
  fairness = fairness_lines P;
  termination = all_done P.algorithm.main;
}

-- places are forgotten: none matters to what is written
abbrev pub written_program : Outside → Algorithm → Program
written_program o g = with_names o (placeless g)

abbrev pub written_region : Bool → Outside → Algorithm → Region
written_region no_terminating o g = region_of no_terminating (written_program o g)

abbrev pub written_module : Bool → Word → Outside → Algorithm → Module
written_module no_terminating title o g = record { title = title; outside = o; region = written_region no_terminating o g }
