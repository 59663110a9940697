-- The translation of an algorithm with its macro calls written out is that of the algorithm as it is, and its actions are those of steps.
use Rattle.std.proofs.Common.{◌≡◌, Bool, map, subst}
use Rattle.tla_value.specs.Outside.{Outside}
use Rattle.pcal_tree.specs.Algorithm.{Algorithm}
use Rattle.pcal_tree.specs.Program.{Program, inner}
use Rattle.pcal_tree.proofs.RoutineNames.{every_one}
use Rattle.step_forms.specs.Opened.{opened_program, IsOpenable}
use Rattle.step_forms.proofs.OpenedActions.{actions_opened}
use Rattle.step_forms.proofs.OpenedFormulas.{done_opened, ended_opened, process_set_opened, model_values_opened, init_opened, next_opened}
use Rattle.step_forms.proofs.OpenedRoutines.{vars_opened}
use Rattle.step_forms.proofs.OpenedSteps.{actions_are_steps}
use Rattle.translation.specs.Region.{region_of}
use Rattle.translation.specs.laws.AcceptedAlgorithm.{IsAcceptedInFile}
use Rattle.translation.specs.laws.TypedAlgorithm.{IsTypedMacro}
use Rattle.translation.specs.laws.WritableAlgorithm.{IsStarted}
use Rattle.translation.proofs.MacrosSound.{typed}
use Rattle.region_forms.specs.RegionBySteps.{region_by_steps}
use Rattle.region_forms.proofs.OpenedFairness.{lines_opened}

pub accepted_openable : (o : Outside) (g : Algorithm) → IsAcceptedInFile o g → IsOpenable g
accepted_openable o g h = record {
  labels = h.accepted.labels;
  started = λ d m e. subst IsStarted e (every_one IsTypedMacro d g.macros (typed o g h.accepted).macros m).2.0;
}

module _ (b : Bool) (P : Program) (h : IsOpenable P.algorithm) where
  pub region_opened : region_of b (opened_program P) ≡ region_of b P
  region_opened = λ i. record {
    model_values = model_values_opened P.algorithm i;
    variables = vars_opened P i;
    definitions = map inner P.algorithm.definitions;
    vars = vars_opened P i;
    process_set = process_set_opened P.algorithm P.algorithm.main i;
    init = init_opened P h i;
    actions = actions_opened P h i;
    ended = ended_opened P.algorithm b P.algorithm.main i;
    next = next_opened P h b i;
    fairness = lines_opened P h i;
    termination = done_opened P.algorithm P.algorithm.main i;
  }

  pub region_stepped : region_by_steps b (opened_program P) ≡ region_of b P
  region_stepped = λ i. record {
    model_values = model_values_opened P.algorithm i;
    variables = vars_opened P i;
    definitions = map inner P.algorithm.definitions;
    vars = vars_opened P i;
    process_set = process_set_opened P.algorithm P.algorithm.main i;
    init = init_opened P h i;
    actions = actions_are_steps P h i;
    ended = ended_opened P.algorithm b P.algorithm.main i;
    next = next_opened P h b i;
    fairness = lines_opened P h i;
    termination = done_opened P.algorithm P.algorithm.main i;
  }
