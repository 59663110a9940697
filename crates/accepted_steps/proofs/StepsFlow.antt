-- A step of an accepted algorithm is what comes of its statements with the written names one by one, and a start what comes of its declarations with them, under any limits.
use Rattle.std.proofs.Common.{◌≡◌, [], reverse, Some, sym, ap, ◌∙◌}
use Rattle.tla_value.specs.Definitions.{Valuation}
use Rattle.tla_value.specs.Outside.{Outside}
use Rattle.tla_value.specs.Stops.{Check, plain}
use Rattle.pcal_tree.specs.Algorithm.{routines, Algorithm}
use Rattle.pcal_tree.specs.Choices.{went}
use Rattle.pcal_tree.specs.Expand.{expanded}
use Rattle.pcal_tree.specs.Processes.{OneOf}
use Rattle.pcal_tree.specs.Programs.{program_in}
use Rattle.pcal_tree.specs.Scope.{State}
use Rattle.pcal_tree.specs.Step.{Stand}
use Rattle.pcal_tree.specs.StepStart.{at_label}
use Rattle.pcal_tree.proofs.OneStand.{runs_routine}
use Rattle.action_builder.specs.laws.StepsOfLabels.{NamesGiven}
use Rattle.action_builder.specs.laws.WrittenScope.{Seen}
use Rattle.translation.specs.laws.AcceptedAlgorithm.{IsAcceptedInFile}
use Rattle.translation.specs.laws.AcceptedLaws.{extra_of}
use Rattle.translation.proofs.NamesGiven.{names_given}
use Rattle.step_walks.specs.FirstValues.{as_declared, as_written}
use Rattle.step_walks.specs.Flows.{Flow, finish}
use Rattle.step_walks.proofs.FirstValueLaws.{start_alike}
use Rattle.step_walks.proofs.StartLaws.{start_flows}
use Rattle.step_walks.proofs.WrittenLaws.{written_flows, written_flows_by}
use Rattle.accepted_steps.specs.AcceptedSteps.{StepsFlow, WrittenStepsFlow, WrittenStartsFlow, FirstValuesWritten}
use Rattle.accepted_steps.proofs.AnyLimits.{has_identifier, seen_less, apart_inside}
use Rattle.accepted_steps.proofs.CleanSteps.{names_clean, own_clean}
use Rattle.accepted_steps.proofs.FirstValues.{locals_inside, calls_alike, starts_alike}
use Rattle.accepted_steps.proofs.Weaker.{reads_body}

-- from a label of a routine
module _ (c : Check) (o : Outside) (g : Algorithm) (h : IsAcceptedInFile o g) (values : Valuation) (d : Stand) (k : OneOf d.routine (routines g)) (label : at_label d.routine d.label ≡ Some d.begins) where
  names_less : NamesGiven (program_in c o g values) [] d
  names_less =
      let u = d.routine in
      let given = names_given o g h values u k d label in
      record {
        calls = given.calls;
        clean = names_clean o g h values c u k d label;
        reads = reads_body (Seen (program_in plain o g values) (extra_of g) u) (Seen (program_in c o g values) [] u) (seen_less o g h values c u) (expanded (reverse g.macros) d.begins.items) given.reads;
      }

pub steps_flow : (c : Check) → StepsFlow c
steps_flow c o g h values v d stance =
    let Q = program_in plain o g values in
    let u = d.routine in
    let k = runs_routine Q v u stance.actor stance.routine in
    written_flows (program_in c o g values) [] v d (apart_inside o g h values c v (has_identifier Q v stance.actor) u k) (names_less c o g h values d k stance.label) (own_clean o g h values c u k d stance.label)

pub written_steps_flow : (b c : Check) → WrittenStepsFlow b c
written_steps_flow b c o g h values v d stance =
    let B = program_in b o g values in
    let u = d.routine in
    let k = runs_routine B v u stance.actor stance.routine in
    let i = has_identifier B v stance.actor in
    written_flows_by (program_in c o g values) [] v d (apart_inside o g h values c v i u k) (names_less c o g h values d k stance.label) (own_clean o g h values c u k d stance.label)
    (calls_alike c o g h values v i)

pub written_starts_flow : (c : Check) → WrittenStartsFlow c
written_starts_flow c o g h values ns =
    let P = program_in c o g values in
    start_flows P ns ∙ ap (λ (f : Flow State). finish f went) (sym (start_alike (as_written P []) (as_declared P) P (starts_alike c o g h values) ns))

pub first_values_written : (b c : Check) → FirstValuesWritten b c
first_values_written b c o g h values v u actor k = locals_inside c o g h values v (has_identifier (program_in b o g values) v actor) u k
