-- What is true by the written module, under the limits of a run, is true without limits by each module that has its translation, places aside, and its outside, in other lines.
use Rattle.std.proofs.Common.{◌≡◌, Bool, true, List, [], ◌∷◌, map, sym, ap, ◌∙◌, Ok}
use Rattle.tla_tree.specs.Tree.{Word}
use Rattle.tla_value.specs.Definitions.{Valuation, no_state}
use Rattle.tla_value.specs.Limits.{bounded}
use Rattle.tla_value.specs.Outside.{Outside}
use Rattle.tla_value.specs.States.{Entries}
use Rattle.tla_value.specs.Stops.{plain}
use Rattle.pcal_tree.specs.Algorithm.{Algorithm}
use Rattle.pcal_tree.specs.Program.{Program}
use Rattle.pcal_tree.specs.Programs.{program_in}
use Rattle.pcal_tree.specs.Scope.{State}
use Rattle.pcal_tree.specs.Variables.{vars, on_variables}
use Rattle.module_tree.specs.Module.{Module}
use Rattle.module_tree.specs.ModuleTruth.{next_holds, init_holds}
use Rattle.module_tree.specs.laws.Outsides.{SameOutside}
use Rattle.module_tree.specs.laws.PlacelessRegion.{region_placeless}
use Rattle.module_tree.proofs.ModulePlaces.{truth_but_places}
use Rattle.promise.specs.ConstantsAndStates.{program}
use Rattle.translation.specs.Region.{written_region, written_module}
use Rattle.translation.proofs.SameProgram.{same_program}
use Rattle.step_runner.specs.Explained.{state_of}
use Rattle.step_runner.specs.Trace.{AreSome}
use Rattle.run_answer.specs.Promised.{TrueNext}
use Rattle.trace_answer.specs.Promised.{AllTruePairs, AreAllTrue}
use Rattle.trace_answer.proofs.LimitedTruth.{next_below, init_below, true_below}
use Rattle.trace_answer.proofs.ReadModules.{true_alike}
use Rattle.trace_answer.proofs.Variables.{variables_alike, values_alike}
use Rattle.trace_answer.proofs.Whole.{InitTrue, NextTrue, PairsTrue, StatesTrue}

module _ (b : Bool) (title : Word) (o : Outside) (g : Algorithm) (values : Valuation) (m : Module) (same : SameOutside o m.outside) (region : region_placeless m.region ≡ region_placeless (written_region b o g)) where
  abbrev W : Module
  W = written_module b title o g

  abbrev B : Program
  B = program_in bounded o g values

  abbrev Q : Program
  Q = program g m values

  -- the same variables have the same values
  on_same : (s : State) → on_variables Q s ≡ on_variables B s
  on_same s = sym (values_alike B Q (variables_alike bounded plain o g values values ∙ ap vars (same_program o g m same values)) s)

  pub next_true : (s t : State) → NextTrue B W values s t → TrueNext m Q values s t
  next_true s t h =
      let limitless = true_below _ _ (next_below W values (on_variables B s) (on_variables B t)) h in
      (λ i. next_holds plain m values (on_same s i) (on_same t i)) ∙ true_alike _ _ (truth_but_places W m (sym region) same values (on_variables B s) (on_variables B t)).0 limitless

  pub init_true : (s : State) → InitTrue B W values s → init_holds plain m values (on_variables Q s) ≡ Ok true
  init_true s h =
      let limitless = true_below _ _ (init_below W values (on_variables B s)) h in
      (λ i. init_holds plain m values (on_same s i)) ∙ true_alike _ _ (truth_but_places W m (sym region) same values (on_variables B s) no_state).1 limitless

  pairs_true : (s : State) (ts : List State) → PairsTrue B W values s ts → AllTruePairs m Q values s ts
  pairs_true s [] h = tt
  pairs_true s (t ∷ ts) h = (next_true s t h.0, pairs_true t ts h.1)

  pub states_true : (es : List Entries) → AreSome es → StatesTrue B W values (map state_of es) → AreAllTrue m Q values (map state_of es)
  states_true [] some h = absurd some
  states_true (e ∷ es) some h = (init_true (state_of e) h.0, pairs_true (state_of e) (map state_of es) h.1)
