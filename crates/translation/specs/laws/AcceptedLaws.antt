-- The laws of accepted algorithms on which the promise rests, as statements. `Accepted o g` stands for what is known of an algorithm of a text with its labels added, in
-- a file that has o outside (`IsAcceptedInFile`). Each is the type of a law.
use Rattle.std.specs.Prelude.{codes, ◌≡◌, ◌↔◌, List, [], ◌∷◌, Bool, true, ◌||◌, ◌&&◌, not, bytes_eq, cond, Some, None}
use Rattle.tla_token.specs.Signs.{is_among}
use Rattle.tla_tree.specs.Tree.{Word}
use Rattle.tla_value.specs.Value.{Trouble, IsBad, TrueExactly}
use Rattle.tla_value.specs.Stops.{plain}
use Rattle.tla_value.specs.Definitions.{Valuation, Definition}
use Rattle.tla_value.specs.Outside.{Outside}
use Rattle.module_tree.specs.Module.{Module}
use Rattle.module_tree.specs.ModuleTruth.{process_set_defined, next_holds, action_holds}
use Rattle.module_tree.specs.laws.PlacelessRegion.{region_placeless}
use Rattle.module_tree.specs.laws.Outsides.{SameOutside}
use Rattle.pcal_tree.specs.Algorithm.{Process, Routine, Algorithm, procedure_routines}
use Rattle.pcal_tree.specs.OffencesReads.{processes_of}
use Rattle.pcal_tree.specs.Processes.{OneOf, IsActor, Proper}
use Rattle.pcal_tree.specs.Program.{Program, Actor}
use Rattle.pcal_tree.specs.Scope.{State}
use Rattle.pcal_tree.specs.OffencesRebind.{in_scope, may_rebind, standing_inside}
use Rattle.pcal_tree.specs.StepStart.{at_label}
use Rattle.pcal_tree.specs.Step.{Stand, routines_of, StepFrom, Step}
use Rattle.pcal_tree.specs.Faults.{Sound, Troubled}
use Rattle.pcal_tree.specs.Calls.{defaultInitValue, label_name}
use Rattle.pcal_tree.specs.Variables.{vars, on_variables}
use Rattle.action_builder.specs.WrittenNames.{with_names}
use Rattle.action_builder.specs.ProcessSets.{process_set_of}
use Rattle.action_builder.specs.Prepared.{none}
use Rattle.action_builder.specs.Written.{old_stack}
use Rattle.action_builder.specs.laws.Jumps.{no_calls, callable_in_pairs, PairsStand}
use Rattle.action_builder.specs.laws.Ready.{Readable}
use Rattle.action_builder.specs.laws.LabelSteps.{IsPrepared, IsReady}
use Rattle.action_builder.specs.laws.Settling.{Callable}
use Rattle.promise.specs.ConstantsAndStates.{program, AreConstants, IsState}
use Rattle.promise.specs.NextAndInit.{NextIs, InitIs}
use Rattle.action_builder.specs.laws.WrittenScope.{NamesApart}
use Rattle.action_builder.specs.laws.StepsOfLabels.{step_of, pair_env, NamesGiven}
use Rattle.pcal_tree.specs.Programs.{program_in}
use Rattle.translation.specs.Region.{region_of, written_region}

-- the definition that the translation has besides
abbrev pub extra_of : Algorithm → List Definition
extra_of g = process_set_defined (process_set_of g.main)

abbrev Words : Type 1
Words = Outside → Algorithm → Type 0

-- a process that may run a routine, from a label of it
pub record Stance (P : Program) (v : Actor) (d : Stand) : Type 0 where
  pub actor : IsActor P v
  pub routine : OneOf d.routine (routines_of P v)
  pub label : at_label d.routine d.label ≡ Some d.begins

-- names that a `with` may bind: no variables, and nothing that is in scope in all routines; and the name of the old stack
abbrev pub may_bind : Outside → Program → Word → Bool
may_bind o P x = bytes_eq old_stack x || (may_rebind o.extended x && (not (in_scope (standing_inside P.algorithm o) x) && not (is_among (vars P) x)))

-- with these procedures
abbrev pub callable_of : Program → List Routine → Callable
callable_of P [] = no_calls
callable_of P (u ∷ us) = callable_in_pairs P

abbrev pub callable_for : Program → Callable
callable_for P = callable_of P (procedure_routines P.algorithm)

-- in a state some process is in trouble exactly if Next is a fault for some second state
abbrev pub FaultsAre : Algorithm → Module → Type 0
FaultsAre g m = (values : Valuation) (s : State)
    → (let P = program g m values in
    AreConstants m values → IsState P s → Proper P
    → (((v : Actor) × (k : Trouble) × IsActor P v × Troubled P s v k) ↔ ((t : State) × IsState P t × IsBad (next_holds plain m values (on_variables P s) (on_variables P t)))))

-- there is no single process, `process P = e`
abbrev pub AllSets : Algorithm → Type 0
AllSets g = (p : Process) → OneOf p (processes_of g.main) → p.several ≡ true

module _ (Accepted : Words) where
  -- written names are apart, and definitions read none of them
  abbrev pub NamesApartLaw : Type 0
  NamesApartLaw = (o : Outside) (g : Algorithm) → Accepted o g → (values : Valuation) (v : Actor) (u : Routine) → IsActor (program_in plain o g values) v → OneOf u (routines_of (program_in plain o g values) v)
      → NamesApart (program_in plain o g values) (extra_of g) v u

  -- from each label on: macro calls capture nothing, bound names are no routine's, and what is read is seen
  abbrev pub NamesGivenLaw : Type 0
  NamesGivenLaw = (o : Outside) (g : Algorithm) → Accepted o g → (values : Valuation) (v : Actor) (d : Stand) → Stance (program_in plain o g values) v d → NamesGiven (program_in plain o g values) (extra_of g) d

  -- jumps, calls and returns can be written out
  abbrev pub PreparedLaw : Type 0
  PreparedLaw = (o : Outside) (g : Algorithm) → Accepted o g → (values : Valuation) → values (codes "defaultInitValue") ≡ Some defaultInitValue → (v : Actor) (d : Stand) → Stance (program_in plain o g values) v d
      → (let P = program_in plain o g values in IsPrepared (step_of P (extra_of g) v d (may_bind o P) (callable_for P)))

  -- items can be written; which names may be read after what is assigned is the same for all steps
  abbrev pub ReadyLaw : (Algorithm → Readable) → Type 0
  ReadyLaw U = (o : Outside) (g : Algorithm) → Accepted o g → (values : Valuation) (v : Actor) (d : Stand) → Stance (program_in plain o g values) v d
      → (let P = program_in plain o g values in IsReady (U g) (vars P) (pair_env P (extra_of g) v) none (step_of P (extra_of g) v d (may_bind o P) (callable_for P)))

  -- of a call that is one statement with a return
  abbrev pub PairsLaw : Type 0
  PairsLaw = (o : Outside) (g : Algorithm) → Accepted o g → (values : Valuation) (v : Actor) (u : Routine) → IsActor (program_in plain o g values) v → OneOf u (routines_of (program_in plain o g values) v)
      → PairsStand (program_in plain o g values) v u

  -- Next and Init, of the region of g with its own places
  abbrev pub NextOfRegionLaw : Type 0
  NextOfRegionLaw = (b : Bool) (title : Word) (o : Outside) (g : Algorithm) → Accepted o g → NextIs b g (record { title = title; outside = o; region = region_of b (with_names o g) })

  abbrev pub InitOfRegionLaw : Type 0
  InitOfRegionLaw = (b : Bool) (title : Word) (o : Outside) (g : Algorithm) → Accepted o g → InitIs g (record { title = title; outside = o; region = region_of b (with_names o g) })

  -- of what is read back: a module with the same region and outside, places aside
  abbrev pub PromiseKept : Type 0
  PromiseKept = (b : Bool) (o : Outside) (g : Algorithm) (m : Module) → Accepted o g → SameOutside o m.outside → region_placeless m.region ≡ region_placeless (written_region b o g) → NextIs b g m × InitIs g m

  -- faults of Next, of the region of g with its own places, and of what is read back
  abbrev pub FaultsAgree : Type 0
  FaultsAgree = (b : Bool) (title : Word) (o : Outside) (g : Algorithm) → Accepted o g → FaultsAre g (record { title = title; outside = o; region = region_of b (with_names o g) })

  abbrev pub FaultsKept : Type 0
  FaultsKept = (b : Bool) (o : Outside) (g : Algorithm) (m : Module) → Accepted o g → SameOutside o m.outside → region_placeless m.region ≡ region_placeless (written_region b o g) → FaultsAre g m

  -- where all processes are of sets, some process is in trouble if Next is a fault for any second state, whatever the order of its values
  abbrev pub SetFaults : Type 0
  SetFaults = (b : Bool) (title : Word) (o : Outside) (g : Algorithm) → Accepted o g → AllSets g → (values : Valuation) (s t : State)
      → (let m : Module = record { title = title; outside = o; region = region_of b (with_names o g) } in let P = program g m values in
      AreConstants m values → IsState P s → Proper P → IsBad (next_holds plain m values (on_variables P s) (on_variables P t))
      → (v : Actor) × (k : Trouble) × IsActor P v × Troubled P s v k)

  -- steps lead from states whose values are in canonical order to such states
  abbrev pub CanonicalStepLaw : Type 0
  CanonicalStepLaw = (o : Outside) (g : Algorithm) (m : Module) → Accepted o g → SameOutside o m.outside → (values : Valuation) (s t : State)
      → (let P = program g m values in AreConstants m values → IsState P s → Step P s t → IsState P t)

  -- an action that stands in a formula of fairness, for each process that takes it
  abbrev pub ActionLaw : Type 0
  ActionLaw = (b : Bool) (title : Word) (o : Outside) (g : Algorithm) → Accepted o g → (values : Valuation) (s t : State) (v : Actor) (d : Stand)
      → (let m : Module = record { title = title; outside = o; region = region_of b (with_names o g) } in let P = program g m values in
      AreConstants m values → IsState P s → IsState P t → Sound P s → Stance P v d
      → TrueExactly (action_holds plain m values (on_variables P s) (on_variables P t) (label_name P d.routine d.label) (cond d.routine.spread v.self None)) (StepFrom P v d s t))

-- places are forgotten by each pass
abbrev pub RegionPlaced : Type 0
RegionPlaced = (b : Bool) (o : Outside) (g : Algorithm) → region_placeless (region_of b (with_names o g)) ≡ region_placeless (written_region b o g)
