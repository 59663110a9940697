-- What actions, ProcSet, Termination and the formulas of fairness of a written module are to say, and what translating again leaves as it is ("A PlusCal User's Manual", sections 2.6, 3.3 and 3.7;
-- "Specifying Systems", section 8.9).
use Rattle.std.specs.Prelude.{◌≡◌, ◌<◌, length, List, Bool, true, codes, Option, Some, None, Ok}
use Rattle.std.specs.List.{AllByRecursion}
use Rattle.tla_token.specs.Limits.{past_text}
use Rattle.tla_tree.specs.Tree.{Word, Tree}
use Rattle.tla_value.specs.Value.{Value, set, text, TrueExactly, and_then}
use Rattle.tla_value.specs.Order.{set_from}
use Rattle.tla_value.specs.Outside.{Outside}
use Rattle.tla_value.specs.Stops.{plain}
use Rattle.tla_value.specs.Meaning.{Env, bind}
use Rattle.tla_value.specs.Definitions.{Valuation, no_state}
use Rattle.module_tree.specs.ActionTruth.{Verdict, value_in, truth_in, call_holds}
use Rattle.module_tree.specs.Layout.{layout}
use Rattle.module_tree.specs.Module.{Module, Fairness}
use Rattle.module_tree.specs.ModuleTruth.{scope, acts_in}
use Rattle.module_tree.specs.TextFront.{Text}
use Rattle.module_tree.specs.Walk.{walk}
use Rattle.module_tree.specs.WithTranslation.{WithTranslation}
use Rattle.module_tree.specs.laws.Kept.{IsFine}
use Rattle.module_tree.specs.laws.Outsides.{HasOutside}
use Rattle.pcal_tree.specs.Algorithm.{Algorithm}
use Rattle.pcal_tree.specs.Calls.{label_name}
use Rattle.pcal_tree.specs.Faults.{Sound}
use Rattle.pcal_tree.specs.Labelled.{labelled}
use Rattle.pcal_tree.specs.Placeless.{placeless}
use Rattle.pcal_tree.specs.Processes.{OneOf, identifier, identifiers, actors, IsActor}
use Rattle.pcal_tree.specs.Program.{Program, Actor}
use Rattle.pcal_tree.specs.Scope.{State}
use Rattle.pcal_tree.specs.Step.{Stand, pc_of, StepFrom}
use Rattle.pcal_tree.specs.Takers.{Taken}
use Rattle.pcal_tree.specs.Variables.{on_variables}
use Rattle.action_builder.specs.WrittenNames.{with_names}
use Rattle.fairness.specs.Demands.{Demand, all_steps, routine_steps, label_steps, demands}
use Rattle.fairness.specs.FairnessLines.{line_of}
use Rattle.fairness.specs.Obligations.{obligation_of}
use Rattle.promise.specs.ConstantsAndStates.{program, AreConstants, IsState}
use Rattle.promise.specs.Headline.{Stands}
use Rattle.translation.specs.Region.{region_of, written_region}
use Rattle.translation.specs.laws.AcceptedAlgorithm.{IsAccepted}

-- ---- formulas of fairness

-- the test before an action: where there is none, it is true
abbrev pub guard_holds : Env → Option Tree → Verdict
guard_holds env None = Ok true
guard_holds env (Some e) = truth_in plain env e

-- the process that a formula speaks of has its identifier for the bound name
abbrev pub env_over : Option (Word × Tree) → Value → Env → Env
env_over None w e = e
env_over (Some (x, s)) w e = bind x w e

-- the test, and then the action, of one process
abbrev pub line_holds : Module → Valuation → Valuation → Valuation → Actor → Fairness → Verdict
line_holds m values s t v l =
    and_then (guard_holds (env_over l.over (identifier v.self) (scope plain m values s t)) l.guard)
    (call_holds plain (env_over l.over (identifier v.self) (scope plain m values s t)) (acts_in plain m values s t) l.action)

-- the process steps from one of these labels, by their written names
abbrev pub StepsFromNames : Program → Actor → List Word → State → State → Type 0
StepsFromNames P v ls s t = (d : Stand) × OneOf (label_name P d.routine d.label) ls × StepFrom P v d s t

-- whose steps are demanded; none: those of all processes together
abbrev pub taken_of : Demand → Option Taken
taken_of all_steps = None
taken_of (routine_steps r strong u) = Some r
taken_of (label_steps r u l) = Some r

-- a demand's formula is true of its obligation's steps, for each process that it is of
abbrev pub Told : Module → Program → Valuation → State → State → Demand → Type 0
Told m P values s t D = (r : Taken) → taken_of D ≡ Some r → (v : Actor) → IsActor P v → v.own ≡ r.routine
    → TrueExactly (line_holds m values (on_variables P s) (on_variables P t) v (line_of P D)) (StepsFromNames P v (obligation_of P D).labels s t)

-- ---- laws

module _ (Accepted : Outside → Algorithm → Type 0) where
  abbrev pub FairnessLaw : Type 0
  FairnessLaw = (b : Bool) (title : Word) (o : Outside) (g : Algorithm) → Accepted o g → (values : Valuation) (s t : State)
      → (let m : Module = record { title = title; outside = o; region = region_of b (with_names o g) } in let P = program g m values in
      AreConstants m values → IsState P s → IsState P t → Sound P s → AllByRecursion (Told m P values s t) (demands g))

  -- just the identifiers
  abbrev pub ProcessSetLaw : Type 0
  ProcessSetLaw = (b : Bool) (title : Word) (o : Outside) (g : Algorithm) → Accepted o g → (values : Valuation)
      → (let m : Module = record { title = title; outside = o; region = region_of b (with_names o g) } in
      AreConstants m values → (vs : List Actor) → actors (program g m values) ≡ Ok vs → (e : Tree) → m.region.process_set ≡ Some e
      → value_in plain (scope plain m values no_state no_state) e ≡ Ok (set (set_from (identifiers vs))))

  -- of a sound state exactly where all are done
  abbrev pub TerminationLaw : Type 0
  TerminationLaw = (b : Bool) (title : Word) (o : Outside) (g : Algorithm) → Accepted o g → (values : Valuation)
      → (let m : Module = record { title = title; outside = o; region = region_of b (with_names o g) } in let P = program g m values in
      AreConstants m values → (s : State) → Sound P s
      → TrueExactly (truth_in plain (scope plain m values (on_variables P s) no_state) m.region.termination) ((v : Actor) → IsActor P v → pc_of v s ≡ Ok (text (codes "Done"))))

-- of the algorithm that is in the translated file, places aside, beside what that file has outside, the same is written, and it puts the same file back
abbrev pub AgainLaw : Type 0
AgainLaw = (b : Bool) (x w : Text) (o : Outside) (g : Algorithm) → IsAccepted o g → length x < past_text → IsFine x → HasOutside (walk x) o → WithTranslation x (layout (written_region b o g)) w
    → (q : Outside) → HasOutside (walk w) q → (h : Algorithm) → placeless h ≡ placeless g
    → (written_region b q h ≡ written_region b o g) × WithTranslation w (layout (written_region b q h)) w × ((u : Text) → WithTranslation w (layout (written_region b q h)) u → u ≡ w)

-- of the algorithm that stands in the translated file, with labels added as before
abbrev pub FileAgainLaw : Type 0
FileAgainLaw = (b forced : Bool) (x w : Text) (o : Outside) (a : Algorithm) → Stands x a → IsAccepted o (labelled forced a) → length x < past_text → IsFine x → HasOutside (walk x) o
    → WithTranslation x (layout (written_region b o (labelled forced a))) w → (q : Outside) → HasOutside (walk w) q → (c : Algorithm) → Stands w c
    → (written_region b q (labelled forced c) ≡ written_region b o (labelled forced a)) × WithTranslation w (layout (written_region b q (labelled forced c))) w
    × ((u : Text) → WithTranslation w (layout (written_region b q (labelled forced c))) u → u ≡ w)
