-- What is shown of a worked file: nothing is wrong with it, and states are on both sides of what its Next and its Init are to say. So the promise speaks of something.
use Rattle.std.specs.Prelude.{◌≡◌, ◌<◌, ℕ, List, [], ◌∷◌, ◌++◌, length, Bool, true, false, not, cond, bytes_eq, codes, Some, None, Ok}
use Rattle.std.specs.List.{AllByRecursion}
use Rattle.tla_token.specs.Limits.{past_text}
use Rattle.tla_tree.specs.Tree.{Word}
use Rattle.tla_value.specs.Value.{Value, truth}
use Rattle.tla_value.specs.Stops.{plain}
use Rattle.tla_value.specs.Definitions.{Valuation}
use Rattle.tla_value.specs.Outside.{Outside}
use Rattle.pcal_tree.specs.Algorithm.{Algorithm}
use Rattle.pcal_tree.specs.Faults.{Sound}
use Rattle.pcal_tree.specs.InitialStates.{Initial}
use Rattle.pcal_tree.specs.Labelled.{labelled}
use Rattle.pcal_tree.specs.Processes.{OneOf, IsActor}
use Rattle.pcal_tree.specs.Program.{Program, Actor}
use Rattle.pcal_tree.specs.Scope.{State}
use Rattle.pcal_tree.specs.Step.{Step, Stutters}
use Rattle.pcal_tree.specs.Takers.{Taken}
use Rattle.pcal_tree.specs.Variables.{on_variables}
use Rattle.module_tree.specs.Module.{Module}
use Rattle.module_tree.specs.ModuleTruth.{next_holds, init_holds}
use Rattle.module_tree.specs.Reading.{Reads}
use Rattle.module_tree.specs.TextFront.{Text}
use Rattle.module_tree.specs.Walk.{walk}
use Rattle.module_tree.specs.laws.Outsides.{HasOutside}
use Rattle.action_builder.specs.WrittenNames.{with_names}
use Rattle.fairness.specs.Demands.{Demand, demands}
use Rattle.fairness.specs.FairnessLines.{line_of}
use Rattle.fairness.specs.Obligations.{obligation_of}
use Rattle.promise.specs.ConstantsAndStates.{program, AreConstants, IsState}
use Rattle.promise.specs.Headline.{Stands}
use Rattle.promise.specs.NextAndInit.{Moves}
use Rattle.promise.specs.Options.{Options}
use Rattle.file_answer.specs.Checking.{AnswersChecking}
use Rattle.translation.specs.PromiseWhole.{WrittenWhole}
use Rattle.translation.specs.Region.{region_of}
use Rattle.translation.specs.laws.ActionLaws.{line_holds, StepsFromNames, taken_of}

-- ---- texts, states and constants

-- lines, each with its end
abbrev pub lines : List Text → Text
lines [] = []
lines (l ∷ ls) = l ++ (codes "\n" ++ lines ls)

-- each of these constants has this value, and no other has one
abbrev pub constants : List (Word × Value) → Valuation
constants [] x = None
constants ((y, v) ∷ more) x = cond (bytes_eq y x) (Some v) (constants more x)

-- each of these variables has this value
abbrev pub state : List (Word × Value) → State
state [] x = truth false
state ((y, v) ∷ more) x = cond (bytes_eq y x) v (state more x)

-- ---- an example of steps

-- the values of constants, and states one after the other; one that is no start, and that doesn't follow the first; and one in which all are done
pub record Example : Type 0 where
  pub values : Valuation
  pub first : State
  pub later : List State
  pub other : State
  pub ended : State

-- each state is sound, and some process steps from it to the next
abbrev pub Goes : Program → State → List State → Type 0
Goes P s [] = Unit {0}
Goes P s (t ∷ ts) = Sound P s × Step P s t × IsState P t × Goes P t ts

-- the algorithm's side: a run from an initial state, a state that isn't initial, a pair that is no step, nor the end that stutters, and such an end
pub record Runs (P : Program) (e : Example) : Type 0 where
  pub is : IsState P e.first
  pub initial : Initial P e.first
  pub goes : Goes P e.first e.later
  pub other_is : IsState P e.other
  pub not_initial : Initial P e.other → ⊥
  pub no_step : (no_terminating : Bool) → Moves no_terminating P e.first e.other → ⊥
  pub ended_is : IsState P e.ended
  pub sound : Sound P e.ended
  pub stutters : Stutters P e.ended e.ended
  pub no_more : Step P e.ended e.ended → ⊥

abbrev pub NextTrue : Module → Program → Valuation → State → List State → Type 0
NextTrue m P values s [] = Unit {0}
NextTrue m P values s (t ∷ ts) = (next_holds plain m values (on_variables P s) (on_variables P t) ≡ Ok true) × NextTrue m P values t ts

-- the module's side: Next and Init are true of the one, and false of the other; with the option there is no end that stutters
pub record Says (no_terminating : Bool) (m : Module) (P : Program) (e : Example) : Type 0 where
  pub next_true : NextTrue m P e.values e.first e.later
  pub next_false : next_holds plain m e.values (on_variables P e.first) (on_variables P e.other) ≡ Ok false
  pub next_ended : next_holds plain m e.values (on_variables P e.ended) (on_variables P e.ended) ≡ Ok (not no_terminating)
  pub init_true : init_holds plain m e.values (on_variables P e.first) ≡ Ok true
  pub init_false : init_holds plain m e.values (on_variables P e.other) ≡ Ok false

-- ---- of a file

-- what is written for x with these options, the module as which it reads, and both sides there
pub record HasBothSides (options : Options) (x : Text) (e : Example) : Type 0 where
  pub written : Text
  pub whole : WrittenWhole options x written
  pub module_of : Module
  pub reads : Reads written module_of
  pub constants : AreConstants module_of e.values
  pub runs : Runs (program (labelled options.label whole.algorithm) module_of e.values) e
  pub says : Says options.no_terminating module_of (program (labelled options.label whole.algorithm) module_of e.values) e

-- a file of which the promise speaks, labels being added to each algorithm or only where they must be
pub record MeetsPremises (forced : Bool) (x : Text) (e : Example) : Type 0 where
  pub right : AnswersChecking forced x None
  pub short : length x < past_text
  pub both : (no_terminating : Bool) → HasBothSides (record { label = forced; no_terminating = no_terminating }) x e

-- ---- fairness

-- each state of a run with the next one
abbrev pub pairs : State → List State → List (State × State)
pairs s [] = []
pairs s (t ∷ ts) = (s, t) ∷ pairs t ts

-- the formula of a demand is true of a process and two states, and the process steps as is demanded; or it is false, and the process doesn't
abbrev pub FairAt : Bool → Module → Program → Valuation → Actor → Demand → State × State → Type 0
FairAt true m P values v D p =
    (line_holds m values (on_variables P p.0) (on_variables P p.1) v (line_of P D) ≡ Ok true) × StepsFromNames P v (obligation_of P D).labels p.0 p.1
FairAt false m P values v D p =
    (line_holds m values (on_variables P p.0) (on_variables P p.1) v (line_of P D) ≡ Ok false) × (StepsFromNames P v (obligation_of P D).labels p.0 p.1 → ⊥)

-- a process of which a demand is, its formula being true of one step of the run, and false of another
pub record FairOnBothSides (m : Module) (P : Program) (e : Example) (D : Demand) : Type 0 where
  pub process : Actor
  pub is_process : IsActor P process
  pub taken : Taken
  pub demanded : taken_of D ≡ Some taken
  pub its_own : process.own ≡ taken.routine
  pub step : State × State
  pub in_run : OneOf step (pairs e.first e.later)
  pub is_true : FairAt true m P e.values process D step
  pub other_step : State × State
  pub also_in_run : OneOf other_step (pairs e.first e.later)
  pub is_false : FairAt false m P e.values process D other_step

-- in what is written for x there are n formulas of fairness of processes, and each has both sides
abbrev pub HasFairness : Bool → Text → Example → ℕ → Type 0
HasFairness forced x e n =
    (a : Algorithm) (o : Outside) → Stands x a → HasOutside (walk x) o → (no_terminating : Bool) (title : Word)
    → (let g = labelled forced a in let m : Module = record { title = title; outside = o; region = region_of no_terminating (with_names o g) } in
    (length (demands g) ≡ n) × AllByRecursion (FairOnBothSides m (program g m e.values) e) (demands g))
