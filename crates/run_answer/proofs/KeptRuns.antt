-- A script that is followed to its end keeps the promise of a run: what is written for the module is true of the states that it leads to.
use Rattle.std.proofs.Common.{◌≡◌, ◌<◌, ℕ, Bool, true, false, List, [], ◌∷◌, length, Option, Some, None, refl, sym, ap, subst, ◌∙◌, inl, Ok, Err}
use Rattle.tla_token.specs.declared.place.Place.{Place}
use Rattle.tla_token.specs.Limits.{past_text}
use Rattle.tla_value.specs.declared.fault.FaultKind.{FaultKind}
use Rattle.tla_value.specs.Definitions.{Valuation}
use Rattle.tla_value.specs.Order.{IsCanonical}
use Rattle.tla_value.specs.Outside.{Outside}
use Rattle.tla_value.specs.Stops.{plain}
use Rattle.tla_value.specs.Value.{Trouble, Outcome, TrueExactly}
use Rattle.module_tree.specs.Module.{Module}
use Rattle.module_tree.specs.TextFront.{Text}
use Rattle.module_tree.specs.laws.Outsides.{SameOutside}
use Rattle.pcal_tree.specs.Algorithm.{Algorithm}
use Rattle.pcal_tree.specs.Choices.{walk}
use Rattle.pcal_tree.specs.Faults.{Sound}
use Rattle.pcal_tree.specs.InitialChoice.{started}
use Rattle.pcal_tree.specs.InitialStates.{Initial, InitFault}
use Rattle.pcal_tree.specs.Labelled.{labelled}
use Rattle.pcal_tree.specs.Processes.{Proper}
use Rattle.pcal_tree.specs.Program.{Program}
use Rattle.pcal_tree.specs.Programs.{program_in}
use Rattle.pcal_tree.specs.Scope.{State}
use Rattle.pcal_tree.specs.Script.{Turn, Reaches, StepBy, StepsBy, RunOf}
use Rattle.pcal_tree.specs.Step.{Step, course_of}
use Rattle.pcal_tree.specs.Variables.{vars}
use Rattle.pcal_tree.proofs.SameStarts.{allowed_same}
use Rattle.promise.specs.ConstantsAndStates.{program, AreConstants, IsState}
use Rattle.promise.specs.Headline.{Headline}
use Rattle.promise.specs.NextAndInit.{Moves, NextIs, InitIs}
use Rattle.file_answer.proofs.OneTree.{one_stands}
use Rattle.translation.specs.laws.AcceptedAlgorithm.{IsAcceptedInFile}
use Rattle.translation.proofs.KeptAccepted.{checked_is_fine}
use Rattle.translation.proofs.NextLaw.{canonical_steps}
use Rattle.translation.proofs.SameProgram.{same_program}
use Rattle.translation.proofs.VariableNames.{each_to}
use Rattle.accepted_steps.proofs.StartedStates.{without_limits}
use Rattle.step_runner.specs.Config.{constants_of}
use Rattle.step_runner.specs.Followed.{Stop, Followed, followed}
use Rattle.step_runner.proofs.FollowedRuns.{followed_is_run}
use Rattle.run_answer.specs.LimitedRuns.{StopBelow}
use Rattle.run_answer.proofs.Followed.{followed_below}
use Rattle.run_answer.specs.Chosen.{Files, algorithm_in, Chosen, program_of, followed_of, IsRun}
use Rattle.run_answer.specs.Promised.{TrueNext, TruePairs, AreTrue, KeepsRun}
use Rattle.run_answer.proofs.Choices.{stands_right, right_accepted}
use Rattle.run_answer.proofs.Constants.{are_constants}
use Rattle.run_answer.proofs.Ends.{ends_in}
use Rattle.run_answer.proofs.FirstStates.{start_fine, start_proper}
use Rattle.run_answer.proofs.ReadOutside.{outside_read_back}

-- ---- small facts

truth_of : (v : Outcome Bool) (A : Type 0) → TrueExactly v A → A → v ≡ Ok true
truth_of v A (b, e, w) a = e ∙ ap Ok (w.1 a)

no_fault : (P : Program) (s : State) → Initial P s → (kind : FaultKind) (at : Place) → InitFault P s kind at → ⊥
no_fault P s i kind at h = none (sym i ∙ h)
  where
    none : {k : Trouble} → ◌≡◌ {A = Outcome Bool} (Ok true) (Err k) → ⊥
    none e = cc

moves : (b : Bool) (P : Program) (s t : State) → Step P s t → Moves b P s t
moves true P s t h = h
moves false P s t h = inl h

stepped : (P : Program) (n : Turn) (s t : State) → StepBy P n s t → Step P s t
stepped P n s t (v, d, actor, who, stands, (u, e, q)) = (v, d, actor, (stands, (u, ends_in (course_of P v d s) n.choices [] u e, q)))

-- within the limits it is followed to its end, so without them it is followed so
same_followed : (f g : Followed) (o : Option Stop) → StopBelow o f g → o ≡ None → f ≡ g
same_followed f g None h e = h
same_followed f g (Some s) h e = cc

-- ---- a run through to the end

-- of an accepted algorithm, with a module whose Next and Init say what it does
module _ (o : Outside) (g : Algorithm) (accepted : IsAcceptedInFile o g) (b : Bool) (m : Module) (same : SameOutside o m.outside) (next : NextIs b g m) (init : InitIs g m)
    (values : Valuation) (k : AreConstants m values) (own : AreConstants (record { title = m.title; outside = o; region = m.region }) values) where
  abbrev P : Program
  P = program_in plain o g values

  abbrev Q : Program
  Q = program g m values

  one : P ≡ Q
  one = same_program o g m same values

  next_true : (s t : State) → IsState Q s → IsState Q t → Step Q s t → Sound Q s → TrueNext m Q values s t
  next_true s t is it step sound = truth_of _ (Moves b Q s t) (next values s t k is it sound) (moves b Q s t step)

  pairs_true : (ns : List Turn) (s : State) (ts : List State) → IsState Q s → StepsBy P ns s ts → TruePairs m Q values s ts
  pairs_true [] s [] is h = tt
  pairs_true [] s (t ∷ ts) is h = absurd h
  pairs_true (n ∷ ns) s [] is h = tt
  pairs_true (n ∷ ns) s (t ∷ ts) is h =
      let step = subst (λ (R : Program). Step R s t) one (stepped P n s t h.0) in
      let it = canonical_steps o g m accepted same values s t k is step in
      (next_true s t is it step, pairs_true ns t ts it h.1)

  module _ (choices : List ℕ) (s : State) (h : Reaches P (walk (started P) choices) s) where
    initial : Initial P s
    initial = sym (allowed_same P h.0 s h.2) ∙ without_limits o g accepted values choices [] h.0 h.1

    state : IsState P s
    state = each_to (λ x. h.0 x ≡ s x) (λ x. IsCanonical (s x)) (λ x e. subst IsCanonical e (start_fine o g accepted m.title m.region values own choices [] h.0 h.1 x)) (vars P) h.2

    proper : Proper P
    proper = start_proper o g accepted m.title m.region values own choices [] h.0 h.1

  pub run_true : (choices : List ℕ) (ns : List Turn) (ss : List State) → RunOf P choices ns ss → AreTrue m Q values ss
  run_true choices ns [] h = absurd h
  run_true choices ns (s ∷ ts) h =
      let starts = subst (λ (R : Program). Initial R s) one (initial choices s h.0) in
      let is = subst (λ (R : Program). IsState R s) one (state choices s h.0) in
      let processes = subst Proper one (proper choices s h.0) in
      (truth_of _ (Initial Q s) (init values s k is processes (no_fault Q s starts)) starts, pairs_true ns s ts is h.1)

-- ---- the files

module _ (forced : Bool) (f : Files) (short : length f.source < past_text) (c : Chosen forced f) (ended : (followed_of c).stop ≡ None) where
  abbrev o : Outside
  o = c.right.outside

  abbrev g : Algorithm
  g = algorithm_in c.right

  abbrev values : Valuation
  values = constants_of c.constants

  -- what runs, without limits
  abbrev plain_program : Program
  plain_program = program_in plain o g values

  unlimited : followed_of c ≡ followed plain_program c.script
  unlimited = same_followed (followed_of c) (followed plain_program c.script) (followed_of c).stop (followed_below plain_program c.script) ended

  run : RunOf plain_program c.script.choices c.script.turns (followed_of c).states
  run = subst (λ (r : Followed). RunOf plain_program c.script.choices c.script.turns r.states) (sym unlimited) (followed_is_run plain_program c.script (sym (ap (λ (r : Followed). r.stop) unlimited) ∙ ended))

  pub holds : (no_terminating : Bool) (y : Text) (h : Headline (record { label = forced; no_terminating = no_terminating }) f.source y)
      → AreTrue h.translates.module_of (program g h.translates.module_of values) values (followed_of c).states
  holds no_terminating y h =
      let m = h.translates.module_of in
      let algorithm : h.algorithm ≡ c.right.typed = one_stands f.source h.algorithm c.right.typed h.stands (stands_right forced f.source c.right) in
      let same = outside_read_back f.source y m o (checked_is_fine forced f.source c.right.clean) c.right.has h.translates.around h.translates.reads in
      let next : NextIs no_terminating g m = subst (λ (a : Algorithm). NextIs no_terminating (labelled forced a) m) algorithm h.translates.next in
      let init : InitIs g m = subst (λ (a : Algorithm). InitIs (labelled forced a) m) algorithm h.translates.init in
      run_true o g (right_accepted forced f.source c.right short) no_terminating m same next init values (are_constants o f.config c.constants c.spells_constants m same.constants)
      (are_constants o f.config c.constants c.spells_constants (record { title = m.title; outside = o; region = m.region }) refl) c.script.choices c.script.turns (followed_of c).states run

pub keeps_run : (forced : Bool) (f : Files) (w : Text) → length f.source < past_text → IsRun forced f w None → KeepsRun forced f w
keeps_run forced f w short r = record {
  chosen = r.chosen;
  states = (followed_of r.chosen).states;
  text = r.text;
  run = followed_is_run (program_of r.chosen) r.chosen.script (sym r.stopped);
  holds = holds forced f short r.chosen (sym r.stopped);
}
