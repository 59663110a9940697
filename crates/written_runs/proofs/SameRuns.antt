-- Where a step from each label of a process and a start are what they are by the meaning, so is what follows a script; by the written names they are, of an
-- accepted algorithm.
use Rattle.std.proofs.Common.{◌≡◌, ℕ, suc, List, [], ◌∷◌, Option, Some, None, Ok, Err, refl, sym, ap}
use Rattle.tla_value.specs.Value.{Value, Outcome}
use Rattle.tla_value.specs.Definitions.{Valuation}
use Rattle.tla_value.specs.Outside.{Outside}
use Rattle.tla_value.specs.Stops.{Check}
use Rattle.pcal_tree.specs.Algorithm.{Algorithm}
use Rattle.pcal_tree.specs.Scope.{State}
use Rattle.pcal_tree.specs.Choices.{walk}
use Rattle.pcal_tree.specs.InitialChoice.{started}
use Rattle.pcal_tree.specs.Program.{Program, Actor}
use Rattle.pcal_tree.specs.Programs.{program_in}
use Rattle.pcal_tree.specs.Calls.{label_name}
use Rattle.pcal_tree.specs.Processes.{actors, IsActor}
use Rattle.pcal_tree.specs.Step.{pc_of, Stand, routines_of, StandsAt, course_of}
use Rattle.pcal_tree.specs.FirstTrouble.{stand_named}
use Rattle.pcal_tree.specs.Script.{Turn}
use Rattle.pcal_tree.specs.StepAnswers.{replied, label_place, step_from, step_at, with_self, step_of, step_in, stepped, start_by}
use Rattle.pcal_tree.proofs.TroubleLaws.{found_stands}
use Rattle.pcal_tree.proofs.ReplyLaws.{found_self}
use Rattle.translation.specs.laws.AcceptedAlgorithm.{IsAcceptedInFile}
use Rattle.translation.specs.laws.AcceptedLaws.{Stance}
use Rattle.accepted_steps.proofs.StepsFlow.{written_steps_flow, written_starts_flow}
use Rattle.step_runner.specs.Script.{Script}
use Rattle.step_runner.specs.Followed.{landed, after_reply, turns_followed, followed}
use Rattle.written_runs.specs.Ways.{Ways, by_meaning, by_written_names, step_from_by, step_at_by, step_of_by, step_in_by, stepped_by, begun_by, turns_followed_by, followed_by}

stance : (P : Program) (s : State) (v : Actor) (d : Stand) → IsActor P v → StandsAt P s v d → Stance P v d
stance P s v d a h = record { actor = a; routine = h.0; label = h.1 }

-- a step from each label of a process is what it is by the meaning, and so is a start
pub record AsMeant (W : Ways) (P : Program) : Type 0 where
  pub steps : (v : Actor) (d : Stand) → Stance P v d → (s : State) (ns : List ℕ) → W.step P v d s ns ≡ walk (course_of P v d s) ns
  pub starts : (ns : List ℕ) → W.start P ns ≡ walk (started P) ns

module _ (W : Ways) (P : Program) (h : AsMeant W P) where
  from_same : (v : Actor) (s : State) (ns : List ℕ) (o : Option Stand) → ((d : Stand) → o ≡ Some d → Stance P v d) → step_from_by W P v s ns o ≡ step_from P v s ns o
  from_same v s ns None f = refl
  from_same v s ns (Some d) f = ap (replied (λ t. (t, label_name P d.routine d.label)) (label_place d.routine d.label)) (h.steps v d (f d refl) s ns)

  at_same : (v : Actor) (s : State) (ns : List ℕ) → IsActor P v → (o : Outcome Value) → pc_of v s ≡ o → step_at_by W P v s ns o ≡ step_at P v s ns o
  at_same v s ns a (Err k) p = refl
  at_same v s ns a (Ok w) p = from_same v s ns (stand_named P w (routines_of P v)) (λ d e. stance P s v d a (found_stands P s v w d p e))

  of_same : (s : State) (ns : List ℕ) (o : Option Actor) → ((v : Actor) → o ≡ Some v → IsActor P v) → step_of_by W P s ns o ≡ step_of P s ns o
  of_same s ns None f = refl
  of_same s ns (Some v) f = at_same v s ns (f v refl) (pc_of v s) refl

  in_same : (s : State) (who : Option Value) (ns : List ℕ) (o : Outcome (List Actor)) → actors P ≡ o → step_in_by W P s who ns o ≡ step_in P s who ns o
  in_same s who ns (Err k) q = refl
  in_same s who ns (Ok vs) q = of_same s ns (with_self who vs) (λ v e. (vs, q, (found_self who vs v e).0))

  pub stepped_same : (s : State) (who : Option Value) (ns : List ℕ) → stepped_by W P s who ns ≡ stepped P s who ns
  stepped_same s who ns = in_same s who ns (actors P) refl

  pub begun_same : (ns : List ℕ) → begun_by W P ns ≡ start_by P ns
  begun_same ns = ap (replied (λ s. s) P.algorithm.name.place) (h.starts ns)

  turns_same : (ns : List Turn) (k : ℕ) (s : State) → turns_followed_by W P ns k s ≡ turns_followed P ns k s
  turns_same [] k s = refl
  turns_same (n ∷ ns) k s = λ i. after_reply k (λ t. turns_same ns (suc k) t i) (landed (stepped_same s n.who n.choices i))

  pub followed_same : (c : Script) → followed_by W P c ≡ followed P c
  followed_same c = λ i. after_reply 0 (λ s. turns_same c.turns 1 s i) (begun_same c.choices i)

pub meant : (P : Program) → AsMeant by_meaning P
meant P = record { steps = λ v d a s ns. refl; starts = λ ns. refl }

pub written_as_meant : (c : Check) (o : Outside) (g : Algorithm) → IsAcceptedInFile o g → (values : Valuation) → AsMeant by_written_names (program_in c o g values)
written_as_meant c o g h values = record {
  steps = λ v d a s ns. sym (written_steps_flow c c o g h values v d a s ns);
  starts = λ ns. sym (written_starts_flow c o g h values ns);
}
