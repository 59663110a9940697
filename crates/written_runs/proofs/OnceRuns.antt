-- The processes of a program are the same at each step of a run, and at its start.
use Rattle.std.proofs.Common.{◌≡◌, ℕ, suc, List, [], ◌∷◌, Ok, Err, refl, sym, ap}
use Rattle.tla_value.specs.Value.{Outcome}
use Rattle.pcal_tree.specs.Scope.{State}
use Rattle.pcal_tree.specs.Choices.{went}
use Rattle.pcal_tree.specs.Program.{Program, Actor}
use Rattle.pcal_tree.specs.Processes.{actors}
use Rattle.pcal_tree.specs.Script.{Turn}
use Rattle.pcal_tree.specs.StepAnswers.{Reply, replied}
use Rattle.step_walks.specs.FirstValues.{as_written}
use Rattle.step_walks.specs.Flows.{finish, flowing}
use Rattle.step_walks.specs.StartFlows.{parts_flow}
use Rattle.step_runner.specs.Script.{Script}
use Rattle.step_runner.specs.Followed.{landed, after_reply}
use Rattle.written_runs.specs.Ways.{Ways, by_written_names, step_in_by, begun_by, turns_followed_by, followed_by, turns_followed_in}
use Rattle.written_runs.specs.WrittenRuns.{begun_in, followed_for, followed_once}

pub turns_once : (W : Ways) (P : Program) (vs : List Actor) → actors P ≡ Ok vs → (ns : List Turn) (k : ℕ) (s : State) → turns_followed_by W P ns k s ≡ turns_followed_in W P vs ns k s
turns_once W P vs q [] k s = refl
turns_once W P vs q (n ∷ ns) k s = λ i. after_reply k (λ t. turns_once W P vs q ns (suc k) t i) (landed (step_in_by W P s n.who n.choices (q i)))

-- a start by the written names, where the processes are these, or can't be told
abbrev begun_for : Program → List ℕ → Outcome (List Actor) → Reply State
begun_for P ns o = replied (λ s. s) P.algorithm.name.place (finish (flowing o (parts_flow (as_written P []) P ns)) went)

pub begun_once : (P : Program) (vs : List Actor) → actors P ≡ Ok vs → (ns : List ℕ) → begun_by by_written_names P ns ≡ begun_in P ns vs
begun_once P vs q ns = ap (begun_for P ns) q

pub script_once : (P : Program) (c : Script) → followed_once P c ≡ followed_by by_written_names P c
script_once P c = by (actors P) refl
  where
    by : (o : Outcome (List Actor)) → actors P ≡ o → followed_for P c o ≡ followed_by by_written_names P c
    by (Err k) q = sym (ap (λ r. after_reply 0 (turns_followed_by by_written_names P c.turns 1) (begun_for P c.choices r)) q)
    by (Ok vs) q = sym (λ i. after_reply 0 (λ s. turns_once by_written_names P vs q c.turns 1 s i) (begun_for P c.choices (q i)))
