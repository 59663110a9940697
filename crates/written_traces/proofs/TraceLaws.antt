-- A trace of an accepted algorithm is explained by the written names as it is by the meaning.
use Rattle.std.proofs.Common.{◌≡◌, ℕ, suc, List, [], ◌∷◌, Ok, Err, refl}
use Rattle.tla_value.specs.Definitions.{Valuation}
use Rattle.tla_value.specs.Outside.{Outside}
use Rattle.tla_value.specs.Stops.{Check}
use Rattle.tla_value.specs.Value.{Outcome}
use Rattle.pcal_tree.specs.Algorithm.{Algorithm}
use Rattle.pcal_tree.specs.Processes.{actors}
use Rattle.pcal_tree.specs.Program.{Program, Actor}
use Rattle.pcal_tree.specs.Programs.{program_in}
use Rattle.pcal_tree.specs.Scope.{State}
use Rattle.pcal_tree.specs.Variables.{on_variables}
use Rattle.module_tree.specs.Module.{Module}
use Rattle.module_tree.specs.ModuleTruth.{next_holds, init_holds}
use Rattle.step_runner.specs.Explained.{trouble_in, told, after_verdict, pairs_explained, states_explained, explained_by, explained}
use Rattle.translation.specs.laws.AcceptedAlgorithm.{IsAcceptedInFile}
use Rattle.written_runs.proofs.WrittenLaws.{all_same}
use Rattle.written_traces.specs.WrittenTraces.{pairs_explained_once, states_explained_once, explained_for, explained_once}
use Rattle.written_traces.proofs.WrittenStarts.{asked_written}

module _ (c : Check) (o : Outside) (g : Algorithm) (h : IsAcceptedInFile o g) (values : Valuation) (m : Module) (constants : Valuation) where
  abbrev P : Program
  P = program_in c o g values

  module _ (vs : List Actor) (q : actors P ≡ Ok vs) where
    pairs_same : (n : ℕ) (s : State) (ts : List State) → pairs_explained_once P m constants vs n s ts ≡ pairs_explained P m constants vs n s ts
    pairs_same n s [] = refl
    pairs_same n s (t ∷ ts) =
        λ i. after_verdict n (next_holds c m constants (on_variables P s) (on_variables P t)) (told P (all_same c o g h values s vs q i)) t (pairs_same (suc n) t ts i)

    states_same : (ss : List State) → states_explained_once P m constants vs ss ≡ states_explained P m constants vs ss
    states_same [] = refl
    states_same (s ∷ ts) =
        λ i. after_verdict 0 (init_holds c m constants (on_variables P s)) (told P (trouble_in (asked_written c o g h values vs q s i))) s (pairs_same 1 s ts i)

  pub explained_same : (ss : List State) → explained_once P m constants ss ≡ explained P m constants ss
  explained_same ss = by (actors P) refl
    where
      by : (r : Outcome (List Actor)) → actors P ≡ r → explained_for P m constants ss r ≡ explained_by P m constants ss r
      by (Err k) e = refl
      by (Ok vs) e = states_same vs e ss
