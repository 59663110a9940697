-- The title of a module matters neither to which states of a trace are shown and how, nor to why it stops.
use Rattle.std.proofs.Common.{◌≡◌, ℕ, suc, List, [], ◌∷◌, ◌++◌, Option, Some, None, refl, ap, Ok, Err}
use Rattle.tla_tree.specs.Tree.{Word}
use Rattle.tla_value.specs.Value.{Value, Outcome}
use Rattle.tla_value.specs.Definitions.{Valuation}
use Rattle.tla_value.specs.Outside.{Outside}
use Rattle.pcal_tree.specs.FirstTrouble.{trouble_of_all}
use Rattle.pcal_tree.specs.InitialStates.{allowed}
use Rattle.pcal_tree.specs.Processes.{actors}
use Rattle.pcal_tree.specs.Program.{Program, Actor}
use Rattle.pcal_tree.specs.Scope.{State}
use Rattle.pcal_tree.specs.Variables.{on_variables}
use Rattle.module_tree.specs.Module.{Region, Module}
use Rattle.module_tree.specs.ModuleTruth.{next_holds, init_holds}
use Rattle.module_tree.specs.ProcessPart.{mine_holds}
use Rattle.step_runner.specs.Explained.{trouble_in, told, after_verdict, pairs_explained, states_explained, explained_by, explained}
use Rattle.step_runner.specs.Shown.{initial, step_before, known, state_text, first_holding, pair_before, pairs_text, trace_text}

-- of two modules that have one translation and one outside
module _ (P : Program) (o : Outside) (r : Region) (values : Valuation) (x y : Word) where
  abbrev m : Module
  m = record { title = x; outside = o; region = r }

  abbrev n : Module
  n = record { title = y; outside = o; region = r }

  -- ---- the text

  mine_same : (s t : Valuation) (v : Option Value) → mine_holds P.check m values s t v ≡ mine_holds P.check n values s t v
  mine_same s t None = refl
  mine_same s t (Some v) = refl

  before_same : (s t : State) → pair_before P m values s t ≡ pair_before P n values s t
  before_same s t = λ i. step_before P s (first_holding (λ v. mine_same (on_variables P s) (on_variables P t) v i) (known (actors P)))

  pairs_same : (k : ℕ) (s : State) (ts : List State) → pairs_text P m values k s ts ≡ pairs_text P n values k s ts
  pairs_same k s [] = refl
  pairs_same k s (t ∷ ts) = λ i. state_text P k (before_same s t i) t ++ pairs_same (suc k) t ts i

  pub text_same : (ss : List State) → trace_text P m values ss ≡ trace_text P n values ss
  text_same [] = refl
  text_same (s ∷ ts) = ap (λ w. state_text P 0 initial s ++ w) (pairs_same 1 s ts)

  -- ---- what comes of it

  steps_same : (vs : List Actor) (k : ℕ) (s : State) (ts : List State) → pairs_explained P m values vs k s ts ≡ pairs_explained P n values vs k s ts
  steps_same vs k s [] = refl
  steps_same vs k s (t ∷ ts) =
      ap (after_verdict k (next_holds P.check n values (on_variables P s) (on_variables P t)) (told P (trouble_of_all P s vs)) t) (steps_same vs (suc k) t ts)

  states_same : (vs : List Actor) (ss : List State) → states_explained P m values vs ss ≡ states_explained P n values vs ss
  states_same vs [] = refl
  states_same vs (s ∷ ts) = ap (after_verdict 0 (init_holds P.check n values (on_variables P s)) (told P (trouble_in (allowed P s))) s) (steps_same vs 1 s ts)

  pub explained_same : (ss : List State) → explained P m values ss ≡ explained P n values ss
  explained_same ss = by (actors P)
    where
      by : (a : Outcome (List Actor)) → explained_by P m values ss a ≡ explained_by P n values ss a
      by (Ok vs) = states_same vs ss
      by (Err k) = refl
