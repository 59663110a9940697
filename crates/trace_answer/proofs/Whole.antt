-- Where a trace is shown whole, the identifiers are proper, all its states are shown, Init is true of the first one, and Next of each pair.
use Rattle.std.proofs.Common.{◌≡◌, ℕ, suc, true, false, List, [], ◌∷◌, Some, None, refl, ap, ◌∙◌, Ok, Err}
use Rattle.tla_value.specs.Value.{Trouble, Outcome}
use Rattle.tla_value.specs.Definitions.{Valuation}
use Rattle.pcal_tree.specs.FirstTrouble.{trouble_of_all}
use Rattle.pcal_tree.specs.InitialStates.{allowed}
use Rattle.pcal_tree.specs.Processes.{actors, Proper}
use Rattle.pcal_tree.specs.Program.{Program, Actor}
use Rattle.pcal_tree.specs.Scope.{State}
use Rattle.pcal_tree.specs.Variables.{on_variables}
use Rattle.module_tree.specs.ActionTruth.{Verdict}
use Rattle.module_tree.specs.Module.{Module}
use Rattle.module_tree.specs.ModuleTruth.{next_holds, init_holds}
use Rattle.step_runner.specs.Explained.{Halt, untrue, troubled, Explained, trouble_in, told, after_verdict, pairs_explained, states_explained, explained_by, explained}

not_none : (h : Halt) → Some h ≡ None → ⊥
not_none h e = cc

-- what is shown of a state, and after it
abbrev IsShown : Verdict → State → Explained → Explained → Type 0
IsShown v s rest all = (v ≡ Ok true) × (rest.halt ≡ None) × (all.states ≡ s ∷ rest.states)

shown : (n : ℕ) (v : Verdict) (k : Trouble) (s : State) (rest : Explained) → (after_verdict n v k s rest).halt ≡ None → IsShown v s rest (after_verdict n v k s rest)
shown n (Ok true) k s rest e = (refl, e, refl)
shown n (Ok false) k s rest e = absurd (not_none (untrue n) e)
shown n (Err j) k s rest e = absurd (not_none (troubled k) e)

module _ (P : Program) (m : Module) (values : Valuation) where
  abbrev pub InitTrue : State → Type 0
  InitTrue s = init_holds P.check m values (on_variables P s) ≡ Ok true

  abbrev pub NextTrue : State → State → Type 0
  NextTrue s t = next_holds P.check m values (on_variables P s) (on_variables P t) ≡ Ok true

  abbrev pub PairsTrue : State → List State → Type 0
  PairsTrue s [] = Unit {0}
  PairsTrue s (t ∷ ts) = NextTrue s t × PairsTrue t ts

  abbrev pub StatesTrue : List State → Type 0
  StatesTrue [] = Unit {0}
  StatesTrue (s ∷ ts) = InitTrue s × PairsTrue s ts

  module _ (vs : List Actor) where
    whole_pairs : (n : ℕ) (s : State) (ts : List State) → (pairs_explained P m values vs n s ts).halt ≡ None → ((pairs_explained P m values vs n s ts).states ≡ ts) × PairsTrue s ts
    whole_pairs n s [] e = (refl, tt)
    whole_pairs n s (t ∷ ts) e =
        let here = shown n (next_holds P.check m values (on_variables P s) (on_variables P t)) (told P (trouble_of_all P s vs)) t (pairs_explained P m values vs (suc n) t ts) e in
        let more = whole_pairs (suc n) t ts here.1 in
        (here.2 ∙ ap (λ us. t ∷ us) more.0, (here.0, more.1))

    whole_states : (ss : List State) → (states_explained P m values vs ss).halt ≡ None → ((states_explained P m values vs ss).states ≡ ss) × StatesTrue ss
    whole_states [] e = (refl, tt)
    whole_states (s ∷ ts) e =
        let here = shown 0 (init_holds P.check m values (on_variables P s)) (told P (trouble_in (allowed P s))) s (pairs_explained P m values vs 1 s ts) e in
        let more = whole_pairs 1 s ts here.1 in
        (here.2 ∙ ap (λ us. s ∷ us) more.0, (here.0, more.1))

  pub whole : (ss : List State) → (explained P m values ss).halt ≡ None → Proper P × ((explained P m values ss).states ≡ ss) × StatesTrue ss
  whole ss e = by (actors P) refl e
    where
      by : (a : Outcome (List Actor)) → actors P ≡ a → (explained_by P m values ss a).halt ≡ None → Proper P × ((explained_by P m values ss a).states ≡ ss) × StatesTrue ss
      by (Ok vs) q h = (let w = whole_states vs ss h in ((vs, q), w.0, w.1))
      by (Err k) q h = absurd (not_none (troubled k) h)
