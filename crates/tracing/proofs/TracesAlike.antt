-- A trace is explained alike beside two modules that are the same but for places: only whether a formula is true, false or neither is looked at.
use Rattle.std.proofs.Common.{◌≡◌, ℕ, suc, true, false, List, [], ◌∷◌, ◌++◌, Option, find, refl, ap, Ok, Err}
use Rattle.tla_value.specs.Definitions.{Valuation}
use Rattle.tla_value.specs.Value.{Value, Trouble, Outcome}
use Rattle.tla_value.specs.laws.Places.{AgreeButPlaces, ChecksButPlaces}
use Rattle.pcal_tree.specs.FirstTrouble.{trouble_of_all}
use Rattle.pcal_tree.specs.InitialStates.{allowed}
use Rattle.pcal_tree.specs.Processes.{actors}
use Rattle.pcal_tree.specs.Program.{Program, Actor}
use Rattle.pcal_tree.specs.Scope.{State}
use Rattle.pcal_tree.specs.Variables.{on_variables}
use Rattle.module_tree.specs.ActionTruth.{Verdict}
use Rattle.module_tree.specs.Module.{Module}
use Rattle.module_tree.specs.ModuleTruth.{next_holds, init_holds}
use Rattle.module_tree.specs.ProcessPart.{mine_holds}
use Rattle.module_tree.specs.laws.PlacelessRegion.{region_placeless}
use Rattle.step_runner.specs.Explained.{Explained, trouble_in, told, after_verdict, pairs_explained, states_explained, explained_by, explained}
use Rattle.step_runner.specs.Shown.{initial, is_so, step_before, known, pair_before, state_text, pairs_text, trace_text}
use Rattle.tracing.proofs.ModulesAlike.{next_agrees, init_agrees, mine_agrees}

-- ---- two verdicts that are the same but for places

after_same : (k : ℕ) (v w : Verdict) (t : Trouble) (s : State) (a b : Explained) → AgreeButPlaces v w → a ≡ b → after_verdict k v t s a ≡ after_verdict k w t s b
after_same k (Ok true) (Ok true) t s a b h e = ap (after_verdict k (Ok true) t s) e
after_same k (Ok false) (Ok false) t s a b h e = refl
after_same k (Err i) (Err j) t s a b h e = refl
after_same k (Ok true) (Ok false) t s a b h e = cc
after_same k (Ok false) (Ok true) t s a b h e = cc
after_same k (Ok x) (Err j) t s a b h e = absurd h
after_same k (Err i) (Ok y) t s a b h e = absurd h

so_same : (v w : Verdict) → AgreeButPlaces v w → is_so v ≡ is_so w
so_same (Ok x) (Ok y) h = h
so_same (Err i) (Err j) h = refl
so_same (Ok x) (Err j) h = absurd h
so_same (Err i) (Ok y) h = absurd h

module _ (P : Program) (own : ChecksButPlaces P.check P.check) (m n : Module) (title : m.title ≡ n.title) (outside : m.outside ≡ n.outside) (region : region_placeless m.region ≡ region_placeless n.region) (values : Valuation) where
  -- ---- which states are shown, and why no more

  pairs_same : (vs : List Actor) (k : ℕ) (s : State) (ts : List State) → pairs_explained P m values vs k s ts ≡ pairs_explained P n values vs k s ts
  pairs_same vs k s [] = refl
  pairs_same vs k s (t ∷ ts) =
      after_same k (next_holds P.check m values (on_variables P s) (on_variables P t)) (next_holds P.check n values (on_variables P s) (on_variables P t)) (told P (trouble_of_all P s vs)) t
      (pairs_explained P m values vs (suc k) t ts) (pairs_explained P n values vs (suc k) t ts)
      (next_agrees P.check own m n title outside region values (on_variables P s) (on_variables P t)) (pairs_same vs (suc k) t ts)

  states_same : (vs : List Actor) (ss : List State) → states_explained P m values vs ss ≡ states_explained P n values vs ss
  states_same vs [] = refl
  states_same vs (s ∷ ts) =
      after_same 0 (init_holds P.check m values (on_variables P s)) (init_holds P.check n values (on_variables P s)) (told P (trouble_in (allowed P s))) s
      (pairs_explained P m values vs 1 s ts) (pairs_explained P n values vs 1 s ts)
      (init_agrees P.check own m n title outside region values (on_variables P s)) (pairs_same vs 1 s ts)

  pub explained_alike : (ss : List State) → explained P m values ss ≡ explained P n values ss
  explained_alike ss = by (actors P)
    where
      by : (a : Outcome (List Actor)) → explained_by P m values ss a ≡ explained_by P n values ss a
      by (Ok vs) = states_same vs ss
      by (Err k) = refl

  -- ---- the text of states

  mine_same : (s t : State) (v : Option Value)
      → is_so (mine_holds P.check m values (on_variables P s) (on_variables P t) v) ≡ is_so (mine_holds P.check n values (on_variables P s) (on_variables P t) v)
  mine_same s t v = so_same _ _ (mine_agrees P.check own m n title outside region values (on_variables P s) (on_variables P t) v)

  before_same : (s t : State) → pair_before P m values s t ≡ pair_before P n values s t
  before_same s t = λ i. step_before P s (find (λ (v : Actor). mine_same s t v.self i) (known (actors P)))

  texts_same : (k : ℕ) (s : State) (ts : List State) → pairs_text P m values k s ts ≡ pairs_text P n values k s ts
  texts_same k s [] = refl
  texts_same k s (t ∷ ts) = λ i. state_text P k (before_same s t i) t ++ texts_same (suc k) t ts i

  pub text_alike : (ss : List State) → trace_text P m values ss ≡ trace_text P n values ss
  text_alike [] = refl
  text_alike (s ∷ ts) = ap (λ (w : List ℕ). state_text P 0 initial s ++ w) (texts_same 1 s ts)
