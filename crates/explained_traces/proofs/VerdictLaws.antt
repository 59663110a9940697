-- What formulas say of states in memory, and why a trace stops by it.
use Rattle.std.proofs.Common.{◌≡◌, ℕ, [], ◌∷◌, Bool, true, false, Option, Some, None, unwrap_or, Ok, Err, refl, sym, ap, ◌∙◌}
use Rattle.tla_value.specs.Limits.{bounded}
use Rattle.tla_value.specs.States.{Entries, value_of}
use Rattle.tla_value.specs.Value.{Value, Trouble}
use Rattle.module_tree.specs.ActionTruth.{Verdict}
use Rattle.module_tree.specs.Module.{Module}
use Rattle.module_tree.specs.ModuleTruth.{next_holds, init_holds}
use Rattle.module_tree.specs.ProcessPart.{mine_holds}
use Rattle.pcal_tree.specs.Scope.{State}
use Rattle.pcal_tree.specs.Variables.{vars, on_variables}
use Rattle.step_runner.specs.Explained.{Halt, Explained, after_verdict}
use Rattle.step_runner.specs.Shown.{is_so}
use Rattle.step_moves.specs.StatesOf.{state_of}
use Rattle.step_moves.proofs.StateLaws.{in_memory}
use Rattle.followed_runs.specs.Parties.{program_of}
use Rattle.explained_traces.specs.declared.judge.Judge.{Judge}
use Rattle.explained_traces.specs.declared.judge.Pair.{Pair}
use Rattle.explained_traces.specs.Judging.{IsState, IsPair, truth_of, next_of, mine_of, init_of, halts}

-- ---- states in memory

module _ (j : Judge) (m : Module) where
  values : (s : Entries) → IsState j s → value_of s ≡ on_variables (program_of j.party) (state_of s)
  values s h = in_memory (vars (program_of j.party)) s h

  module _ (q : Pair) (h : IsPair j q) where
    pub next_said : next_holds bounded m (value_of j.asked.constants.now) (value_of q.from.now) (value_of q.to.now) ≡ next_of j m q
    next_said i = next_holds bounded m (value_of j.asked.constants.now) (values q.from.now h.from i) (values q.to.now h.to i)

    pub mine_said : (w v : Option Value) → w ≡ v → mine_holds bounded m (value_of j.asked.constants.now) (value_of q.from.now) (value_of q.to.now) w ≡ mine_of j m q v
    mine_said w v e i = mine_holds bounded m (value_of j.asked.constants.now) (values q.from.now h.from i) (values q.to.now h.to i) (e i)

  pub init_said : (s : Entries) → IsState j s → init_holds bounded m (value_of j.asked.constants.now) (value_of s) ≡ init_of j m s
  init_said s h i = init_holds bounded m (value_of j.asked.constants.now) (values s h i)

-- ---- why a trace stops

pub halts_so : (n : ℕ) (v w : Verdict) (o p : Option Bool) (k : Trouble) → v ≡ w → truth_of v ≡ o → o ≡ p → halts n p k ≡ halts n (truth_of w) k
halts_so n v w o p k same told is = ap (λ (x : Option Bool). halts n x k) (sym is ∙ sym told ∙ ap truth_of same)

so_by : (v : Verdict) → is_so v ≡ unwrap_or (truth_of v) false
so_by (Ok b) = refl
so_by (Err k) = refl

pub is_told : (v w : Verdict) (o : Option Bool) → v ≡ w → truth_of v ≡ o → is_so w ≡ unwrap_or o false
is_told v w o same told = ap is_so (sym same) ∙ so_by v ∙ ap (λ (x : Option Bool). unwrap_or x false) told

-- a state is shown, and the rest after it, or it is where the trace stops
abbrev pub after : Option Halt → State → Explained → Explained
after None s rest = record { states = s ∷ rest.states; halt = rest.halt }
after (Some h) s rest = record { states = []; halt = Some h }

pub after_is : (n : ℕ) (v : Verdict) (k : Trouble) (s : State) (rest : Explained) → after_verdict n v k s rest ≡ after (halts n (truth_of v) k) s rest
after_is n (Ok true) k s rest = refl
after_is n (Ok false) k s rest = refl
after_is n (Err j) k s rest = refl
