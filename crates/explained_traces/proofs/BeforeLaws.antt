-- The step that is told before a state: of the first process whose it is, from the label where that is.
use Rattle.std.proofs.Common.{◌≡◌, List, Option, Some, None, Result, Ok, Err, IfOk, refl, sym, ap, ◌∙◌}
use Rattle.tla_value.specs.Value.{Value, Outcome}
use Rattle.module_tree.specs.Module.{Module}
use Rattle.pcal_tree.specs.Program.{Program, Actor}
use Rattle.pcal_tree.specs.Scope.{State}
use Rattle.pcal_tree.specs.Step.{pc_of}
use Rattle.step_runner.specs.Shown.{first_holding, known, step_before, from_pc, terminating}
use Rattle.step_moves.specs.StatesOf.{state_of}
use Rattle.followed_runs.specs.Parties.{program_of, actors_of}
use Rattle.action_truth.specs.AskedOf.{IsAsked}
use Rattle.explained_traces.specs.declared.befores.Leaving.{Leaving}
use Rattle.explained_traces.specs.declared.judge.Judge.{Judge}
use Rattle.explained_traces.specs.declared.judge.Pair.{Pair}
use Rattle.explained_traces.specs.Judging.{IsJudge, mine_of, read_of}
use Rattle.explained_traces.specs.Shows.{before_by, before_pair}

-- of the process that is found
pub before_is : (j : Judge) (m : Module) (q : Pair) (o : Option Actor) → IsJudge j → o ≡ first_holding (mine_of j m q) (actors_of j.party)
    → step_before (program_of j.party) (state_of q.from.now) o ≡ before_pair j m q
before_is j m q o h e =
    let P = program_of j.party in
    let s = state_of q.from.now in
    ap (step_before P s) e ∙ ap (λ (p : Outcome (List Actor)). step_before P s (first_holding (mine_of j m q) (known p))) (sym h.party.actors)

is_read : (p : Outcome Value) (w : Value) → read_of p ≡ Some w → p ≡ Ok w
is_read (Ok v) w e = cc
is_read (Err k) w e = cc

not_read : (P : Program) (v : Actor) (p : Outcome Value) → read_of p ≡ None → from_pc P v p ≡ terminating
not_read P v (Ok w) e = cc
not_read P v (Err k) e = refl

-- where the process is that is found
module _ (j : Judge) (q : Pair) (v : Actor) (h : IsJudge j) (found : (m : Module) → IsAsked j.asked m → Some v ≡ first_holding (mine_of j m q) (actors_of j.party)) where
  pub unread_before : read_of (pc_of v (state_of q.from.now)) ≡ None → (m : Module) → IsAsked j.asked m → terminating ≡ before_pair j m q
  unread_before none m a = sym (not_read (program_of j.party) v (pc_of v (state_of q.from.now)) none) ∙ before_is j m q (Some v) h (found m a)

  pub read_before : {E : Type 0} (w : Value) (r : Result (Option Leaving) E) → read_of (pc_of v (state_of q.from.now)) ≡ Some w
      → IfOk r (λ o. (s : State) → pc_of v s ≡ Ok w → before_by o ≡ step_before (program_of j.party) s (Some v)) → IfOk r (λ o. (m : Module) → IsAsked j.asked m → before_by o ≡ before_pair j m q)
  read_before w (Ok o) read told = λ m a. told (state_of q.from.now) (is_read (pc_of v (state_of q.from.now)) w read) ∙ before_is j m q (Some v) h (found m a)
  read_before w (Err e) read told = tt
