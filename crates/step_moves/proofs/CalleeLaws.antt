-- The procedure that is looked for among prepared ones, and the call of it.
use Rattle.std.proofs.Common.{◌≡◌, ℕ, zero, suc, ◌+◌, ◌<◌, ◌≤◌, Bool, true, false, bytes_eq, List, [], ◌∷◌, ◌++◌, length, map, drop, get_or, cond, Option, Some, None, refl, sym, ap, subst, ◌∙◌, arith, Ok}
use Rattle.std.proofs.lemmas.List.{drop_more, drop_all}
use Rattle.std.specs.Option.{option_map}
use Rattle.tla_token.specs.declared.place.Place.{Place}
use Rattle.tla_token.specs.Signs.{is_among}
use Rattle.tla_tree.specs.Tree.{Word, Each, Tree}
use Rattle.tla_tree.specs.Nesting.{greatest}
use Rattle.tla_tree.proofs.PoolNumbers.{past_at}
use Rattle.tla_value.specs.declared.stop.EvalStop.{EvalStop}
use Rattle.tla_value.specs.Value.{Value, Outcome, ◌>>=◌}
use Rattle.pcal_tree.specs.declared.algorithm.Procedure as code
use Rattle.pcal_tree.specs.Algorithm.{Procedure, Routine, locals, first_procedure, numbered, procedure_routine, procedure_routines}
use Rattle.pcal_tree.specs.InMemory.{procedure_at, past_procedure, past_declarations}
use Rattle.pcal_tree.specs.Scope.{State}
use Rattle.pcal_tree.specs.Run.{Partner}
use Rattle.pcal_tree.specs.Program.{Actor}
use Rattle.pcal_tree.specs.Calls.{routine_named}
use Rattle.pcal_tree.specs.Variables.{vars, written_all}
use Rattle.value_forms.specs.Gives.{Stops}
use Rattle.value_forms.proofs.StopLaws.{then_stops}
use Rattle.step_walks.specs.WrittenCalls.{called_by}
use Rattle.step_spots.specs.declared.routine.Routine as spots
use Rattle.step_spots.specs.InMemory.{routine_at}
use Rattle.step_moves.specs.Programs.{program_at}
use Rattle.step_moves.specs.declared.runner.Runner.{Runner}
use Rattle.step_moves.specs.Prepared.{as_prepared, prepared_procedure, prepared_routine, called_if}
use Rattle.step_moves.specs.Runners.{written_names, IsReady, IsCallee}
use Rattle.step_moves.proofs.PreparedLaws.{named_alike}
use Rattle.step_moves.proofs.CalledLaws.{labelled_named, called_found, called_missing}
use Rattle.step_moves.proofs.VariableLaws.{procedures_among, callee_among}
use Rattle.step_moves.proofs.EntryForms.{callee_names}

-- ---- procedure by procedure

-- those from one on
abbrev pub from_number : List Tree → ℕ → List code.Procedure → ℕ → List Routine
from_number ts n ps i = numbered procedure_routine (n + i) (map (procedure_at ts) (drop i ps))

module _ (ts : List Tree) (x : Word) (n : ℕ) (ps : List code.Procedure) (i : ℕ) where
  next_is : (p : code.Procedure) → i < length ps → p ≡ get_or ps i p → routine_named x (from_number ts n ps i)
      ≡ cond (bytes_eq p.name.word x) (Some (procedure_routine (n + i) (procedure_at ts p))) (routine_named x (from_number ts n ps (i + 1)))
  next_is p less is =
      let up : suc (n + i) ≡ n + (i + 1) = omega arith in
      ap (λ (qs : List code.Procedure). routine_named x (numbered procedure_routine (n + i) (map (procedure_at ts) qs))) (drop_more ps i p less ∙ ap (λ (q : code.Procedure). q ∷ drop (i + 1) ps) (sym is))
      ∙ ap (λ (m : ℕ). cond (bytes_eq p.name.word x) (Some (procedure_routine (n + i) (procedure_at ts p))) (routine_named x (numbered procedure_routine m (map (procedure_at ts) (drop (i + 1) ps))))) up

  pub named_here : (p : code.Procedure) (whole : Option Routine) → i < length ps → p ≡ get_or ps i p → bytes_eq p.name.word x ≡ true → routine_named x (from_number ts n ps i) ≡ whole → whole ≡ Some (procedure_routine (n + i) (procedure_at ts p))
  named_here p whole less is e h =
      sym h ∙ next_is p less is ∙ ap (λ (b : Bool). cond b (Some (procedure_routine (n + i) (procedure_at ts p))) (routine_named x (from_number ts n ps (i + 1)))) e

  pub named_later : (p : code.Procedure) (whole : Option Routine) → i < length ps → p ≡ get_or ps i p → bytes_eq p.name.word x ≡ false → routine_named x (from_number ts n ps i) ≡ whole → routine_named x (from_number ts n ps (i + 1)) ≡ whole
  named_later p whole less is e h =
      sym (next_is p less is ∙ ap (λ (b : Bool). cond b (Some (procedure_routine (n + i) (procedure_at ts p))) (routine_named x (from_number ts n ps (i + 1)))) e) ∙ h

  pub named_nowhere : (whole : Option Routine) → length ps ≤ i → routine_named x (from_number ts n ps i) ≡ whole → whole ≡ None
  named_nowhere whole le h = sym h ∙ ap (λ (qs : List code.Procedure). routine_named x (numbered procedure_routine (n + i) (map (procedure_at ts) qs))) (drop_all i ps le)

-- ---- a procedure that may be called

item_at : {A B : Type 0} (f : A → B) (xs : List A) (i : ℕ) (x : A) → i < length xs → x ≡ get_or xs i x → f x ≡ get_or (map f xs) i (f x)
item_at f [] i x less is = absurd (omega (arith, less))
item_at f (y ∷ xs) zero x less is = ap f is
item_at f (y ∷ xs) (suc i) x less is = item_at f xs i x (omega (arith, less)) is

as_many : {A B : Type 0} (f : A → B) (xs : List A) → length (map f xs) ≡ length xs
as_many f [] = refl
as_many f (x ∷ xs) = ap suc (as_many f xs)

pub callee_is : (r : Runner) (c : spots.Routine) (i : ℕ) (p : code.Procedure) → IsReady r → i < length r.procedures.now → p ≡ get_or r.procedures.now i p
    → c.number ≡ first_procedure (program_at r.program).algorithm + i → routine_at r.program.pool.now c ≡ procedure_routine c.number (procedure_at r.program.pool.now p) → c.variables.now ≡ p.variables.items → IsCallee r c
callee_is r c i p g less is en ec ev =
    let P = program_at r.program in
    let ts = r.program.pool.now in
    let n = first_procedure P.algorithm in
    let N : Word → Type 0 = λ x. is_among (vars P) x ≡ true in
    let q = procedure_at ts p in
    let qs = numbered (prepared_procedure P) n P.algorithm.procedures in
    let many : length qs ≡ length r.procedures.now = ap (λ (l : List Procedure). length l) (sym g.procedures) ∙ as_many (procedure_at ts) r.procedures.now in
    let at : q ≡ get_or qs i q = item_at (procedure_at ts) r.procedures.now i p less is ∙ ap (λ (l : List Procedure). get_or l i q) g.procedures in
    let below : past_procedure p ≤ greatest (map past_procedure r.procedures.now) = past_at past_procedure r.procedures.now i p is less in
    let named : written_all P (procedure_routine c.number q) (q.params ++ q.variables) ≡ written_names r.program c = ap (λ (u : Routine). written_all P u (locals u)) (sym ec) ∙ callee_names r c in
    record {
      within = omega (arith, below, g.within, ap past_declarations ev);
      variables = subst (Each N) named (callee_among P N n P.algorithm.procedures i c.number q (omega (arith, less, many)) at en (procedures_among P));
    }

-- ---- the call

pub named_ready : (r : Runner) (x : Word) → IsReady r → routine_named x (numbered procedure_routine (first_procedure (program_at r.program).algorithm) (map (procedure_at r.program.pool.now) r.procedures.now))
    ≡ option_map (prepared_routine (program_at r.program)) (routine_named x (procedure_routines (program_at r.program).algorithm))
named_ready r x g =
    let P = program_at r.program in
    let n = first_procedure P.algorithm in
    ap (λ (qs : List Procedure). routine_named x (numbered procedure_routine n qs)) g.procedures ∙ sym (named_alike P x n P.algorithm.procedures)

module _ (r : Runner) (v : Actor) (u : Routine) (g : IsReady r) (at : Place) (x : Word) (places : List Place) (vs : List Value) (l : Word) (j : Partner) (s : State) (o : Option spots.Routine)
    (found : option_map (routine_at r.program.pool.now) o ≡ routine_named x (numbered procedure_routine (first_procedure (program_at r.program).algorithm) (map (procedure_at r.program.pool.now) r.procedures.now))) where
  abbrev calling : Outcome (Bool × State)
  calling = called_if (program_at r.program) v u at (routine_named x (procedure_routines (program_at r.program).algorithm)) places vs l j s

  abbrev entering : spots.Routine → Outcome State
  entering c = called_by (as_prepared (program_at r.program)) (program_at r.program) v u at (routine_at r.program.pool.now c) places vs l j s

  abbrev told : State → Outcome (Bool × State)
  told t = Ok (true, t)

  -- there is no such procedure
  pub calling_missing : o ≡ None → calling ≡ Ok (false, s)
  calling_missing e =
      called_missing (program_at r.program) v u at places vs l j s (routine_named x (procedure_routines (program_at r.program).algorithm))
      (sym (ap (option_map (routine_at r.program.pool.now)) (sym e) ∙ found ∙ named_ready r x g))

  module _ (c : spots.Routine) (e : o ≡ Some c) where
    calling_form : calling ≡ (entering c) >>= told
    calling_form =
        let P = program_at r.program in
        called_found P v u at places vs l j s (routine_at r.program.pool.now c) (routine_named x (procedure_routines P.algorithm))
        (sym (ap (option_map (routine_at r.program.pool.now)) (sym e) ∙ found ∙ named_ready r x g)) (labelled_named x (first_procedure P.algorithm) P.algorithm.procedures g.labelled)

    pub calling_stops : (stop : EvalStop) → Stops stop (entering c) → Stops stop calling
    calling_stops stop h = subst (Stops stop) (sym calling_form) (then_stops stop (entering c) told h)

    pub calling_done : (t : State) → entering c ≡ Ok t → calling ≡ Ok (true, t)
    calling_done t et = calling_form ∙ ap (λ (q : Outcome State). q >>= told) et
