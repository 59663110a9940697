-- Routines with their prepared variables, and what comes of them.
use Rattle.std.proofs.Common.{◌≡◌, ℕ, ◌+◌, ◌≤◌, max, Bool, true, List, [], ◌∷◌, length, Option, Some, None, refl, sym, ap, subst, ◌∙◌, arith}
use Rattle.std.specs.Prelude.{Result}
use Rattle.tla_token.specs.Signs.{is_among}
use Rattle.tla_tree.specs.Tree.{Word, Tree, Each}
use Rattle.pcal_tree.specs.declared.algorithm.Declaration.{Declaration}
use Rattle.pcal_tree.specs.declared.algorithm.Procedure.{Procedure}
use Rattle.pcal_tree.specs.declared.algorithm.Process.{Process}
use Rattle.pcal_tree.specs.Algorithm as tree
use Rattle.pcal_tree.specs.Algorithm.{locals, procedure_routine, process_routine}
use Rattle.pcal_tree.specs.InMemory.{declaration_at, declarations_at, procedure_at, process_at, past_declarations, past_procedure, past_process}
use Rattle.pcal_tree.specs.Program.{Program, Actor}
use Rattle.pcal_tree.specs.Scope.{State}
use Rattle.pcal_tree.specs.Variables.{vars, written_all}
use Rattle.step_walks.specs.FirstValues.{as_written}
use Rattle.step_walks.specs.Flows.{Flow, falls, onward}
use Rattle.step_walks.specs.StartFlows.{locals_flow}
use Rattle.step_spots.specs.InMemory.{routine_at}
use Rattle.step_spots.specs.declared.routine.Routine.{Routine}
use Rattle.step_moves.specs.declared.program.Program as code
use Rattle.step_moves.specs.Programs.{program_at}
use Rattle.step_choices.specs.declared.pause.Pause.{Pause}
use Rattle.step_choices.specs.Pauses.{Pauses, Flows}
use Rattle.step_moves.specs.Prepared.{prepared_declaration, prepared_declarations, prepared_procedure, prepared_process}
use Rattle.step_meaning.specs.declared.routines.Locals.{Locals}
use Rattle.step_meaning.specs.Identified.{first}
use Rattle.step_meaning.specs.Ready.{AreKnown, IsReadied}
use Rattle.step_meaning.proofs.FlowLaws.{pauses_onward, pauses_is, flows_is, flows_through}
use Rattle.step_meaning.proofs.LocalLaws.{same_many, params_known, variables_known, both_locals, locals_from}

module _ (p : code.Program) (u : Routine) (l : Locals) (h : IsReadied p u l) where
  abbrev P : Program
  P = program_at p

  abbrev U : tree.Routine
  U = routine_at p.pool.now u

  abbrev IsVariable : Word → Type 0
  IsVariable x = is_among (vars P) x ≡ true

  pub params_many : length l.prepared_params.now ≡ length l.params.now
  params_many = same_many (declaration_at p.pool.now) (prepared_declaration P U) (declaration_at p.pool.now) l.prepared_params.now l.params.now h.prepared_params

  pub variables_many : length l.prepared_variables.now ≡ length l.variables.now
  variables_many = same_many (declaration_at p.pool.now) (prepared_declaration P U) (declaration_at p.pool.now) l.prepared_variables.now l.variables.now h.prepared_variables

  pub params_names : Each IsVariable (written_all P U (declarations_at p.pool.now l.params.now))
  params_names = subst (λ (ds : List tree.Declaration). Each IsVariable (written_all P U ds)) (sym h.params) (params_known IsVariable P U U.params U.variables h.known)

  pub variables_names : Each IsVariable (written_all P U (declarations_at p.pool.now l.variables.now))
  variables_names = subst (λ (ds : List tree.Declaration). Each IsVariable (written_all P U ds)) (sym h.variables) (variables_known IsVariable P U U.params U.variables h.known)

  module _ (spread : Bool) (vs : List Actor) where
    abbrev pub all_locals : State → List ℕ → Flow State
    all_locals s ns = locals_flow (as_written P []) P U spread vs (locals U) s ns

    both_are : (s : State) (ns : List ℕ) → all_locals s ns ≡ onward (locals_from p U spread vs l.params.now s ns) (λ t ms. locals_from p U spread vs l.variables.now t ms)
    both_are s ns =
        both_locals p U spread vs U.params U.variables s ns
        ∙ (λ i. onward (locals_flow (as_written P []) P U spread vs (sym h.params i) s ns) (λ t ms. locals_flow (as_written P []) P U spread vs (sym h.variables i) t ms))

    pub readied_through : {X : Type 0} (view : X → State) (r : Result X Pause) (ks ns ms : List ℕ) (s t : State) → locals_from p U spread vs l.params.now s ns ≡ falls t ms → Flows view r ks (locals_from p U spread vs l.variables.now t ms) → Flows view r ks (all_locals s ns)
    readied_through view r ks ns ms s t e k =
        flows_is view r ks (onward (locals_from p U spread vs l.params.now s ns) (λ x ls. locals_from p U spread vs l.variables.now x ls)) (all_locals s ns) (sym (both_are s ns))
        (flows_through view r ks ms (locals_from p U spread vs l.params.now s ns) t (λ x ls. locals_from p U spread vs l.variables.now x ls) e k)

    pub readied_pauses : (q : Pause) (s : State) (ns : List ℕ) → Pauses q (locals_from p U spread vs l.params.now s ns) → Pauses q (all_locals s ns)
    readied_pauses q s ns k =
        pauses_is q (onward (locals_from p U spread vs l.params.now s ns) (λ x ls. locals_from p U spread vs l.variables.now x ls)) (all_locals s ns) (sym (both_are s ns))
        (pauses_onward q (locals_from p U spread vs l.params.now s ns) (λ x ls. locals_from p U spread vs l.variables.now x ls) k)

-- ---- who has them

pub first_none : (vs : List Actor) → first vs ≡ None → vs ≡ []
first_none [] e = refl
first_none (v ∷ vs) e = absurd (let no : ⊥ = cc in no)

pub first_some : (vs : List Actor) (v : Actor) → first vs ≡ Some v → (rest : List Actor) × (vs ≡ v ∷ rest)
first_some [] v e = absurd (let no : ⊥ = cc in no)
first_some (w ∷ vs) v e = (vs, ap (λ (o : Option Actor). elim o [ Some x ↦ x ∷ vs | None ↦ w ∷ vs ]) e)

-- ---- procedures and processes

module _ (p : code.Program) (u : Routine) (l : Locals) (number : ℕ) where
  abbrev ts : List Tree
  ts = p.pool.now

  pub readied_procedure : (one ready : Procedure) → routine_at ts u ≡ procedure_routine number (procedure_at ts one) → procedure_at ts ready ≡ prepared_procedure (program_at p) number (procedure_at ts one) → past_procedure one ≤ length ts
      → past_procedure ready ≤ length ts → AreKnown (program_at p) (procedure_routine number (procedure_at ts one)) → l.params.now ≡ one.params.items → l.variables.now ≡ one.variables.items → l.prepared_params.now ≡ ready.params.items
      → l.prepared_variables.now ≡ ready.variables.items → IsReadied p u l
  readied_procedure one ready own made b w k e1 e2 e3 e4 =
      let ds = declarations_at ts in
      let U = procedure_routine number (procedure_at ts one) in
      let below : max (past_declarations one.params.items) (max (past_declarations one.variables.items) _) ≤ length ts = b in
      let within : max (past_declarations ready.params.items) (max (past_declarations ready.variables.items) _) ≤ length ts = w in
      record {
        params = ap ds e1 ∙ sym (ap (λ (r : tree.Routine). r.params) own);
        variables = ap ds e2 ∙ sym (ap (λ (r : tree.Routine). r.variables) own);
        prepared_params = ap ds e3 ∙ ap (λ (q : tree.Procedure). q.params) made ∙ (λ i. prepared_declarations (program_at p) (sym own i) (ds (sym e1 i)));
        prepared_variables = ap ds e4 ∙ ap (λ (q : tree.Procedure). q.variables) made ∙ (λ i. prepared_declarations (program_at p) (sym own i) (ds (sym e2 i)));
        params_below = subst (λ (xs : List Declaration). past_declarations xs ≤ length ts) (sym e1) (omega (arith, below));
        variables_below = subst (λ (xs : List Declaration). past_declarations xs ≤ length ts) (sym e2) (omega (arith, below));
        params_within = subst (λ (xs : List Declaration). past_declarations xs ≤ length ts) (sym e3) (omega (arith, within));
        variables_within = subst (λ (xs : List Declaration). past_declarations xs ≤ length ts) (sym e4) (omega (arith, within));
        known = subst (AreKnown (program_at p)) (sym own) k;
      }

  pub readied_process : (one ready : Process) → routine_at ts u ≡ process_routine number (process_at ts one) → process_at ts ready ≡ prepared_process (program_at p) number (process_at ts one) → past_process one ≤ length ts
      → past_process ready ≤ length ts → AreKnown (program_at p) (process_routine number (process_at ts one)) → l.params.now ≡ [] → l.variables.now ≡ one.variables.items → l.prepared_params.now ≡ []
      → l.prepared_variables.now ≡ ready.variables.items → IsReadied p u l
  readied_process one ready own made b w k e1 e2 e3 e4 =
      let ds = declarations_at ts in
      let below : max (one.identity + 1) (max (past_declarations one.variables.items) _) ≤ length ts = b in
      let within : max (ready.identity + 1) (max (past_declarations ready.variables.items) _) ≤ length ts = w in
      record {
        params = ap ds e1 ∙ sym (ap (λ (r : tree.Routine). r.params) own);
        variables = ap ds e2 ∙ sym (ap (λ (r : tree.Routine). r.variables) own);
        prepared_params = ap ds e3 ∙ (λ i. prepared_declarations (program_at p) (sym own i) (ds (sym e1 i)));
        prepared_variables = ap ds e4 ∙ ap (λ (q : tree.Process). q.variables) made ∙ (λ i. prepared_declarations (program_at p) (sym own i) (ds (sym e2 i)));
        params_below = subst (λ (xs : List Declaration). past_declarations xs ≤ length ts) (sym e1) (omega arith);
        variables_below = subst (λ (xs : List Declaration). past_declarations xs ≤ length ts) (sym e2) (omega (arith, below));
        params_within = subst (λ (xs : List Declaration). past_declarations xs ≤ length ts) (sym e3) (omega arith);
        variables_within = subst (λ (xs : List Declaration). past_declarations xs ≤ length ts) (sym e4) (omega (arith, within));
        known = subst (AreKnown (program_at p)) (sym own) k;
      }
