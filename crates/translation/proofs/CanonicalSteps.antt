-- A process of an accepted algorithm that is in trouble at a label, in a state of canonical values, makes the label's action a fault for some second state of canonical values;
-- and its steps lead to such states.
use Rattle.std.proofs.Common.{◌≡◌, List, [], ◌∷◌, ◌++◌, Option, Some, None, inl, inr, refl, sym, ap, ◌∙◌, subst, Ok, Err}
use Rattle.tla_token.specs.Signs.{is_among}
use Rattle.tla_tree.specs.Tree.{Word}
use Rattle.tla_value.specs.Value.{Value, Trouble, IsBad}
use Rattle.tla_value.specs.Order.{IsCanonical, AreCanonical}
use Rattle.tla_value.specs.Outside.{Outside}
use Rattle.tla_value.specs.Stops.{plain}
use Rattle.tla_value.specs.Meaning.{Env}
use Rattle.tla_value.specs.Definitions.{Valuation, no_state}
use Rattle.tla_value.specs.laws.CanonicalNames.{Proper as ProperValue, Sound as SoundNames}
use Rattle.tla_value.proofs.CanonicalEval.{sound_bind, eval_canonical}
use Rattle.tla_value.proofs.CanonicalTests.{value_kept}
use Rattle.tla_value.proofs.ScopesSound.{scope_sound}
use Rattle.module_tree.specs.Formulas.{self, process_set}
use Rattle.module_tree.specs.Module.{Region}
use Rattle.pcal_tree.specs.Algorithm.{Main, alone, processes, Algorithm}
use Rattle.pcal_tree.specs.Processes.{OneOf, identifier, IsActor}
use Rattle.pcal_tree.specs.Program.{Program, Actor}
use Rattle.pcal_tree.specs.Programs.{program_in}
use Rattle.pcal_tree.specs.Run.{Has}
use Rattle.pcal_tree.specs.Scope.{State}
use Rattle.pcal_tree.specs.Step.{Stand, course_of}
use Rattle.pcal_tree.specs.Variables.{vars}
use Rattle.pcal_tree.proofs.ProcessesInOrder.{id, ids}
use Rattle.action_builder.specs.Prepared.{none}
use Rattle.action_builder.specs.laws.LabelSteps.{LabelStep, prepared_of, action_of}
use Rattle.action_builder.specs.laws.Ready.{Readable, unlimited, values_of, holds_on}
use Rattle.action_builder.specs.laws.StepsOfLabels.{step_of, pair_env, Goes}
use Rattle.action_builder.specs.laws.WrittenScope.{self_bound, definitions_of, written_scope}
use Rattle.action_builder.proofs.Contract.{runs_law}
use Rattle.action_builder.proofs.Effects.{effects_of}
use Rattle.action_builder.proofs.Names.{each_name}
use Rattle.action_builder.proofs.Steps.{close_step, step_stops}
use Rattle.action_builder.proofs.StepsOfLabels.{outcome_is, steps_go}
use Rattle.promise.specs.ConstantsAndStates.{AreConstants, IsState}
use Rattle.translation.specs.laws.AcceptedAlgorithm.{IsAcceptedInFile}
use Rattle.translation.specs.laws.AcceptedLaws.{extra_of, may_bind, callable_for, Stance}
use Rattle.translation.proofs.CanonicalFaults.{canonical_fault}
use Rattle.translation.proofs.CanonicalRuns.{AllCanonical, CanonicalScope, run_keeps, all_keep}
use Rattle.translation.proofs.NamesApart.{self_none, names_apart_law}
use Rattle.translation.proofs.NamesGiven.{names_given_law}
use Rattle.translation.proofs.NextLabels.{ReadyHere}
use Rattle.translation.proofs.NextScopes.{canonical_in, names_sound, set_there}
use Rattle.translation.proofs.PreparedSteps.{prepared_law}
use Rattle.translation.proofs.VariableNames.{each_from, one_is_among}

one_canonical : (v : Actor) (vs : List Actor) → AreCanonical (ids vs) → OneOf v vs → IsCanonical (id v)
one_canonical v [] h m = absurd m
one_canonical v (w ∷ vs) h (inl e) = subst (λ (z : Actor). IsCanonical (id z)) (sym e) h.0
one_canonical v (w ∷ vs) h (inr m) = one_canonical v vs h.1 m

self_sound : (x : Option Value) → ((i : Value) → x ≡ Some i → IsCanonical i) → (e : Env) → SoundNames e → SoundNames (self_bound x e)
self_sound (Some i) h e r = sound_bind self i e (h i refl) r
self_sound None h e r = r

module _ (U : Readable) (title : Word) (region : Region) (o : Outside) (g : Algorithm) (h : IsAcceptedInFile o g) (values : Valuation) (ready : ReadyHere U o g values) (k : AreConstants (record { title = title; outside = o; region = region }) values) where
  abbrev P : Program
  P = program_in plain o g values

  abbrev step : Actor → Stand → LabelStep
  step v d = step_of P (extra_of g) v d (may_bind o P) (callable_for P)

  all_of : (s : State) → IsState P s → AllCanonical (vars P) s
  all_of s i = each_name (λ x. IsCanonical (s x)) (vars P) i

  of_all : (s : State) → AllCanonical (vars P) s → IsState P s
  of_all s i = each_from (λ x. IsCanonical (s x)) (vars P) (λ x m. i x (one_is_among (vars P) x m))

  module _ (s : State) (is : IsState P s) (v : Actor) (a : IsActor P v) where
    -- ---- the scope of a step

    identifier_canonical : (i : Value) → v.self ≡ Some i → IsCanonical i
    identifier_canonical i e = by g.main refl
      where
        by : (m : Main) → g.main ≡ m → IsCanonical i
        by (alone ss) d = absurd (no (sym e ∙ self_none P v ss d a))
          where
            no : Some i ≡ None → ⊥
            no z = cc
        by (processes ps) d =
            let all = subst ProperValue (set_there o g h title region values k s s ps a.0 d a.1) (eval_canonical plain value_kept process_set _ (names_sound o g h title region values k s s is is)) in
            subst IsCanonical (ap identifier e) (one_canonical v a.0 all.1 a.2)

    scope_canonical : (d : Stand) → Stance P v d → CanonicalScope (vars P) (written_scope P (extra_of g) v)
    scope_canonical d stance = record {
      scoped = (ready v d stance).stands.scoped;
      sound = λ t i. self_sound v.self identifier_canonical _ (scope_sound plain value_kept values (definitions_of P ++ extra_of g) (values_of (vars P) t) no_state k.canonical (canonical_in P t (of_all t i)) (λ x w e. cc));
    }

    -- ---- what a step meets

    -- trouble is a fault of the label's action
    pub trouble_faults : (d : Stand) → Stance P v d → (q : Trouble) → Has (course_of P v d s) (Err q) → (t : State) × IsState P t × IsBad (holds_on (vars P) (pair_env P (extra_of g) v) (action_of (vars P) (step v d)) s t)
    trouble_faults d stance q has =
        let stops = step_stops (step v d) (prepared_law o g h values k.unset v d stance) U (vars P) (pair_env P (extra_of g) v) none (ready v d stance) s s in
        let met = subst (λ (A : Type 0). A) (sym (outcome_is P (extra_of g) v d (may_bind o P) (callable_for P) refl (names_apart_law o g h values v d.routine a stance.routine) (names_given_law o g h values v d stance) s (Err q))) has in
        let bad = stops.1 (q, met) in
        let at = canonical_fault U (vars P) (pair_env P (extra_of g) v) (step v d) (ready v d stance) (scope_canonical d stance) s bad.0 (all_of s is) bad.2 in
        (at.0, of_all at.0 at.1, at.2)

    -- an end has canonical values
    pub end_canonical : (d : Stand) → Stance P v d → (t : State) → Goes P v d s t → IsState P t
    end_canonical d stance t goes =
        let r = ready v d stance in
        let to = steps_go P (extra_of g) v d (may_bind o P) (callable_for P) refl (names_apart_law o g h values v d.routine a stance.routine) (names_given_law o g h values v d stance) s t goes in
        let run = (close_step none (step v d) (prepared_law o g h values k.unset v d stance) s s).ends to.0 in
        let effects = runs_law (unlimited (step v d).rules) (is_among (vars P)) none (prepared_of (step v d)) (step v d).scope s s (Ok to.0) r.settled (λ x m p z. ([], r.stands.scoped.part x m p z)) in
        let ends = run_keeps (vars P) (effects_of plain (prepared_of (step v d))) (all_keep (vars P) U none (prepared_of (step v d)) r.settled r.fine) (step v d).scope s (Ok to.0) (scope_canonical d stance) (all_of s is) (effects.0 (run.1 to.1)) in
        of_all t (λ x m. subst IsCanonical (to.2 x m) (ends x m))
