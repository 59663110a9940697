-- What holds of an algorithm's steps and names holds of the algorithm with its macro calls written out, whose macros stay in it.
use Rattle.std.proofs.Common.{◌≡◌, ◌≤◌, length, List, [], ◌∷◌, map, reverse, ◌⊎◌, inl, inr, refl, sym, subst, ap, ◌∙◌}
use Rattle.tla_token.specs.Signs.{is_among}
use Rattle.tla_tree.specs.Tree.{Word}
use Rattle.tla_value.specs.Outside.{Outside}
use Rattle.pcal_tree.specs.Algorithm.{locals, Statements, Procedure, Routine, procedure_routines, main_routines, routines, Algorithm}
use Rattle.pcal_tree.specs.Calls.{routine_named}
use Rattle.pcal_tree.specs.Expand.{graft_all, expanded}
use Rattle.pcal_tree.specs.OffencesLabels.{label_offences}
use Rattle.pcal_tree.specs.OffencesOfNames.{name_offences}
use Rattle.pcal_tree.specs.Processes.{OneOf}
use Rattle.pcal_tree.specs.Program.{Program}
use Rattle.pcal_tree.specs.Run.{unlabelled}
use Rattle.pcal_tree.specs.Variables.{declared, vars}
use Rattle.pcal_tree.proofs.RoutineNames.{one_either}
use Rattle.pcal_tree.proofs.TroubleLaws.{one_left, one_right}
use Rattle.action_builder.specs.WrittenNames.{with_names, renames}
use Rattle.action_builder.specs.laws.Ready.{LeftSides}
use Rattle.name_bits.specs.NamesIn.{AllApart, most}
use Rattle.step_forms.specs.Opened.{opened, opened_program, opened_routine}
use Rattle.step_forms.specs.Steps.{Step, steps}
use Rattle.step_forms.proofs.OpenedRoutines.{procedures_opened, mains_opened, opened_option, named_opened, vars_opened}
use Rattle.translation.specs.laws.WritableAlgorithm.{IsWritableAlgorithm}
use Rattle.build_premises.specs.Buildable.{IsNamed, HasOne, buildable, Buildable, SettledFor}
use Rattle.build_premises.proofs.BuiltSteps.{step_built}
use Rattle.build_premises.proofs.JumpsSettled.{buildable_settled}
use Rattle.build_premises.proofs.PartsLaws.{less}
use Rattle.build_premises.proofs.VariablesApart.{variables_apart, locals_apart, procedures_apart}

-- ---- routines

one_mapped : (f : Routine → Routine) (u : Routine) (us : List Routine) → OneOf u (map f us) → (v : Routine) × OneOf v us × (u ≡ f v)
one_mapped f u [] k = absurd k
one_mapped f u (v ∷ us) (inl e) = (v, inl refl, e)
one_mapped f u (v ∷ us) (inr k) = (let r = one_mapped f u us k in (r.0, inr r.1, r.2))

-- each is one of the algorithm with its macro calls written out
pub routine_opened : (a : Algorithm) (u : Routine) → OneOf u (routines (opened a)) → (v : Routine) × OneOf v (routines a) × (u ≡ opened_routine a v)
routine_opened a u k = by (one_either u (procedure_routines (opened a)) (main_routines (opened a) (opened a).main) k)
  where
    by : OneOf u (procedure_routines (opened a)) ⊎ OneOf u (main_routines (opened a) (opened a).main) → (v : Routine) × OneOf v (routines a) × (u ≡ opened_routine a v)
    by (inl m) =
        let r = one_mapped (opened_routine a) u (procedure_routines a) (subst (OneOf u) (procedures_opened a) m) in
        (r.0, one_left r.0 (procedure_routines a) (main_routines a a.main) r.1, r.2)
    by (inr m) =
        let r = one_mapped (opened_routine a) u (main_routines a a.main) (subst (OneOf u) (mains_opened a a.main) m) in
        (r.0, one_right r.0 (procedure_routines a) (main_routines a a.main) r.1, r.2)

-- ---- statements

module _ (P : Program) where
  abbrev us : List Routine
  us = procedure_routines P.algorithm

  abbrev ws : List Routine
  ws = procedure_routines (opened P.algorithm)

  named_still : (x : Word) → IsNamed us x → IsNamed ws x
  named_still x h = (opened_routine P.algorithm h.0, ap (routine_named x) (procedures_opened P.algorithm) ∙ named_opened P.algorithm x us ∙ ap (opened_option P.algorithm) h.1)

  some_still : HasOne us → HasOne ws
  some_still h = subst HasOne (sym (procedures_opened P.algorithm)) (by us h)
    where
      by : (vs : List Routine) → HasOne vs → HasOne (map (opened_routine P.algorithm) vs)
      by [] k = k
      by (v ∷ vs) k = k

  pub buildable_opened : (ss : Statements) → Buildable P ss → Buildable (opened_program P) ss
  buildable_opened ss h =
      less (buildable P) (buildable (opened_program P)) (λ ms k. subst (λ (xs : List Word). LeftSides (is_among xs) ms) (sym (vars_opened P)) k) (λ x k. k) (λ p k. named_still p.word k) some_still (λ k. k) ss h

-- ---- steps and names

module _ (o : Outside) (g : Algorithm) (h : IsWritableAlgorithm o g) where
  abbrev P : Program
  P = with_names o g

  abbrev Q : Program
  Q = opened_program (with_names o g)

  module _ (labels : label_offences g ≡ []) (u : Routine) (there : OneOf u (routines (opened g))) (s : Step) (listed : OneOf s (steps unlabelled u.body u.exit)) where
    pub opened_built : Buildable Q (graft_all (renames Q u) s.begins.items)
    opened_built =
        let r = routine_opened g u there in
        subst (λ (w : Routine). Buildable Q (graft_all (renames Q w) s.begins.items)) (sym r.2)
        (buildable_opened P (graft_all (renames P r.0) s.begins.items)
        (step_built o g h labels r.0 r.1 s (subst (λ (w : Routine). OneOf s (steps unlabelled w.body w.exit)) r.2 listed)))

    pub opened_settled : SettledFor Q u s.label s.begins.exit (graft_all (renames Q u) s.begins.items)
    opened_settled = buildable_settled Q u there s.label s.begins.exit (graft_all (renames Q u) s.begins.items) opened_built

  pub opened_variables : name_offences g o ≡ [] → AllApart (vars Q)
  opened_variables names = subst AllApart (sym (vars_opened P)) (variables_apart o g h names)

  pub opened_locals : (u : Routine) → OneOf u (routines (opened g)) → AllApart (declared (locals u))
  opened_locals u k =
      let r = routine_opened g u k in
      subst (λ (w : Routine). AllApart (declared (locals w))) (sym r.2) (locals_apart o g h r.0 r.1)

pub opened_procedures : (o : Outside) (g : Algorithm) → name_offences g o ≡ [] → AllApart (map (λ (p : Procedure). p.name.word) (opened g).procedures)
opened_procedures o g e = subst AllApart (sym (same g.procedures)) (procedures_apart o g e)
  where
    same : (ps : List Procedure) → map (λ (p : Procedure). p.name.word) (map (λ (p : Procedure). record { name = p.name; params = p.params; variables = p.variables; body = expanded (reverse g.macros) p.body }) ps) ≡ map (λ (p : Procedure). p.name.word) ps
    same [] = refl
    same (p ∷ ps) = ap (λ (xs : List Word). p.name.word ∷ xs) (same ps)

pub opened_few : (P : Program) → length (vars P) ≤ most → length (vars (opened_program P)) ≤ most
opened_few P h = subst (λ (xs : List Word). length xs ≤ most) (sym (vars_opened P)) h
