-- A process in a prepared routine: its names are variables of the translation.
use Rattle.std.proofs.Common.{◌≡◌, ◌⊎◌, inl, inr, List, [], ◌∷◌, ◌++◌, map, true, refl, sym, ap, subst, ◌∙◌}
use Rattle.tla_token.specs.Signs.{is_among}
use Rattle.tla_tree.specs.Tree.{Word, Each}
use Rattle.pcal_tree.specs.Algorithm.{Declaration, Routine, locals, routines, procedure_routines, main_routines}
use Rattle.pcal_tree.specs.Processes.{OneOf}
use Rattle.pcal_tree.specs.Program.{Program}
use Rattle.pcal_tree.specs.Variables.{declared, written_all, written_by_all, vars}
use Rattle.written_names.specs.Units.{naming_of}
use Rattle.step_moves.specs.Programs.{program_at}
use Rattle.step_spots.specs.declared.routine.Routine as spots
use Rattle.step_moves.specs.Prepared.{prepared_declarations}
use Rattle.step_moves.specs.Runners.{names_of, written_names}
use Rattle.step_moves.proofs.PreparedLaws.{names_alike}
use Rattle.step_moves.proofs.EntryForms.{locals_at}
use Rattle.step_meaning.proofs.RoutineLaws.{procedures_among, processes_among}
use Rattle.step_meaning.specs.declared.stage.Stage.{Stage}
use Rattle.step_meaning.specs.Stages.{IsPrepared}

-- ---- one of some routines

pub one_before : (u : Routine) (us vs : List Routine) → OneOf u us → OneOf u (us ++ vs)
one_before u (v ∷ us) vs (inl e) = inl e
one_before u (v ∷ us) vs (inr h) = inr (one_before u us vs h)
one_before u [] vs h = absurd h

pub one_behind : (u : Routine) (us vs : List Routine) → OneOf u vs → OneOf u (us ++ vs)
one_behind u [] vs h = h
one_behind u (v ∷ us) vs h = inr (one_behind u us vs h)

later : (u v : Routine) (us vs : List Routine) → OneOf u us ⊎ OneOf u vs → OneOf u (v ∷ us) ⊎ OneOf u vs
later u v us vs (inl h) = inl (inr h)
later u v us vs (inr h) = inr h

one_of_two : (u : Routine) (us vs : List Routine) → OneOf u (us ++ vs) → OneOf u us ⊎ OneOf u vs
one_of_two u [] vs h = inr h
one_of_two u (v ∷ us) vs (inl e) = inl (inl e)
one_of_two u (v ∷ us) vs (inr h) = later u v us vs (one_of_two u us vs h)

-- ---- their names

each_left : (N : Word → Type 0) (xs ys : List Word) → Each N (xs ++ ys) → Each N xs
each_left N [] ys h = tt
each_left N (x ∷ xs) ys h = (h.0, each_left N xs ys h.1)

each_right : (N : Word → Type 0) (xs ys : List Word) → Each N (xs ++ ys) → Each N ys
each_right N [] ys h = h
each_right N (x ∷ xs) ys h = each_right N xs ys h.1

names_of_one : (N : Word → Type 0) (P : Program) (us : List Routine) → Each N (written_by_all P us) → (u : Routine) → OneOf u us → Each N (written_all P u (locals u))
names_of_one N P [] h u k = absurd k
names_of_one N P (v ∷ us) h u (inl e) = subst (λ (w : Routine). Each N (written_all P w (locals w))) (sym e) (each_left N (written_all P v (locals v)) (written_by_all P us) h)
names_of_one N P (v ∷ us) h u (inr k) = names_of_one N P us (each_right N (written_all P v (locals v)) (written_by_all P us) h) u k

abbrev IsVariable : Program → Word → Type 0
IsVariable P x = is_among (vars P) x ≡ true

known_by : (P : Program) (u : Routine) → OneOf u (procedure_routines P.algorithm) ⊎ OneOf u (main_routines P.algorithm P.algorithm.main) → Each (IsVariable P) (written_all P u (locals u))
known_by P u (inl h) = names_of_one (IsVariable P) P (procedure_routines P.algorithm) (procedures_among P) u h
known_by P u (inr h) = names_of_one (IsVariable P) P (main_routines P.algorithm P.algorithm.main) (processes_among P) u h

known : (P : Program) (u : Routine) → OneOf u (routines P.algorithm) → Each (IsVariable P) (written_all P u (locals u))
known P u h = known_by P u (one_of_two u (procedure_routines P.algorithm) (main_routines P.algorithm P.algorithm.main) h)

-- ---- a prepared routine

declared_alike : (P : Program) (u : Routine) (ds : List Declaration) → declared (prepared_declarations P u ds) ≡ declared ds
declared_alike P u [] = refl
declared_alike P u (d ∷ ds) = ap (λ (xs : List Word). d.name.word ∷ xs) (declared_alike P u ds)

both_alike : (P : Program) (u : Routine) (ps ds : List Declaration) → declared (prepared_declarations P u ps ++ prepared_declarations P u ds) ≡ declared (ps ++ ds)
both_alike P u [] ds = declared_alike P u ds
both_alike P u (p ∷ ps) ds = ap (λ (xs : List Word). p.name.word ∷ xs) (both_alike P u ps ds)

pub prepared_names : (g : Stage) (r : spots.Routine) (u : Routine) → IsPrepared g r u → declared (locals u) ≡ names_of r.params.now ++ names_of r.variables.now
prepared_names g r u h =
    sym (both_alike (program_at g.program) u u.params u.variables) ∙ ap (λ (w : Routine). declared (locals w)) (sym h.prepared) ∙ locals_at g.program.pool.now r.params.now r.variables.now

pub prepared_known : (g : Stage) (r : spots.Routine) (u : Routine) → IsPrepared g r u → Each (λ x. is_among (vars (program_at g.program)) x ≡ true) (written_names g.program r)
prepared_known g r u h =
    let P = program_at g.program in
    subst (Each (IsVariable P))
    (sym (names_alike P u) ∙ ap (λ (w : Routine). written_all P w (locals w)) (sym h.prepared) ∙ ap (map ((naming_of g.program.naming.now).local r.number)) (locals_at g.program.pool.now r.params.now r.variables.now))
    (known P u h.one_of)
