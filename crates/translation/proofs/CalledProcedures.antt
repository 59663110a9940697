-- The procedures of an algorithm that can be written: those that are called, their numbers, and what is written for their calls.
use Rattle.std.proofs.Common.{◌≡◌, ℕ, suc, ◌+◌, ◌<◌, ◌≤◌, length, List, [], ◌∷◌, Bool, true, false, ◌||◌, cond, bytes_eq, map, reverse, Some, ◌⊎◌, inl, inr, refl, sym, ap, subst, ◌∙◌, arith}
use Rattle.std.specs.List.{AllByRecursion}
use Rattle.std.proofs.lemmas.Bool.{eqb-true}
use Rattle.tla_token.specs.Signs.{is_among}
use Rattle.tla_tree.specs.Tree.{Word, Tree}
use Rattle.tla_tree.specs.laws.Writable.{IsIdentifier, IsString, IsWritable}
use Rattle.tla_value.specs.Outside.{Outside}
use Rattle.module_tree.specs.Formulas.{unset_value}
use Rattle.pcal_tree.specs.Algorithm.{Start, unset, equals, among, Declaration, declares, locals, Procedure, Process, Main, alone, processes, Routine, procedure_routine, process_routine, numbered, first_procedure, first_process, procedure_routines, main_routines, routines, Algorithm}
use Rattle.pcal_tree.specs.Expand.{written_out}
use Rattle.pcal_tree.specs.Calls.{first_label, routine_named}
use Rattle.pcal_tree.specs.Processes.{OneOf}
use Rattle.pcal_tree.specs.Program.{Program}
use Rattle.pcal_tree.proofs.RoutineNames.{one_either}
use Rattle.pcal_tree.proofs.TroubleLaws.{one_left, one_right}
use Rattle.action_builder.specs.LabelActions.{initial_tree, written_initials}
use Rattle.action_builder.specs.WrittenNames.{with_names, renames, renamed}
use Rattle.action_builder.proofs.FitTrees.{fit_writable, writable_fits, graft_fits}
use Rattle.action_builder.proofs.FitCalls.{CalledFits, ProceduresFit}
use Rattle.translation.specs.laws.WritableAlgorithm.{is_procedure, is_variable, IsWritableStart, IsWritableDeclaration, IsWritableAlgorithm}
use Rattle.translation.proofs.WritableBodies.{label_string}
use Rattle.translation.proofs.NamedBodies.{renames_put}
use Rattle.translation.proofs.RoutinesNamed.{variables_named, names_fit, label_name_string}
use Rattle.pcal_tree.proofs.StepVariables.{named_one}

-- ---- numbers

module _ {A : Type 0} (f : ℕ → A → Routine) (numbers : (n : ℕ) (x : A) → (f n x).number ≡ n) where
  number_from : (n : ℕ) (xs : List A) (u : Routine) → OneOf u (numbered f n xs) → (n ≤ u.number) × (u.number < n + length xs)
  number_from n [] u h = absurd h
  number_from n (x ∷ xs) u (inl e) = (let q : u.number ≡ n = ap (λ (v : Routine). v.number) e ∙ numbers n x in (omega (arith, q), omega (arith, q)))
  number_from n (x ∷ xs) u (inr h) = (let q = number_from (suc n) xs u h in let r = q.0 in let s = q.1 in (omega (arith, r), omega (arith, s)))

  one_number : (n : ℕ) (xs : List A) (u v : Routine) → OneOf u (numbered f n xs) → OneOf v (numbered f n xs) → u.number ≡ v.number → u ≡ v
  one_number n [] u v h k e = absurd h
  one_number n (x ∷ xs) u v (inl p) (inl q) e = p ∙ sym q
  one_number n (x ∷ xs) u v (inl p) (inr q) e =
      let r : u.number ≡ n = ap (λ (w : Routine). w.number) p ∙ numbers n x in
      let s = (number_from (suc n) xs v q).0 in
      absurd (omega (arith, r, s, e))
  one_number n (x ∷ xs) u v (inr p) (inl q) e =
      let r : v.number ≡ n = ap (λ (w : Routine). w.number) q ∙ numbers n x in
      let s = (number_from (suc n) xs u p).0 in
      absurd (omega (arith, r, s, e))
  one_number n (x ∷ xs) u v (inr p) (inr q) e = one_number (suc n) xs u v p q e

module _ (a : Algorithm) where
  procedure_number : (u : Routine) → OneOf u (procedure_routines a) → u.number < first_process a
  procedure_number u h = (number_from procedure_routine (λ n x. refl) (first_procedure a) a.procedures u h).1

  main_number : (m : Main) (u : Routine) → OneOf u (main_routines a m) → first_process a ≤ u.number
  main_number (alone ss) u (inl e) = (let q : u.number ≡ first_process a = ap (λ (v : Routine). v.number) e in omega (arith, q))
  main_number (alone ss) u (inr h) = absurd h
  main_number (processes ps) u h = (number_from process_routine (λ n x. refl) (first_process a) ps u h).0

  pub same_routine : (u p : Routine) → OneOf u (routines a) → OneOf p (procedure_routines a) → u.number ≡ p.number → u ≡ p
  same_routine u p h k e = by (one_either u (procedure_routines a) (main_routines a a.main) h)
    where
      by : OneOf u (procedure_routines a) ⊎ OneOf u (main_routines a a.main) → u ≡ p
      by (inl q) = one_number procedure_routine (λ n x. refl) (first_procedure a) a.procedures u p q k e
      by (inr q) =
          let r = main_number a.main u q in
          let s = procedure_number p k in
          absurd (omega (arith, r, s, e))

  -- ---- procedures of a name

  named_from : (n : ℕ) (ps : List Procedure) (x : Word) → is_among (map (λ (p : Procedure). p.name.word) ps) x ≡ true → (p : Routine) × (routine_named x (numbered procedure_routine n ps) ≡ Some p)
  named_from n [] x e = absurd (true_false (sym e))
    where
      true_false : true ≡ false → ⊥
      true_false q = cc
  named_from n (p ∷ ps) x e = by (named_from (suc n) ps x) (bytes_eq p.name.word x) e
    where
      by : (is_among (map (λ (q : Procedure). q.name.word) ps) x ≡ true → (p : Routine) × (routine_named x (numbered procedure_routine (suc n) ps) ≡ Some p)) → (b : Bool) → (b || is_among (map (λ (q : Procedure). q.name.word) ps) x) ≡ true
          → (r : Routine) × (cond b (Some (procedure_routine n p)) (routine_named x (numbered procedure_routine (suc n) ps)) ≡ Some r)
      by f true d = (procedure_routine n p, refl)
      by f false d = f d

  pub is_called : (x : Word) → is_procedure a x ≡ true → (p : Routine) × (routine_named x (procedure_routines a) ≡ Some p)
  is_called x e = named_from (first_procedure a) a.procedures x e

  exit_from : (n : ℕ) (ps : List Procedure) (u : Routine) → OneOf u (numbered procedure_routine n ps) → IsString u.exit
  exit_from n [] u h = absurd h
  exit_from n (p ∷ ps) u (inl e) = subst (λ (v : Routine). IsString v.exit) (sym e) refl
  exit_from n (p ∷ ps) u (inr h) = exit_from (suc n) ps u h

  process_exit : (n : ℕ) (ps : List Process) (u : Routine) → OneOf u (numbered process_routine n ps) → IsString u.exit
  process_exit n [] u h = absurd h
  process_exit n (p ∷ ps) u (inl e) = subst (λ (v : Routine). IsString v.exit) (sym e) refl
  process_exit n (p ∷ ps) u (inr h) = process_exit (suc n) ps u h

  main_exit : (m : Main) (u : Routine) → OneOf u (main_routines a m) → IsString u.exit
  main_exit (alone ss) u (inl e) = subst (λ (v : Routine). IsString v.exit) (sym e) refl
  main_exit (alone ss) u (inr h) = absurd h
  main_exit (processes ps) u h = process_exit (first_process a) ps u h

  pub exit_string : (u : Routine) → OneOf u (routines a) → IsString u.exit
  exit_string u h = by (one_either u (procedure_routines a) (main_routines a a.main) h)
    where
      by : OneOf u (procedure_routines a) ⊎ OneOf u (main_routines a a.main) → IsString u.exit
      by (inl q) = exit_from (first_procedure a) a.procedures u q
      by (inr q) = main_exit a.main u q

pub one_declared : (ds : List Declaration) → AllByRecursion IsWritableDeclaration ds → (d : Declaration) → OneOf d ds → IsWritableDeclaration d
one_declared [] h d k = absurd k
one_declared (e ∷ ds) h d (inl q) = subst IsWritableDeclaration (sym q) h.0
one_declared (e ∷ ds) h d (inr k) = one_declared ds h.1 d k

unset_writable : IsWritable unset_value
unset_writable = (refl, (((refl, refl), refl), tt), tt, tt, tt)

module _ (o : Outside) (a : Algorithm) (h : IsWritableAlgorithm o a) where
  abbrev program : Program
  program = with_names o a

  pub renamed_writable : (u : Routine) → OneOf u (routines a) → (e : Tree) → IsWritable e → IsWritable (renamed program u e)
  renamed_writable u k e w =
      fit_writable (renamed program u e)
      (graft_fits IsIdentifier IsIdentifier (renames program u) (renames_put program u (λ x. declares a.globals x) (variables_named o a h u k)) e (writable_fits IsIdentifier (λ x i. i) e w))

  initial_writable : (u : Routine) → OneOf u (routines a) → (s : Start) → IsWritableStart s → IsWritable (initial_tree program u s)
  initial_writable u k unset w = unset_writable
  initial_writable u k (equals e) w = renamed_writable u k e w
  initial_writable u k (among e) w = unset_writable

  called_fits : (p : Routine) → OneOf p (procedure_routines a) → CalledFits program (written_initials program) p
  called_fits p q =
      let k = one_left p (procedure_routines a) (main_routines a a.main) q in
      record {
        names = names_fit o a h p k;
        label = label_name_string o a h p (first_label p) (label_string (is_procedure a) (is_variable a p) (written_out (reverse a.macros)) p.body p.exit (h.routines p k).body (exit_string a p k));
        initials = λ d l. initial_writable p k d.start (one_declared (locals p) (h.routines p k).locals d (one_right d p.params p.variables l)).1;
      }

  pub procedures_fit : (u : Routine) → OneOf u (routines a) → ProceduresFit program (written_initials program) u
  procedures_fit u k = record {
    own = names_fit o a h u k;
    called = λ x p e. called_fits p (named_one x (procedure_routines a) p e);
    same = λ x p e q. same_routine a u p k (named_one x (procedure_routines a) p e) (eqb-true u.number p.number q);
  }
