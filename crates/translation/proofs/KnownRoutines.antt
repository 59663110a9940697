-- Bodies of an algorithm that uses names as it may: with macro calls written out, the procedures that they call exist, and their left sides are of globals or of variables of their own.
use Rattle.std.proofs.Common.{◌≡◌, ℕ, suc, List, [], ◌∷◌, ◌++◌, map, reverse, Bool, true, false, ◌||◌, cond, bytes_eq, codes, Some, ◌⊎◌, inl, inr, refl, sym, subst, ◌∙◌}
use Rattle.std.proofs.lemmas.Bool.{or_left, or_right}
use Rattle.std.proofs.lemmas.Grind.{reverse_onto}
use Rattle.std.specs.List.{flat_map, AllByRecursion}
use Rattle.tla_token.specs.Signs.{is_among}
use Rattle.tla_tree.specs.Tree.{Word, words}
use Rattle.tla_value.specs.Outside.{Outside}
use Rattle.tla_value.specs.StandardModules.{standard_table}
use Rattle.pcal_tree.specs.Algorithm.{locals, declares, Procedure, Process, Main, alone, processes, Routine, procedure_routine, process_routine, alone_routine, numbered, first_procedure, first_process, procedure_routines, main_routines, routines, Algorithm}
use Rattle.pcal_tree.specs.Expand.{expanded}
use Rattle.pcal_tree.specs.NameUses.{variable, Known, Sight, use_of, plain, hidden_name, known_standard, seeing_variables}
use Rattle.pcal_tree.specs.OffencesNames.{Calls, in_whole, in_declared, in_definitions, in_body, in_procedure, in_process, in_main, macro_offences, always_known, defined_inside, defined_outside, sight_outside, sight_inside, use_offences_of}
use Rattle.pcal_tree.specs.Processes.{OneOf}
use Rattle.pcal_tree.specs.Variables.{declared}
use Rattle.pcal_tree.proofs.RoutineNames.{one_either}
use Rattle.translation.specs.laws.WritableAlgorithm.{AreWritableStatements, is_procedure, is_variable}
use Rattle.translation.specs.laws.TypedAlgorithm.{AreTypedStatements, IsTypedMacro, IsTypedProcedure, IsTypedProcess, IsTypedMain, IsTypedAlgorithm}
use Rattle.translation.specs.laws.AssignedOnce.{AssignOnce}
use Rattle.translation.proofs.KnownStatements.{AreKnown, is_variable_use, assignable, all_more, all_once, statements_known}
use Rattle.pcal_tree.proofs.ClearLabels.{both_none}
use Rattle.pcal_tree.proofs.OneStand.{every_both}

-- ---- what is in scope

-- names that are no variables
past : {A : Type 0} (f : A → Known) → ((a : A) → is_variable_use (Some (f a).use_as) ≡ false) → (xs : List A) (s : Sight) (x : Word) → assignable (map f xs ++ s) x ≡ true → assignable s x ≡ true
past f n [] s x h = h
past f n (a ∷ xs) s x h = by (bytes_eq (f a).word x) h (past f n xs s x)
  where
    by : (b : Bool) → is_variable_use (cond b (Some (f a).use_as) (use_of (map f xs ++ s) x)) ≡ true → (assignable (map f xs ++ s) x ≡ true → assignable s x ≡ true) → assignable s x ≡ true
    by true q k = (let d = sym (n a) ∙ q in cc)
    by false q k = k q

none_left : {A : Type 0} (f : A → Known) → ((a : A) → is_variable_use (Some (f a).use_as) ≡ false) → (xs : List A) (x : Word) → assignable (map f xs) x ≡ true → ⊥
none_left f n [] x h = absurd cc
none_left f n (a ∷ xs) x h = by (bytes_eq (f a).word x) h (none_left f n xs x)
  where
    by : (b : Bool) → is_variable_use (cond b (Some (f a).use_as) (use_of (map f xs) x)) ≡ true → (assignable (map f xs) x ≡ true → ⊥) → ⊥
    by true q k = (let d = sym (n a) ∙ q in absurd cc)
    by false q k = k q

declared_or : (xs : List Word) (s : Sight) (x : Word) → assignable (seeing_variables xs s) x ≡ true → (is_among xs x || assignable s x) ≡ true
declared_or [] s x h = h
declared_or (w ∷ xs) s x h = by (bytes_eq w x) h (declared_or xs s x)
  where
    by : (b : Bool) → is_variable_use (cond b (Some variable) (use_of (seeing_variables xs s) x)) ≡ true → (assignable (seeing_variables xs s) x ≡ true → (is_among xs x || assignable s x) ≡ true) → ((b || is_among xs x) || assignable s x) ≡ true
    by true q k = refl
    by false q k = k q

outside_none : (o : Outside) (x : Word) → assignable (sight_outside o) x ≡ true → ⊥
outside_none o x h =
    let a = past hidden_name (λ w. refl) (flat_map (λ u. u.names) o.opaque) (map plain (words o.constants) ++ (map defined_outside (reverse o.definitions) ++ always_known o.extended)) x h in
    let b = past plain (λ w. refl) (words o.constants) (map defined_outside (reverse o.definitions) ++ always_known o.extended) x a in
    let c = past defined_outside (λ d. refl) (reverse o.definitions) (always_known o.extended) x b in
    let d = past plain (λ w. refl) (codes "self" ∷ []) (map (known_standard o.extended) standard_table) x c in
    none_left (known_standard o.extended) (λ n. refl) standard_table x d

globals_inside : (a : Algorithm) (o : Outside) (x : Word) → assignable (sight_inside a o) x ≡ true → declares a.globals x ≡ true
globals_inside a o x h =
    by (is_among (declared a.globals) x) (declared_or (declared a.globals) (sight_outside o) x (past defined_inside (λ d. refl) (reverse a.definitions) (seeing_variables (declared a.globals) (sight_outside o)) x h))
  where
    by : (b : Bool) → (b || assignable (sight_outside o) x) ≡ true → b ≡ true
    by true q = refl
    by false q = absurd (outside_none o x q)

variables_inside : (a : Algorithm) (o : Outside) (u : Routine) (x : Word) → assignable (seeing_variables (declared (locals u)) (sight_inside a o)) x ≡ true → is_variable a u x ≡ true
variables_inside a o u x h = by (declares (locals u) x) (declared_or (declared (locals u)) (sight_inside a o) x h)
  where
    by : (b : Bool) → (b || assignable (sight_inside a o) x) ≡ true → (declares a.globals x || b) ≡ true
    by true q = or_right (declares a.globals x) true refl
    by false q = or_left (declares a.globals x) false (globals_inside a o x q)

-- ---- bodies

pub reversed : {X : Type 0} (P : X → Type 0) (xs : List X) → AllByRecursion P xs → AllByRecursion P (reverse xs)
reversed P [] h = tt
reversed P (x ∷ xs) h = subst (AllByRecursion P) (sym (reverse_onto xs x [])) (every_both P (reverse xs) (x ∷ []) (reversed P xs h.1) (h.0, tt))

-- of a routine, with macro calls written out
abbrev IsKnownRoutine : Algorithm → Routine → Type 0
IsKnownRoutine a u = AreKnown (is_procedure a) (is_variable a u) (expanded (reverse a.macros) u.body)

module _ (a : Algorithm) (o : Outside) (macros : AllByRecursion IsTypedMacro a.macros) where
  abbrev calls : Calls
  calls = macro_offences (reverse a.macros) a.procedures

  body_known : (u : Routine) → AreTypedStatements u.body → in_body calls a.procedures u.body (seeing_variables (declared (locals u)) (sight_inside a o)) ≡ [] → IsKnownRoutine a u
  body_known u h q =
      all_more (is_procedure a) (assignable (seeing_variables (declared (locals u)) (sight_inside a o))) (is_variable a u) (variables_inside a o u) (expanded (reverse a.macros) u.body)
      (statements_known a.procedures (reverse a.macros) (reversed IsTypedMacro a.macros macros) (seeing_variables (declared (locals u)) (sight_inside a o)) u.body h q)

  procedures_known : (n : ℕ) (ps : List Procedure) → AllByRecursion IsTypedProcedure ps → flat_map (in_procedure calls a.procedures (sight_inside a o)) ps ≡ [] → (u : Routine) → OneOf u (numbered procedure_routine n ps) → IsKnownRoutine a u
  procedures_known n [] h q u k = absurd k
  procedures_known n (p ∷ ps) h q u (inl e) =
      let r = both_none (in_procedure calls a.procedures (sight_inside a o) p) _ q in
      let b = both_none (in_declared (p.params ++ p.variables) (seeing_variables (declared (p.params ++ p.variables)) (sight_inside a o))) _ r.0 in
      subst (IsKnownRoutine a) (sym e) (body_known (procedure_routine n p) h.0.3.1 b.1)
  procedures_known n (p ∷ ps) h q u (inr k) = procedures_known (suc n) ps h.1 (both_none (in_procedure calls a.procedures (sight_inside a o) p) _ q).1 u k

  processes_known : (n : ℕ) (ps : List Process) → AllByRecursion IsTypedProcess ps → flat_map (in_process calls a.procedures (sight_inside a o)) ps ≡ [] → (u : Routine) → OneOf u (numbered process_routine n ps) → IsKnownRoutine a u
  processes_known n [] h q u k = absurd k
  processes_known n (p ∷ ps) h q u (inl e) =
      let r = both_none (in_process calls a.procedures (sight_inside a o) p) _ q in
      let b = both_none (in_declared p.variables (seeing_variables (declared p.variables) (sight_inside a o))) _ (both_none (in_whole p.identity (sight_inside a o)) _ r.0).1 in
      subst (IsKnownRoutine a) (sym e) (body_known (process_routine n p) h.0.3.1 b.1)
  processes_known n (p ∷ ps) h q u (inr k) = processes_known (suc n) ps h.1 (both_none (in_process calls a.procedures (sight_inside a o) p) _ q).1 u k

  main_known : (m : Main) → IsTypedMain m → in_main calls a.procedures (sight_inside a o) m ≡ [] → (u : Routine) → OneOf u (main_routines a m) → IsKnownRoutine a u
  main_known (alone b) h q u (inl e) = subst (IsKnownRoutine a) (sym e) (body_known (alone_routine a b) h.1 q)
  main_known (alone b) h q u (inr k) = absurd k
  main_known (processes []) h q u k = absurd h
  main_known (processes (p ∷ ps)) h q u k = processes_known (first_process a) (p ∷ ps) h q u k

pub routine_known : (a : Algorithm) (o : Outside) → IsTypedAlgorithm a → use_offences_of a o ≡ [] → (u : Routine) → OneOf u (routines a) → IsKnownRoutine a u
routine_known a o h q u k =
    let K = macro_offences (reverse a.macros) a.procedures in
    let d = (both_none (in_declared a.globals (sight_inside a o)) _ q).1 in
    let e = (both_none (in_definitions a.definitions (seeing_variables (declared a.globals) (sight_outside o))) _ d).1 in
    let r = both_none (flat_map (in_procedure K a.procedures (sight_inside a o)) a.procedures) _ e in
    by r.0 r.1 (one_either u (procedure_routines a) (main_routines a a.main) k)
  where
    by : flat_map (in_procedure (macro_offences (reverse a.macros) a.procedures) a.procedures (sight_inside a o)) a.procedures ≡ [] → in_main (macro_offences (reverse a.macros) a.procedures) a.procedures (sight_inside a o) a.main ≡ []
        → OneOf u (procedure_routines a) ⊎ OneOf u (main_routines a a.main) → IsKnownRoutine a u
    by r m (inl c) = procedures_known a o h.macros (first_procedure a) a.procedures h.procedures r u c
    by r m (inr c) = main_known a o h.macros a.main h.main m u c

-- where no statement assigns a variable beside a part of it
pub routine_written : (a : Algorithm) (o : Outside) → IsTypedAlgorithm a → use_offences_of a o ≡ [] → (u : Routine) → OneOf u (routines a) → AssignOnce (expanded (reverse a.macros) u.body)
    → AreWritableStatements (is_procedure a) (is_variable a u) (expanded (reverse a.macros) u.body)
routine_written a o h q u k once = all_once (is_procedure a) (is_variable a u) (expanded (reverse a.macros) u.body) (routine_known a o h q u k) once
