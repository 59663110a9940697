-- A routine's own names are in scope nowhere around it, and the number of a process is no procedure's.
use Rattle.std.proofs.Common.{◌≡◌, ◌≤◌, ◌<◌, ℕ, suc, ◌+◌, length, List, [], ◌∷◌, ◌++◌, reverse, true, false, ◌&&◌, not, ◌⊎◌, inl, inr, refl, sym, ap, subst, ◌∙◌, arith}
use Rattle.std.specs.List.{flat_map}
use Rattle.tla_token.specs.declared.rule.Rule.TheVariants.{Rebind}
use Rattle.tla_tree.specs.Tree.{Word, Each}
use Rattle.tla_value.specs.Outside.{Outside}
use Rattle.pcal_tree.specs.Algorithm.{Declaration, declares, Procedure, Process, Main, alone, processes, Routine, locals, procedure_routine, process_routine, numbered, first_procedure, first_process, procedure_routines, main_routines, routines, Algorithm}
use Rattle.pcal_tree.specs.OffencesNames.{names_of}
use Rattle.pcal_tree.specs.OffencesRebind.{in_scope, may_rebind, standing_inside, standing_outside, any_name, Standings, rebound, rebound_all, starts_rebind, definitions_rebind, texts_rebind, macro_rebinds, locals_rebind, procedure_rebinds, process_rebinds, main_rebinds, whole_rebinds, rebind_offences_of}
use Rattle.pcal_tree.specs.Processes.{OneOf}
use Rattle.pcal_tree.specs.Variables.{declared}
use Rattle.pcal_tree.proofs.ClearLabels.{both_none}
use Rattle.pcal_tree.proofs.RoutineNames.{one_either}
use Rattle.translation.specs.laws.AcceptedAlgorithm.{IsAcceptedInFile}
use Rattle.translation.proofs.AcceptedNames.{no_offence}
use Rattle.translation.proofs.NamesApart.{false_among, never, free}
use Rattle.translation.proofs.NamesOfRules.{Unreserved, rules_of_names}
use Rattle.action_builder.proofs.Names.{each_name}

-- ---- numbers

number_from : {A : Type 0} (f : ℕ → A → Routine) → ((n : ℕ) (x : A) → (f n x).number ≡ n) → (n : ℕ) (xs : List A) (u : Routine) → OneOf u (numbered f n xs) → (n ≤ u.number) × (u.number < n + length xs)
number_from f is n [] u h = absurd h
number_from f is n (x ∷ xs) u (inl e) = (let q : u.number ≡ n = ap (λ (v : Routine). v.number) e ∙ is n x in (omega (arith, q), omega (arith, q)))
number_from f is n (x ∷ xs) u (inr h) = (let q = number_from f is (suc n) xs u h in let r = q.0 in let s = q.1 in (omega (arith, r), omega (arith, s)))

main_from : (a : Algorithm) (m : Main) (u : Routine) → OneOf u (main_routines a m) → first_process a ≤ u.number
main_from a (alone ss) u (inl e) = (let q : u.number ≡ first_process a = ap (λ (v : Routine). v.number) e in omega (arith, q))
main_from a (alone ss) u (inr h) = absurd h
main_from a (processes ps) u h = (number_from process_routine (λ n x. refl) (first_process a) ps u h).0

pub main_apart : (a : Algorithm) (u p : Routine) → OneOf u (main_routines a a.main) → OneOf p (procedure_routines a) → u.number ≡ p.number → ⊥
main_apart a u p k m e =
    let r = main_from a a.main u k in
    let s = (number_from procedure_routine (λ n x. refl) (first_procedure a) a.procedures p m).1 in
    absurd (omega (arith, r, s, e))

-- ---- names

-- of names that nothing bound again, each is free
each_new : (ext : List Word) (s : Standings) (es : List Declaration) → rebound_all ext s (names_of es) ≡ [] → (x : Word) → declares es x ≡ true → (in_scope s x && may_rebind ext x) ≡ false
each_new ext s es e x m = each_name (λ y. (in_scope s y && may_rebind ext y) ≡ false) (declared es) (new es e) x m
  where
    new : (es : List Declaration) → rebound_all ext s (names_of es) ≡ [] → Each (λ y. (in_scope s y && may_rebind ext y) ≡ false) (declared es)
    new [] e = tt
    new (d ∷ ds) e = (let k = both_none (rebound ext s d.name) (rebound_all ext s (names_of ds)) e in (no_offence (in_scope s d.name.word && may_rebind ext d.name.word) Rebind d.name.place k.0, new ds k.1))

module _ (o : Outside) (a : Algorithm) where
  abbrev New : Routine → Type 0
  New u = rebound_all o.extended (standing_inside a o) (names_of (locals u)) ≡ []

  procedures_new : (n : ℕ) (ps : List Procedure) → flat_map (procedure_rebinds o.extended a.procedures (macro_rebinds o.extended a.procedures (reverse a.macros)) (standing_inside a o)) ps ≡ [] → (u : Routine) → OneOf u (numbered procedure_routine n ps) → New u
  procedures_new n [] q u k = absurd k
  procedures_new n (p ∷ ps) q u (inl e) =
      let r = both_none (procedure_rebinds o.extended a.procedures (macro_rebinds o.extended a.procedures (reverse a.macros)) (standing_inside a o) p) _ q in
      subst New (sym e) (both_none (rebound_all o.extended (standing_inside a o) (names_of (p.params ++ p.variables))) _ (both_none (locals_rebind o.extended (p.params ++ p.variables) (standing_inside a o)) _ r.0).0).0
  procedures_new n (p ∷ ps) q u (inr k) = procedures_new (suc n) ps (both_none (procedure_rebinds o.extended a.procedures (macro_rebinds o.extended a.procedures (reverse a.macros)) (standing_inside a o) p) _ q).1 u k

  processes_new : (n : ℕ) (ps : List Process) → flat_map (process_rebinds o.extended a.procedures (macro_rebinds o.extended a.procedures (reverse a.macros)) (standing_inside a o)) ps ≡ [] → (u : Routine) → OneOf u (numbered process_routine n ps) → New u
  processes_new n [] q u k = absurd k
  processes_new n (p ∷ ps) q u (inl e) =
      let r = both_none (process_rebinds o.extended a.procedures (macro_rebinds o.extended a.procedures (reverse a.macros)) (standing_inside a o) p) _ q in
      let s = both_none (whole_rebinds o.extended p.identity (standing_inside a o)) _ r.0 in
      subst New (sym e) (both_none (rebound_all o.extended (standing_inside a o) (names_of p.variables)) _ (both_none (locals_rebind o.extended p.variables (standing_inside a o)) _ s.1).0).0
  processes_new n (p ∷ ps) q u (inr k) = processes_new (suc n) ps (both_none (process_rebinds o.extended a.procedures (macro_rebinds o.extended a.procedures (reverse a.macros)) (standing_inside a o) p) _ q).1 u k

  main_new : (m : Main) → main_rebinds o.extended a.procedures (macro_rebinds o.extended a.procedures (reverse a.macros)) (standing_inside a o) m ≡ [] → (u : Routine) → OneOf u (main_routines a m) → New u
  main_new (alone b) q u (inl e) = subst New (sym e) refl
  main_new (alone b) q u (inr k) = absurd k
  main_new (processes ps) q u k = processes_new (first_process a) ps q u k

  routine_new : rebind_offences_of a o ≡ [] → (u : Routine) → OneOf u (routines a) → New u
  routine_new q u k =
      let D = macro_rebinds o.extended a.procedures (reverse a.macros) in
      let i = both_none (starts_rebind o.extended any_name a.globals (standing_inside a o)) _ q in
      let j = both_none (definitions_rebind o.extended a.definitions (standing_outside a o)) _ i.1 in
      let l = both_none (texts_rebind o.extended a.procedures (macro_rebinds o.extended a.procedures) (standing_inside a o) (reverse a.macros)) _ j.1 in
      let n = both_none (flat_map (procedure_rebinds o.extended a.procedures D (standing_inside a o)) a.procedures) _ l.1 in
      by n.0 n.1 (one_either u (procedure_routines a) (main_routines a a.main) k)
    where
      by : flat_map (procedure_rebinds o.extended a.procedures (macro_rebinds o.extended a.procedures (reverse a.macros)) (standing_inside a o)) a.procedures ≡ []
          → main_rebinds o.extended a.procedures (macro_rebinds o.extended a.procedures (reverse a.macros)) (standing_inside a o) a.main ≡ [] → OneOf u (procedure_routines a) ⊎ OneOf u (main_routines a a.main) → New u
      by p m (inl k) = procedures_new (first_procedure a) a.procedures p u k
      by p m (inr k) = main_new a.main m u k

pub local_outside : (o : Outside) (a : Algorithm) → IsAcceptedInFile o a → (u : Routine) → OneOf u (routines a) → (x : Word) → declares (locals u) x ≡ true → in_scope (standing_inside a o) x ≡ false
local_outside o a h u k x m =
    false_among (in_scope (standing_inside a o) x)
    (λ q. never (sym (λ i. q i && ap not (each_name (Unreserved o) (declared (locals u)) ((free o a h).locals u k) x m) i) ∙ each_new o.extended (standing_inside a o) (locals u) (routine_new o a (rules_of_names a o h.accepted.names).2 u k) x m))
