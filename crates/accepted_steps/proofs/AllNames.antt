-- No name is put twice at a start of an accepted algorithm: globals, written names, the stack and pc are all apart.
use Rattle.std.proofs.Common.{◌≡◌, ℕ, suc, ◌≤◌, List, [], ◌∷◌, ◌++◌, true, false, ◌||◌, bytes_eq, map, inl, inr, refl, sym, ap, subst, ◌∙◌, arith}
use Rattle.std.proofs.lemmas.Bool.{or_parts, false_from_ne_true}
use Rattle.std.proofs.lemmas.Slice.Eq.{bytes_eq-Decides}
use Rattle.tla_token.specs.Signs.{is_among}
use Rattle.tla_tree.specs.Tree.{Word, Name, words, Each}
use Rattle.tla_value.specs.Definitions.{Valuation}
use Rattle.tla_value.specs.Outside.{Outside}
use Rattle.tla_value.specs.Stops.{Check}
use Rattle.pcal_tree.specs.Algorithm.{Declaration, declares, Definition, Main, alone, processes, Routine, locals, procedure_routine, process_routine, numbered, first_procedure, first_process, procedure_routines, main_routines, routines, Algorithm}
use Rattle.pcal_tree.specs.Names.{taken_at_start, wanted}
use Rattle.pcal_tree.specs.OffencesNames.{names_of, kept_names, repeated}
use Rattle.pcal_tree.specs.Outside.{unit_names}
use Rattle.pcal_tree.specs.Processes.{OneOf}
use Rattle.pcal_tree.specs.Program.{Program, written}
use Rattle.pcal_tree.specs.Programs.{program_in}
use Rattle.pcal_tree.specs.Variables.{declared, written_all, pc, stack}
use Rattle.pcal_tree.proofs.ClearLabels.{both_none}
use Rattle.pcal_tree.proofs.FreeNames.{given_apart}
use Rattle.pcal_tree.proofs.TroubleLaws.{one_left, one_right}
use Rattle.action_builder.specs.laws.Jumps.{AllUnlike}
use Rattle.translation.specs.laws.AcceptedAlgorithm.{IsAcceptedInFile}
use Rattle.translation.specs.laws.WritableAlgorithm.{IsWritableAlgorithm}
use Rattle.translation.proofs.AcceptedNames.{apart_from}
use Rattle.translation.proofs.LocalNames.{main_apart}
use Rattle.translation.proofs.NamesApart.{writable, never}
use Rattle.translation.proofs.NamesOfRules.{turned, rules_of_names}
use Rattle.translation.proofs.ReadyNames.{own_global}
use Rattle.translation.proofs.RoutinesNamed.{local_wanted, local_new, no_global, names_fit}
use Rattle.translation.proofs.VariableNames.{one_is_among, one_variable}
use Rattle.accepted_steps.proofs.Lists.{Once}
use Rattle.accepted_steps.proofs.Starts.{names_of_globals, names_of_locals, names_of_routines, own_names, names_of_processes, names_of_all_routines, all_names}

-- ---- numbers of routines

-- none has the number of an earlier one
abbrev Numbered : List Routine → Type 0
Numbered [] = Unit {0}
Numbered (u ∷ us) = ((v : Routine) → OneOf v us → v.number ≡ u.number → ⊥) × Numbered us

module _ {A : Type 0} (f : ℕ → A → Routine) (is : (n : ℕ) (x : A) → (f n x).number ≡ n) where
  numbers_from : (n : ℕ) (xs : List A) (v : Routine) → OneOf v (numbered f n xs) → n ≤ v.number
  numbers_from n [] v k = absurd k
  numbers_from n (x ∷ xs) v (inl e) = (let q : v.number ≡ n = ap (λ (w : Routine). w.number) e ∙ is n x in omega (arith, q))
  numbers_from n (x ∷ xs) v (inr k) = (let q = numbers_from (suc n) xs v k in omega (arith, q))

  all_numbered : (n : ℕ) (xs : List A) → Numbered (numbered f n xs)
  all_numbered n [] = tt
  all_numbered n (x ∷ xs) = ((λ v k e. let q = numbers_from (suc n) xs v k in let r = is n x in absurd (omega (arith, q, r, e))), all_numbered (suc n) xs)

main_numbered : (a : Algorithm) (m : Main) → Numbered (main_routines a m)
main_numbered a (alone ss) = ((λ v k. absurd k), tt)
main_numbered a (processes ps) = all_numbered process_routine (λ n p. refl) (first_process a) ps

-- ---- lists

differs : (x y : Word) → (x ≡ y → ⊥) → bytes_eq x y ≡ false
differs x y f = false_from_ne_true (bytes_eq x y) (λ e. f ((bytes_eq-Decides x y).0 e))

module _ (P : Program) where
  locals_none : (x : Word) (u : Routine) (ds : List Declaration) (later : List Word) → ((y : Word) → OneOf y (declared ds) → bytes_eq (written P u y) x ≡ false) → is_among later x ≡ false → is_among (names_of_locals P u ds later) x ≡ false
  locals_none x u [] later f e = e
  locals_none x u (d ∷ ds) later f e = λ i. f d.name.word (inl refl) i || locals_none x u ds later (λ y k. f y (inr k)) e i

  routines_none : (x : Word) (us : List Routine) (later : List Word) → ((u : Routine) → OneOf u us → (y : Word) → OneOf y (declared (locals u)) → bytes_eq (written P u y) x ≡ false) → is_among later x ≡ false
      → is_among (names_of_routines P us later) x ≡ false
  routines_none x [] later f e = e
  routines_none x (u ∷ us) later f e = locals_none x u (locals u) (names_of_routines P us later) (f u (inl refl)) (routines_none x us later (λ v k. f v (inr k)) e)

  one_written : (Q : Word → Type 0) (u : Routine) (ds : List Declaration) → Each Q (written_all P u ds) → (y : Word) → OneOf y (declared ds) → Q (written P u y)
  one_written Q u [] h y k = absurd k
  one_written Q u (d ∷ ds) h y (inl e) = subst (λ (z : Word). Q (written P u z)) (sym e) h.0
  one_written Q u (d ∷ ds) h y (inr k) = one_written Q u ds h.1 y k

  locals_once : (u : Routine) (ds : List Declaration) (later : List Word) → AllUnlike (written_all P u ds) → ((y : Word) → OneOf y (declared ds) → is_among later (written P u y) ≡ false) → Once later → Once (names_of_locals P u ds later)
  locals_once u [] later l f o = o
  locals_once u (d ∷ ds) later l f o =
      let x = written P u d.name.word in
      (locals_none x u ds later (λ y k. turned x (written P u y) (one_written (λ z. bytes_eq x z ≡ false) u ds l.0 y k)) (f d.name.word (inl refl)), locals_once u ds later l.1 (λ y k. f y (inr k)) o)

globals_none : (x : Word) (ds : List Declaration) (later : List Word) → ((y : Word) → OneOf y (declared ds) → bytes_eq y x ≡ false) → is_among later x ≡ false → is_among (names_of_globals ds later) x ≡ false
globals_none x [] later f e = e
globals_none x (d ∷ ds) later f e = λ i. f d.name.word (inl refl) i || globals_none x ds later (λ y k. f y (inr k)) e i

each_front : (Q : Word → Type 0) (ds : List Declaration) (more : List Name) → Each Q (words (names_of ds ++ more)) → (y : Word) → OneOf y (declared ds) → Q y
each_front Q [] more h y k = absurd k
each_front Q (d ∷ ds) more h y (inl e) = subst Q (sym e) h.0
each_front Q (d ∷ ds) more h y (inr k) = each_front Q ds more h.1 y k

globals_once : (seen : List Word) (ds : List Declaration) (more : List Name) (later : List Word) → repeated seen (names_of ds ++ more) ≡ [] → ((y : Word) → OneOf y (declared ds) → is_among later y ≡ false) → Once later → Once (names_of_globals ds later)
globals_once seen [] more later e f o = o
globals_once seen (d ∷ ds) more later e f o =
    let x = d.name.word in
    let r = (both_none _ (repeated (x ∷ seen) (names_of ds ++ more)) e).1 in (
      globals_none x ds later
          (λ y k. turned x y (or_parts (bytes_eq x y) (is_among seen y) (each_front (λ z. is_among (x ∷ seen) z ≡ false) ds more (apart_from (x ∷ seen) (names_of ds ++ more) r) y k)).0) (f x (inl refl)),
      globals_once (x ∷ seen) ds more later r (λ y k. f y (inr k)) o,
    )

-- ---- an accepted algorithm

module _ (c : Check) (o : Outside) (a : Algorithm) (h : IsAcceptedInFile o a) (values : Valuation) where
  abbrev P : Program
  P = program_in c o a values

  abbrev us : List Routine
  us = procedure_routines a

  abbrev ps : List Routine
  ps = main_routines a a.main

  abbrev w : IsWritableAlgorithm o a
  w = writable o a h

  other_number : (u v : Routine) → OneOf u (routines a) → OneOf v (routines a) → (v.number ≡ u.number → ⊥) → (x y : Word) → OneOf x (declared (locals u)) → OneOf y (declared (locals v)) → bytes_eq (written P v y) (written P u x) ≡ false
  other_number u v k l apart x y m n =
      differs (written P v y) (written P u x)
      (λ e. apart (one_variable o.extended (taken_at_start a o) (wanted a) v.number u.number y x (given_apart o.extended (taken_at_start a o) (wanted a) w.few) (local_wanted o a w v y l n) (local_wanted o a w u x k m) e).0)

  abbrev AllIn : List Routine → Type 0
  AllIn vs = (v : Routine) → OneOf v vs → OneOf v (routines a)

  abbrev FreeOf : List Word → List Routine → Type 0
  FreeOf later vs = (v : Routine) → OneOf v vs → (y : Word) → OneOf y (declared (locals v)) → is_among later (written P v y) ≡ false

  routines_once : (vs : List Routine) (later : List Word) → AllIn vs → Numbered vs → FreeOf later vs → Once later → Once (names_of_routines P vs later)
  routines_once [] later i n f z = z
  routines_once (v ∷ vs) later i n f z =
      locals_once P v (locals v) (names_of_routines P vs later) (names_fit o a w v (i v (inl refl))).apart
      (λ y m. routines_none P (written P v y) vs later (λ u k x l. other_number v u (i v (inl refl)) (i u (inr k)) (n.0 u k) y x m l) (f v (inl refl) y m))
      (routines_once vs later (λ u k. i u (inr k)) n.1 (λ u k. f u (inr k)) z)

  procedure_in : AllIn us
  procedure_in v k = one_left v us ps k

  main_in : AllIn ps
  main_in v k = one_right v us ps k

  own_free : (v : Routine) → OneOf v (routines a) → (y : Word) → OneOf y (declared (locals v)) → is_among own_names (written P v y) ≡ false
  own_free v k y m =
      let n = names_fit o a w v k in
      λ i. one_written P (λ z. bytes_eq stack z ≡ false) v (locals v) n.stack y m i || (one_written P (λ z. bytes_eq pc z ≡ false) v (locals v) n.pc y m i || false)

  main_free : FreeOf (names_of_processes P) us
  main_free v k y m =
      routines_none P (written P v y) ps own_names (λ u l x n. other_number v u (procedure_in v k) (main_in u l) (main_apart a u v l k) y x m n) (own_free v (procedure_in v k) y m)

  global_other : (x y : Word) → declares a.globals x ≡ true → declares a.globals y ≡ false → bytes_eq y x ≡ false
  global_other x y g e = differs y x (λ q. never (sym g ∙ sym (ap (declares a.globals) q) ∙ e))

  local_no_global : (v : Routine) → OneOf v (routines a) → (y : Word) → OneOf y (declared (locals v)) → declares a.globals (written P v y) ≡ false
  local_no_global v k y m = no_global o a w (written P v y) (local_new o a w v y k m)

  pub global_free : (x : Word) → declares a.globals x ≡ true → is_among (names_of_all_routines P) x ≡ false
  global_free x g =
      routines_none P x us (names_of_processes P) (λ u k y m. global_other x (written P u y) g (local_no_global u (procedure_in u k) y m))
      (routines_none P x ps own_names (λ u k y m. global_other x (written P u y) g (local_no_global u (main_in u k) y m))
      (λ i. global_other x stack g (own_global o a h values stack refl) i || (global_other x pc g (own_global o a h values pc refl) i || false)))

  pub all_once : Once (all_names P)
  all_once =
      globals_once (unit_names o) a.globals (map (λ (d : Definition). d.name) a.definitions) (names_of_all_routines P)
      (both_none (repeated (unit_names o) (kept_names a)) _ (rules_of_names a o h.accepted.names).1).0
      (λ y k. global_free y (one_is_among (declared a.globals) y k))
      (routines_once us (names_of_processes P) procedure_in (all_numbered procedure_routine (λ n p. refl) (first_procedure a) a.procedures) main_free
      (routines_once ps own_names main_in (main_numbered a a.main) (λ v k. own_free v (main_in v k)) (refl, (refl, tt))))
