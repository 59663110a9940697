-- The variables of the translation are written apart, those of a routine have different names, and so have procedures.
use Rattle.std.proofs.Common.{◌≡◌, ℕ, suc, ◌+◌, ◌≤◌, ◌<◌, length, List, [], ◌∷◌, ◌++◌, map, true, false, bytes_eq, ◌⊎◌, inl, inr, refl, sym, subst, ◌∙◌, ap, arith, append_assoc}
use Rattle.std.proofs.lemmas.Bool.{both_ways, false_from_ne_true}
use Rattle.std.proofs.lemmas.Slice.Eq.{bytes_eq-Decides}
use Rattle.tla_token.specs.Words.{is_own}
use Rattle.tla_tree.specs.Tree.{Word, Name, words, Each}
use Rattle.tla_value.specs.Outside.{Outside}
use Rattle.pcal_tree.specs.Algorithm.{declares, Definition, Macro, locals, Procedure, Main, alone, processes, Routine, procedure_routine, process_routine, numbered, first_procedure, first_process, procedure_routines, main_routines, routines, Algorithm}
use Rattle.pcal_tree.specs.Names.{taken_at_start, wanted}
use Rattle.pcal_tree.specs.OffencesNames.{repeated, names_of, kept_names, process_names}
use Rattle.pcal_tree.specs.OffencesOfNames.{name_offences}
use Rattle.pcal_tree.specs.Outside.{unit_names}
use Rattle.pcal_tree.specs.Processes.{OneOf}
use Rattle.pcal_tree.specs.Program.{Program, written}
use Rattle.pcal_tree.specs.Variables.{declared, pc, stack_for, written_all, written_by_all, vars}
use Rattle.pcal_tree.proofs.ClearLabels.{both_none}
use Rattle.pcal_tree.proofs.FreeNames.{given_apart}
use Rattle.pcal_tree.proofs.RoutineNames.{one_either}
use Rattle.action_builder.specs.WrittenNames.{with_names}
use Rattle.action_builder.proofs.Names.{each_name}
use Rattle.name_bits.specs.NamesIn.{AllApart}
use Rattle.translation.specs.laws.WritableAlgorithm.{IsWritableAlgorithm}
use Rattle.translation.proofs.AcceptedNames.{words_declared}
use Rattle.translation.proofs.NamesApart.{own_differs}
use Rattle.translation.proofs.NamesOfRules.{Unreserved, not_own, turned, names_free, rules_of_names}
use Rattle.translation.proofs.RoutinesNamed.{each_map, local_wanted, local_free, local_new, no_global, names_fit}
use Rattle.translation.proofs.VariableNames.{each_to, each_from, each_joined, none_among, one_is_among, one_variable}
use Rattle.build_premises.proofs.ListsApart.{Not, unlike_apart, not_in, apart_joined, apart_before, apart_after, once_apart}

-- ---- numbers of routines

-- each has a number that those after it don't have
abbrev Rising : List Routine → Type 0
Rising [] = Unit {0}
Rising (u ∷ us) = ((v : Routine) → OneOf v us → u.number < v.number) × Rising us

abbrev From : ℕ → List Routine → Type 0
From n us = (v : Routine) → OneOf v us → n ≤ v.number

module _ {A : Type 0} (f : ℕ → A → Routine) (numbers : (n : ℕ) (x : A) → (f n x).number ≡ n) where
  numbered_from : (n : ℕ) (xs : List A) → From n (numbered f n xs)
  numbered_from n [] v k = absurd k
  numbered_from n (x ∷ xs) v (inl e) = (let q : v.number ≡ n = ap (λ (w : Routine). w.number) e ∙ numbers n x in omega (arith, q))
  numbered_from n (x ∷ xs) v (inr k) = (let q = numbered_from (suc n) xs v k in omega (arith, q))

  numbered_below : (n : ℕ) (xs : List A) (v : Routine) → OneOf v (numbered f n xs) → v.number < n + length xs
  numbered_below n [] v k = absurd k
  numbered_below n (x ∷ xs) v (inl e) = (let q : v.number ≡ n = ap (λ (w : Routine). w.number) e ∙ numbers n x in omega (arith, q))
  numbered_below n (x ∷ xs) v (inr k) = (let q = numbered_below (suc n) xs v k in omega (arith, q))

  numbered_rise : (n : ℕ) (xs : List A) → Rising (numbered f n xs)
  numbered_rise n [] = tt
  numbered_rise n (x ∷ xs) = ((λ v k. let q = numbered_from (suc n) xs v k in let r = numbers n x in omega (arith, q, r)), numbered_rise (suc n) xs)

rising_joined : (us vs : List Routine) → Rising us → Rising vs → ((u v : Routine) → OneOf u us → OneOf v vs → u.number < v.number) → Rising (us ++ vs)
rising_joined [] vs h k f = k
rising_joined (u ∷ us) vs h k f = ((λ v m. by v (one_either v us vs m)), rising_joined us vs h.1 k (λ x y m n. f x y (inr m) n))
  where
    by : (v : Routine) → OneOf v us ⊎ OneOf v vs → u.number < v.number
    by v (inl m) = h.0 v m
    by v (inr m) = f u v (inl refl) m

main_rise : (a : Algorithm) (m : Main) → Rising (main_routines a m) × From (first_process a) (main_routines a m)
main_rise a (alone ss) = (((λ v k. absurd k), tt), from)
  where
    from : From (first_process a) (main_routines a (alone ss))
    from v (inl e) = (let q : v.number ≡ first_process a = ap (λ (w : Routine). w.number) e in omega (arith, q))
    from v (inr k) = absurd k
main_rise a (processes ps) = (numbered_rise process_routine (λ n p. refl) (first_process a) ps, numbered_from process_routine (λ n p. refl) (first_process a) ps)

pub routines_rise : (a : Algorithm) → Rising (routines a)
routines_rise a =
    let m = main_rise a a.main in
    rising_joined (procedure_routines a) (main_routines a a.main) (numbered_rise procedure_routine (λ n p. refl) (first_procedure a) a.procedures) m.0
    (λ u v k l. let q = numbered_below procedure_routine (λ n p. refl) (first_procedure a) a.procedures u k in let r = m.1 v l in omega (arith, q, r))

-- ---- names that are declared

words_mapped : (ps : List Procedure) → words (map (λ (p : Procedure). p.name) ps) ≡ map (λ (p : Procedure). p.name.word) ps
words_mapped [] = refl
words_mapped (p ∷ ps) = ap (λ (xs : List Word). p.name.word ∷ xs) (words_mapped ps)

procedure_words : (n : ℕ) (ps : List Procedure) → map (λ (u : Routine). u.name.word) (numbered procedure_routine n ps) ≡ map (λ (p : Procedure). p.name.word) ps
procedure_words n [] = refl
procedure_words n (p ∷ ps) = ap (λ (xs : List Word). p.name.word ∷ xs) (procedure_words (suc n) ps)

words_joined : (xs ys : List Name) → words (xs ++ ys) ≡ words xs ++ words ys
words_joined [] ys = refl
words_joined (x ∷ xs) ys = ap (λ (zs : List Word). x.word ∷ zs) (words_joined xs ys)

-- of the procedures of an algorithm
pub procedures_apart : (o : Outside) (a : Algorithm) → name_offences a o ≡ [] → AllApart (map (λ (p : Procedure). p.name.word) a.procedures)
procedures_apart o a e =
    let r = (rules_of_names a o e).1 in
    let ms = map (λ (m : Macro). m.name) a.macros in
    let ps = map (λ (p : Procedure). p.name) a.procedures in
    let b = both_none (repeated (words (kept_names a)) (ms ++ (ps ++ process_names a.main))) _ (both_none (repeated (unit_names o) (kept_names a)) _ r).1 in
    let all = subst AllApart (words_joined ms (ps ++ process_names a.main)) (once_apart (words (kept_names a)) (ms ++ (ps ++ process_names a.main)) b.0) in
    let some = subst AllApart (words_joined ps (process_names a.main)) (apart_after (words ms) (words (ps ++ process_names a.main)) all) in
    subst AllApart (words_mapped a.procedures) (apart_before (words ps) (words (process_names a.main)) some)

pub routines_apart : (o : Outside) (a : Algorithm) → name_offences a o ≡ [] → AllApart (map (λ (u : Routine). u.name.word) (procedure_routines a))
routines_apart o a e = subst AllApart (sym (procedure_words (first_procedure a) a.procedures)) (procedures_apart o a e)

-- of the globals
globals_apart : (o : Outside) (a : Algorithm) → name_offences a o ≡ [] → AllApart (declared a.globals)
globals_apart o a e =
    let ns = names_of a.globals in
    let ds = map (λ (d : Definition). d.name) a.definitions in
    let k = (both_none (repeated (unit_names o) (kept_names a)) _ (rules_of_names a o e).1).0 in
    subst AllApart (words_declared a.globals) (apart_before (words ns) (words ds) (subst AllApart (words_joined ns ds) (once_apart (unit_names o) (kept_names a) k)))

-- of one routine
pub locals_apart : (o : Outside) (a : Algorithm) → IsWritableAlgorithm o a → (u : Routine) → OneOf u (routines a) → AllApart (declared (locals u))
locals_apart o a h u k = unlike_apart (declared (locals u)) (h.routines u k).once

-- ---- the variables

module _ (o : Outside) (a : Algorithm) (h : IsWritableAlgorithm o a) where
  abbrev P : Program
  P = with_names o a

  differs : (x y : Word) → (x ≡ y → ⊥) → bytes_eq x y ≡ false
  differs x y f = false_from_ne_true (bytes_eq x y) (λ e. f ((bytes_eq-Decides x y).0 e))

  routine_apart : (u : Routine) → OneOf u (routines a) → AllApart (written_all P u (locals u))
  routine_apart u k = unlike_apart (written_all P u (locals u)) (names_fit o a h u k).apart

  other_routine : (u v : Routine) → OneOf u (routines a) → OneOf v (routines a) → u.number < v.number → (x : Word) → OneOf x (declared (locals u)) → Not (written P u x) (written_all P v (locals v))
  other_routine u v k l less x m =
      none_among (written_all P v (locals v)) (written P u x)
      (each_map (λ z. bytes_eq z (written P u x) ≡ false) (written P v) (declared (locals v)) (λ y n. differs (written P v y) (written P u x) (λ e.
      let same = (one_variable o.extended (taken_at_start a o) (wanted a) v.number u.number y x (given_apart o.extended (taken_at_start a o) (wanted a) h.few) (local_wanted o a h v y l n) (local_wanted o a h u x k m) e).0 in
      omega (arith, same, less))))

  other_routines : (u : Routine) → OneOf u (routines a) → (x : Word) → OneOf x (declared (locals u)) → (vs : List Routine) → ((v : Routine) → OneOf v vs → OneOf v (routines a)) → ((v : Routine) → OneOf v vs → u.number < v.number)
      → Not (written P u x) (written_by_all P vs)
  other_routines u k x m [] f less = refl
  other_routines u k x m (v ∷ vs) f less =
      not_in (written_all P v (locals v)) (written_by_all P vs) (written P u x) (other_routine u v k (f v (inl refl)) (less v (inl refl)) x m)
      (other_routines u k x m vs (λ w n. f w (inr n)) (λ w n. less w (inr n)))

  all_apart : (us : List Routine) → ((v : Routine) → OneOf v us → OneOf v (routines a)) → Rising us → AllApart (written_by_all P us)
  all_apart [] f r = tt
  all_apart (u ∷ us) f r =
      apart_joined (written_all P u (locals u)) (written_by_all P us) (routine_apart u (f u (inl refl))) (all_apart us (λ w n. f w (inr n)) r.1)
      (each_map (λ z. Not z (written_by_all P us)) (written P u) (declared (locals u)) (λ x m. other_routines u (f u (inl refl)) x m us (λ w n. f w (inr n)) r.0))

  -- a word that no routine's variable is written as
  module _ (x : Word) (other : (u : Routine) → OneOf u (routines a) → (y : Word) → OneOf y (declared (locals u)) → bytes_eq (written P u y) x ≡ false) where
    not_written : (us : List Routine) → ((v : Routine) → OneOf v us → OneOf v (routines a)) → Not x (written_by_all P us)
    not_written [] f = refl
    not_written (u ∷ us) f =
        not_in (written_all P u (locals u)) (written_by_all P us) x
        (none_among (written_all P u (locals u)) x (each_map (λ z. bytes_eq z x ≡ false) (written P u) (declared (locals u)) (other u (f u (inl refl)))))
        (not_written us (λ w n. f w (inr n)))

  -- pc and the stack
  own_written : (x : Word) → is_own x ≡ true → Not x (written_by_all P (routines a))
  own_written x e = not_written x (λ u k y m. turned x (written P u y) (own_differs x (written P u y) e (local_free o a h u y k m).1)) (routines a) (λ v k. k)

  global_written : (x : Word) → declares a.globals x ≡ true → Not x (written_by_all P (routines a))
  global_written x e =
      not_written x
      (λ u k y m. differs (written P u y) x (λ q. both_ways (declares a.globals (written P u y)) (no_global o a h (written P u y) (local_new o a h u y k m)) (ap (declares a.globals) q ∙ e)))
      (routines a) (λ v k. k)

  joined : (us vs : List Routine) → written_by_all P (us ++ vs) ≡ written_by_all P us ++ written_by_all P vs
  joined [] vs = refl
  joined (u ∷ us) vs = ap (λ (xs : List Word). written_all P u (locals u) ++ xs) (joined us vs) ∙ sym (append_assoc (written_all P u (locals u)) (written_by_all P us) (written_by_all P vs))

  own_first : (us : List Routine) → AllApart (pc ∷ stack_for us) × Each (λ x. is_own x ≡ true) (pc ∷ stack_for us)
  own_first [] = ((refl, tt), (refl, tt))
  own_first (u ∷ us) = ((refl, (refl, tt)), (refl, (refl, tt)))

  module _ (names : name_offences a o ≡ []) where
    abbrev first : List Word
    first = pc ∷ stack_for (procedure_routines a)

    global_own : (x : Word) → declares a.globals x ≡ true → is_own x ≡ false
    global_own x e = not_own o x (each_name (Unreserved o) (declared a.globals) (names_free o a (rules_of_names a o names).3).globals x e)

    global_first : (x : Word) → declares a.globals x ≡ true → Not x first
    global_first x e =
        none_among first x (each_to (λ y. is_own y ≡ true) (λ y. bytes_eq y x ≡ false) (λ y k. own_differs y x k (global_own x e)) first (own_first (procedure_routines a)).1)

    -- no name of `vars` stands twice
    pub variables_apart : AllApart (vars P)
    variables_apart =
        let us = procedure_routines a in
        let ms = main_routines a a.main in
        let gs = declared a.globals in
        subst AllApart (ap (λ (xs : List Word). (gs ++ first) ++ xs) (joined us ms) ∙ sym (append_assoc (gs ++ first) (written_by_all P us) (written_by_all P ms)))
        (apart_joined (gs ++ first) (written_by_all P (us ++ ms))
        (apart_joined gs first (globals_apart o a names) (own_first us).0 (each_from (λ x. Not x first) gs (λ x m. global_first x (one_is_among gs x m))))
        (all_apart (us ++ ms) (λ v k. k) (routines_rise a))
        (each_joined (λ x. Not x (written_by_all P (us ++ ms))) gs first (each_from (λ x. Not x (written_by_all P (us ++ ms))) gs (λ x m. global_written x (one_is_among gs x m)))
        (each_to (λ x. is_own x ≡ true) (λ x. Not x (written_by_all P (us ++ ms))) own_written first (own_first us).1)))
