-- The written names of each routine of an algorithm that can be written: identifiers, apart from each other, and none of the translation's own.
use Rattle.std.proofs.Common.{◌≡◌, ℕ, List, [], ◌∷◌, ◌++◌, Bool, true, false, ◌||◌, cond, bytes_eq, codes, map, reverse, ◌⊎◌, inl, inr, refl, sym, ap, subst, ◌∙◌}
use Rattle.std.specs.List.{flat_map, AllByRecursion}
use Rattle.std.proofs.lemmas.Bool.{or_parts, or_right, or_left, false_from_ne_true}
use Rattle.std.proofs.lemmas.Slice.Eq.{bytes_eq-Decides}
use Rattle.tla_token.specs.Signs.{is_among}
use Rattle.tla_token.specs.Words.{is_own}
use Rattle.tla_tree.specs.Tree.{Word, Each}
use Rattle.tla_tree.specs.laws.Writable.{IsIdentifier, IsString}
use Rattle.tla_value.specs.Outside.{Outside}
use Rattle.pcal_tree.specs.Algorithm.{Declaration, declares, locals, Main, alone, processes, Routine, procedure_routines, main_routines, routines, Algorithm}
use Rattle.pcal_tree.specs.Expand.{written_out}
use Rattle.pcal_tree.specs.Names.{kept, taken_outside, taken_at_start, Role, variable, label, title, Want, wants, wanted_within, wanted_by, wanted_by_main, wanted, given}
use Rattle.pcal_tree.specs.OffencesLabels.{label_words}
use Rattle.pcal_tree.specs.Calls.{label_name}
use Rattle.pcal_tree.specs.Processes.{OneOf}
use Rattle.pcal_tree.specs.Program.{Program, written}
use Rattle.pcal_tree.specs.Variables.{declared, pc, stack}
use Rattle.pcal_tree.proofs.BodyLabels.{same_labels}
use Rattle.pcal_tree.proofs.FreeNames.{given_apart, given_untaken, every_map}
use Rattle.pcal_tree.proofs.RoutineNames.{one_either, one_each}
use Rattle.pcal_tree.proofs.TroubleLaws.{one_left, one_right}
use Rattle.action_builder.specs.WrittenNames.{with_names}
use Rattle.action_builder.specs.laws.Jumps.{AllUnlike}
use Rattle.action_builder.proofs.FitJumps.{identifier_string, NamesFit}
use Rattle.translation.specs.laws.WritableAlgorithm.{is_procedure, is_variable, IsWritableDeclaration, IsWritableAlgorithm}
use Rattle.translation.proofs.WrittenIdentifiers.{IsFree, given_identifiers, want_of, written_any, written_one, title_one, title_any, one_written}
use Rattle.translation.proofs.WritableBodies.{all_labels}
use Rattle.translation.proofs.NamedBodies.{VariablesNamed}
use Rattle.pcal_tree.proofs.OneStand.{every_both}

true_false : true ≡ false → ⊥
true_false e = cc

-- ---- lists

pub all_flat : {X Y : Type 0} (Q : Y → Type 0) (f : X → List Y) (xs : List X) → ((x : X) → OneOf x xs → AllByRecursion Q (f x)) → AllByRecursion Q (flat_map f xs)
all_flat Q f [] h = tt
all_flat Q f (x ∷ xs) h = every_both Q (f x) (flat_map f xs) (h x (inl refl)) (all_flat Q f xs (λ y k. h y (inr k)))

pub one_each_of : (Q : Word → Type 0) (xs : List Word) → Each Q xs → (x : Word) → OneOf x xs → Q x
one_each_of Q [] h x k = absurd k
one_each_of Q (y ∷ ys) h x (inl e) = subst Q (sym e) h.0
one_each_of Q (y ∷ ys) h x (inr k) = one_each_of Q ys h.1 x k

pub each_map : (Q : Word → Type 0) (f : Word → Word) (xs : List Word) → ((x : Word) → OneOf x xs → Q (f x)) → Each Q (map f xs)
each_map Q f [] h = tt
each_map Q f (x ∷ xs) h = (h x (inl refl), each_map Q f xs (λ y k. h y (inr k)))

pub one_among : (xs ys : List Word) (x : Word) → OneOf x xs → is_among (xs ++ ys) x ≡ true
one_among [] ys x h = absurd h
one_among (z ∷ xs) ys x (inl e) = or_left (bytes_eq z x) (is_among (xs ++ ys) x) ((bytes_eq-Decides z x).1 (sym e))
one_among (z ∷ xs) ys x (inr h) = or_right (bytes_eq z x) (is_among (xs ++ ys) x) (one_among xs ys x h)

pub among_later : (xs ys : List Word) (x : Word) → is_among ys x ≡ true → is_among (xs ++ ys) x ≡ true
among_later [] ys x e = e
among_later (z ∷ xs) ys x e = or_right (bytes_eq z x) (is_among (xs ++ ys) x) (among_later xs ys x e)

pub among_before : (xs ys : List Word) (x : Word) → is_among xs x ≡ true → is_among (xs ++ ys) x ≡ true
among_before [] ys x e = absurd (true_false (sym e))
among_before (z ∷ xs) ys x e = by (bytes_eq z x) (among_before xs ys x) e
  where
    by : (b : Bool) → (is_among xs x ≡ true → is_among (xs ++ ys) x ≡ true) → (b || is_among xs x) ≡ true → (b || is_among (xs ++ ys) x) ≡ true
    by true f d = refl
    by false f d = f d

-- ---- what is wanted

one_wants : (n : ℕ) (r : Role) (x : Word) (ws : List Word) → OneOf x ws → OneOf (want_of n r x) (wants n r ws)
one_wants n r x [] h = absurd h
one_wants n r x (w ∷ ws) (inl e) = inl (ap (want_of n r) e)
one_wants n r x (w ∷ ws) (inr h) = inr (one_wants n r x ws h)

main_wanted : (a : Algorithm) (m : Main) (u : Routine) (w : Want) → OneOf u (main_routines a m) → OneOf w (wanted_within u) → OneOf w (wanted_by_main a m)
main_wanted a (alone b) u w h k = one_each wanted_within u w (main_routines a (alone b)) h k
main_wanted a (processes ps) u w h k = one_each wanted_by u w (main_routines a (processes ps)) h (inr k)

within_wanted : (a : Algorithm) (u : Routine) (w : Want) → OneOf u (routines a) → OneOf w (wanted_within u) → OneOf w (wanted a)
within_wanted a u w h k = by (one_either u (procedure_routines a) (main_routines a a.main) h)
  where
    by : OneOf u (procedure_routines a) ⊎ OneOf u (main_routines a a.main) → OneOf w (wanted a)
    by (inl p) = one_left w (flat_map wanted_by (procedure_routines a)) (wanted_by_main a a.main) (one_each wanted_by u w (procedure_routines a) p (inr k))
    by (inr p) = one_right w (flat_map wanted_by (procedure_routines a)) (wanted_by_main a a.main) (main_wanted a a.main u w p k)

-- a procedure, or one of several processes
abbrev pub IsTitled : Algorithm → Main → Routine → Type 0
IsTitled a (alone b) u = OneOf u (procedure_routines a)
IsTitled a (processes ps) u = OneOf u (procedure_routines a) ⊎ OneOf u (main_routines a (processes ps))

title_wanted : (a : Algorithm) (m : Main) (u : Routine) → IsTitled a m u → OneOf (want_of u.number title u.name.word) (flat_map wanted_by (procedure_routines a) ++ wanted_by_main a m)
title_wanted a (alone b) u h =
    one_left (want_of u.number title u.name.word) (flat_map wanted_by (procedure_routines a)) (wanted_by_main a (alone b)) (one_each wanted_by u (want_of u.number title u.name.word) (procedure_routines a) h (inl refl))
title_wanted a (processes ps) u (inl h) =
    one_left (want_of u.number title u.name.word) (flat_map wanted_by (procedure_routines a)) (wanted_by_main a (processes ps))
    (one_each wanted_by u (want_of u.number title u.name.word) (procedure_routines a) h (inl refl))
title_wanted a (processes ps) u (inr h) =
    one_right (want_of u.number title u.name.word) (flat_map wanted_by (procedure_routines a)) (wanted_by_main a (processes ps))
    (one_each wanted_by u (want_of u.number title u.name.word) (main_routines a (processes ps)) h (inl refl))

-- ---- the names of an algorithm

pub declared_each : (ds : List Declaration) → AllByRecursion IsWritableDeclaration ds → Each IsIdentifier (declared ds)
declared_each [] h = tt
declared_each (d ∷ ds) h = (h.0.0, declared_each ds h.1)

module _ (o : Outside) (a : Algorithm) (h : IsWritableAlgorithm o a) where
  abbrev program : Program
  program = with_names o a

  pub local_names : (u : Routine) → OneOf u (routines a) → Each IsIdentifier (declared (locals u))
  local_names u k = declared_each (locals u) (h.routines u k).locals

  pub label_identifiers : (u : Routine) → OneOf u (routines a) → Each IsIdentifier (label_words u.body)
  label_identifiers u k =
      subst (Each IsIdentifier) (sym (same_labels u.body))
      (all_labels (is_procedure a) (is_variable a u) (written_out (reverse a.macros)) u.body (h.routines u k).body)

  wants_all : (n : ℕ) (r : Role) (xs : List Word) → Each IsIdentifier xs → AllByRecursion (λ w. IsIdentifier w.word) (wants n r xs)
  wants_all n r [] k = tt
  wants_all n r (x ∷ xs) k = (k.0, wants_all n r xs k.1)

  within_all : (u : Routine) → OneOf u (routines a) → AllByRecursion (λ w. IsIdentifier w.word) (wanted_within u)
  within_all u k =
      every_both (λ w. IsIdentifier w.word) (wants u.number variable (declared (locals u))) (wants u.number label (label_words u.body)) (wants_all u.number variable (declared (locals u)) (local_names u k))
      (wants_all u.number label (label_words u.body) (label_identifiers u k))

  by_all : (u : Routine) → OneOf u (routines a) → AllByRecursion (λ w. IsIdentifier w.word) (wanted_by u)
  by_all u k = ((h.routines u k).name, within_all u k)

  main_all : (m : Main) → ((u : Routine) → OneOf u (main_routines a m) → OneOf u (routines a)) → AllByRecursion (λ w. IsIdentifier w.word) (wanted_by_main a m)
  main_all (alone b) f = all_flat (λ w. IsIdentifier w.word) wanted_within (main_routines a (alone b)) (λ u k. within_all u (f u k))
  main_all (processes ps) f = all_flat (λ w. IsIdentifier w.word) wanted_by (main_routines a (processes ps)) (λ u k. by_all u (f u k))

  pub all_wanted : AllByRecursion (λ w. IsIdentifier w.word) (wanted a)
  all_wanted =
      every_both (λ w. IsIdentifier w.word) (flat_map wanted_by (procedure_routines a)) (wanted_by_main a a.main)
      (all_flat (λ w. IsIdentifier w.word) wanted_by (procedure_routines a) (λ u k. by_all u (one_left u (procedure_routines a) (main_routines a a.main) k)))
      (main_all a.main (λ u k. one_right u (procedure_routines a) (main_routines a a.main) k))

  all_free : AllByRecursion (λ g. IsFree g.written) (given a o)
  all_free = given_identifiers o.extended (taken_at_start a o) (wanted a) h.few all_wanted

  all_strings : AllByRecursion (λ g. IsString g.written) (given a o)
  all_strings = every_map (λ g. IsFree g.written) (λ g. IsString g.written) (λ g k. identifier_string g.written k.0) (given a o) all_free

  -- ---- of a routine

  pub local_wanted : (u : Routine) (x : Word) → OneOf u (routines a) → OneOf x (declared (locals u)) → OneOf (want_of u.number variable x) (wanted a)
  local_wanted u x k l =
      within_wanted a u (want_of u.number variable x) k
      (one_left (want_of u.number variable x) (wants u.number variable (declared (locals u))) (wants u.number label (label_words u.body)) (one_wants u.number variable x (declared (locals u)) l))

  pub local_free : (u : Routine) (x : Word) → OneOf u (routines a) → OneOf x (declared (locals u)) → IsFree (written program u x)
  local_free u x k l = written_one IsFree o.extended (taken_at_start a o) (wanted a) u.number variable x (local_wanted u x k l) all_free

  pub local_new : (u : Routine) (x : Word) → OneOf u (routines a) → OneOf x (declared (locals u)) → is_among (taken_at_start a o) (written program u x) ≡ false
  local_new u x k l =
      written_one (λ w. is_among (taken_at_start a o) w ≡ false) o.extended (taken_at_start a o) (wanted a) u.number variable x (local_wanted u x k l)
      (given_untaken o.extended (taken_at_start a o) (wanted a) h.few)

  pub no_global : (w : Word) → is_among (taken_at_start a o) w ≡ false → declares a.globals w ≡ false
  no_global w e =
      false_from_ne_true (declares a.globals w)
      (λ d. true_false (sym (among_later (taken_outside o) (kept a) w (among_before (declared a.globals) _ w d)) ∙ e))

  pub variables_named : (u : Routine) → OneOf u (routines a) → VariablesNamed program u (λ x. declares a.globals x)
  variables_named u k = record {
    identifiers = local_names u k;
    named = λ x l. (local_free u x k l).0;
    apart = λ x y l m e.
        (bytes_eq-Decides x y).1
        (one_written o.extended (taken_at_start a o) (wanted a) u.number variable x y (given_apart o.extended (taken_at_start a o) (wanted a) h.few) (local_wanted u x k l) (local_wanted u y k m)
        ((bytes_eq-Decides (written program u x) (written program u y)).0 e));
    new = λ x l. no_global (written program u x) (local_new u x k l);
  }

  pc_differs : (w : Word) → is_own w ≡ false → bytes_eq pc w ≡ false
  pc_differs w e = (or_parts (bytes_eq pc w) _ (or_parts (bytes_eq (codes "vars") w) _ e).1).0

  stack_differs : (w : Word) → is_own w ≡ false → bytes_eq stack w ≡ false
  stack_differs w e = (or_parts (bytes_eq stack w) _ (or_parts (bytes_eq pc w) _ (or_parts (bytes_eq (codes "vars") w) _ e).1).1).0

  unlike_map : (u : Routine) (k : OneOf u (routines a)) (xs : List Word) → ((x : Word) → OneOf x xs → OneOf x (declared (locals u))) → AllUnlike xs → AllUnlike (map (written program u) xs)
  unlike_map u k [] f d = tt
  unlike_map u k (x ∷ xs) f d = (
    each_map (λ z. bytes_eq (written program u x) z ≡ false) (written program u) xs
        (λ y l. false_from_ne_true (bytes_eq (written program u x) (written program u y))
        (λ e. true_false (sym ((variables_named u k).apart x y (f x (inl refl)) (f y (inr l)) e) ∙ one_each_of (λ z. bytes_eq x z ≡ false) xs d.0 y l))),
    unlike_map u k xs (λ y l. f y (inr l)) d.1,
  )

  pub names_fit : (u : Routine) → OneOf u (routines a) → NamesFit program u
  names_fit u k = record {
    identifiers = each_map IsIdentifier (written program u) (declared (locals u)) (λ x l. (local_free u x k l).0);
    apart = unlike_map u k (declared (locals u)) (λ x l. l) (h.routines u k).once;
    pc = each_map (λ z. bytes_eq pc z ≡ false) (written program u) (declared (locals u)) (λ x l. pc_differs (written program u x) (local_free u x k l).1);
    stack = each_map (λ z. bytes_eq stack z ≡ false) (written program u) (declared (locals u)) (λ x l. stack_differs (written program u x) (local_free u x k l).1);
    title = title_any IsString (given a o) u.number refl all_strings;
  }

  pub title_free : (u : Routine) → IsTitled a a.main u → IsFree (program.naming.title u.number)
  title_free u k = title_one IsFree o.extended (taken_at_start a o) (wanted a) u.number u.name.word (title_wanted a a.main u k) all_free

  -- ---- labels

  label_free : (u : Routine) (l : Word) → OneOf u (routines a) → OneOf l (label_words u.body) → IsFree (program.naming.label u.number l)
  label_free u l k m =
      written_one IsFree o.extended (taken_at_start a o) (wanted a) u.number label l
      (within_wanted a u (want_of u.number label l) k
      (one_right (want_of u.number label l) (wants u.number variable (declared (locals u))) (wants u.number label (label_words u.body)) (one_wants u.number label l (label_words u.body) m))) all_free

  end_free : (l : Word) → IsIdentifier l → (bytes_eq (codes "Done") l || bytes_eq (codes "Error") l) ≡ true → IsFree l
  end_free l i e = by (bytes_eq (codes "Done") l) refl e
    where
      by : (b : Bool) → bytes_eq (codes "Done") l ≡ b → (b || bytes_eq (codes "Error") l) ≡ true → IsFree l
      by true q d = (i, ap is_own (sym ((bytes_eq-Decides (codes "Done") l).0 q)))
      by false q d = (i, ap is_own (sym ((bytes_eq-Decides (codes "Error") l).0 d)))

  pub label_name_free : (u : Routine) (l : Word) → OneOf u (routines a) → OneOf l (label_words u.body) → IsFree (label_name program u l)
  label_name_free u l k m = by (bytes_eq (codes "Done") l || bytes_eq (codes "Error") l) refl
    where
      by : (b : Bool) → (bytes_eq (codes "Done") l || bytes_eq (codes "Error") l) ≡ b → IsFree (cond b l (program.naming.label u.number l))
      by true e = end_free l (one_each_of IsIdentifier (label_words u.body) (label_identifiers u k) l m) e
      by false e = label_free u l k m

  pub label_name_string : (u : Routine) (l : Word) → IsString l → IsString (label_name program u l)
  label_name_string u l s = by (bytes_eq (codes "Done") l || bytes_eq (codes "Error") l)
    where
      by : (b : Bool) → IsString (cond b l (program.naming.label u.number l))
      by true = s
      by false = written_any IsString (given a o) u.number label l s all_strings

  all_identifiers : AllByRecursion (λ g. IsIdentifier g.written) (given a o)
  all_identifiers = every_map (λ g. IsFree g.written) (λ g. IsIdentifier g.written) (λ g k. k.0) (given a o) all_free

  pub label_name_identifier : (u : Routine) (l : Word) → IsIdentifier l → IsIdentifier (label_name program u l)
  label_name_identifier u l i = by (bytes_eq (codes "Done") l || bytes_eq (codes "Error") l)
    where
      by : (b : Bool) → IsIdentifier (cond b l (program.naming.label u.number l))
      by true = i
      by false = written_any IsIdentifier (given a o) u.number label l i all_identifiers
