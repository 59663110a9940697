-- What rules say of the names that an algorithm declares and binds, and of those of units outside: none is the translation's own or of a standard module, and globals and
-- definitions are apart from each other and from units outside.
use Rattle.std.proofs.Common.{◌≡◌, ℕ, suc, List, [], ◌∷◌, ◌++◌, map, Bool, true, false, ◌||◌, bytes_eq, ◌⊎◌, inl, inr, refl, sym, subst, ◌∙◌}
use Rattle.std.specs.List.{flat_map}
use Rattle.std.proofs.lemmas.Bool.{or_parts}
use Rattle.std.proofs.lemmas.Slice.Eq.{bytes_eq-Decides}
use Rattle.tla_token.specs.declared.place.Place.{Place}
use Rattle.tla_token.specs.declared.rule.Rule.TheVariants.{Reserved}
use Rattle.tla_token.specs.Signs.{is_among}
use Rattle.tla_token.specs.Words.{is_own, is_standard}
use Rattle.tla_tree.specs.Tree.{Word, Name, words, Each}
use Rattle.tla_value.specs.Outside.{Outside, Opaque, ReadDefinition}
use Rattle.pcal_tree.specs.Algorithm.{locals, Definition, Procedure, Process, Main, alone, processes, Routine, procedure_routine, process_routine, numbered, first_procedure, first_process, procedure_routines, main_routines, routines, Algorithm}
use Rattle.pcal_tree.specs.BoundNames.{all_of, bound_lists}
use Rattle.pcal_tree.specs.Offences.{offence_if}
use Rattle.pcal_tree.specs.OffencesNames.{use_offences_of, repeated, names_of, kept_names, repeated_names}
use Rattle.pcal_tree.specs.OffencesOfNames.{offences_of_uses, offences_of_declarations, offences_of_reads, through_each_call, name_offences}
use Rattle.pcal_tree.specs.OffencesRebind.{rebind_offences_of}
use Rattle.pcal_tree.specs.OffencesReserved.{names_of_definition, names_of_macro, names_of_procedure, names_of_process, names_of_main, declared_names, reserved_name, reserved_read, reserved_opaque, reserved_outside, reserved_declared}
use Rattle.pcal_tree.specs.Outside.{unit_names}
use Rattle.pcal_tree.specs.Processes.{OneOf}
use Rattle.pcal_tree.specs.Variables.{declared}
use Rattle.pcal_tree.proofs.ClearLabels.{both_none}
use Rattle.pcal_tree.proofs.RoutineNames.{one_either}
use Rattle.translation.proofs.AcceptedNames.{each_none, no_offence, apart_from, words_declared}
use Rattle.translation.proofs.VariableNames.{each_joined, each_to}

-- ---- lists of names

module _ (Q : Word → Type 0) where
  pub split : (xs ys : List Name) → Each Q (words (xs ++ ys)) → Each Q (words xs) × Each Q (words ys)
  split [] ys h = (tt, h)
  split (x ∷ xs) ys h = (let k = split xs ys h.1 in ((h.0, k.0), k.1))

  pub of_flat : {X : Type 0} (f : X → List Name) (xs : List X) → Each Q (words (flat_map f xs)) → (x : X) → OneOf x xs → Each Q (words (f x))
  of_flat f [] h x k = absurd k
  of_flat f (y ∷ ys) h x (inl e) = subst (λ z. Each Q (words (f z))) (sym e) (split (f y) (flat_map f ys) h).0
  of_flat f (y ∷ ys) h x (inr k) = of_flat f ys (split (f y) (flat_map f ys) h).1 x k

  of_map : {X : Type 0} (f : X → Name) (xs : List X) → Each Q (words (map f xs)) → (x : X) → OneOf x xs → Q (f x).word
  of_map f [] h x k = absurd k
  of_map f (y ∷ ys) h x (inl e) = subst (λ z. Q (f z).word) (sym e) h.0
  of_map f (y ∷ ys) h x (inr k) = of_map f ys h.1 x k

  pub each_mapped : {X : Type 0} (f : X → Word) (xs : List X) → ((x : X) → OneOf x xs → Q (f x)) → Each Q (map f xs)
  each_mapped f [] h = tt
  each_mapped f (x ∷ xs) h = (h x (inl refl), each_mapped f xs (λ y k. h y (inr k)))

  each_flat : {X : Type 0} (f : X → List Word) (xs : List X) → ((x : X) → OneOf x xs → Each Q (f x)) → Each Q (flat_map f xs)
  each_flat f [] h = tt
  each_flat f (x ∷ xs) h = each_joined Q (f x) (flat_map f xs) (h x (inl refl)) (each_flat f xs (λ y k. h y (inr k)))

-- ---- reserved names

abbrev pub Unreserved : Outside → Word → Type 0
Unreserved o x = (is_own x || is_standard o.extended x) ≡ false

abbrev pub IsNotOwn : Word → Type 0
IsNotOwn x = is_own x ≡ false

pub not_own : (o : Outside) (x : Word) → Unreserved o x → is_own x ≡ false
not_own o x h = (or_parts (is_own x) (is_standard o.extended x) h).0

pub not_standard : (o : Outside) (x : Word) → Unreserved o x → is_standard o.extended x ≡ false
not_standard o x h = (or_parts (is_own x) (is_standard o.extended x) h).1

pub names_unreserved : (o : Outside) (ns : List Name) → flat_map (reserved_name o) ns ≡ [] → Each (Unreserved o) (words ns)
names_unreserved o [] e = tt
names_unreserved o (n ∷ ns) e =
    let p = both_none (reserved_name o n) (flat_map (reserved_name o) ns) e in
    (no_offence (is_own n.word || is_standard o.extended n.word) Reserved n.place p.0, names_unreserved o ns p.1)

opaque_names : (p : Place) (xs : List Word) → flat_map (λ w. offence_if (is_own w) Reserved p) xs ≡ [] → Each IsNotOwn xs
opaque_names p [] e = tt
opaque_names p (x ∷ xs) e =
    let q = both_none (offence_if (is_own x) Reserved p) (flat_map (λ w. offence_if (is_own w) Reserved p) xs) e in
    (no_offence (is_own x) Reserved p q.0, opaque_names p xs q.1)

module _ (o : Outside) where
  abbrev Q : Word → Type 0
  Q = Unreserved o

  procedures_unreserved : (n : ℕ) (ps : List Procedure) → Each Q (words (flat_map names_of_procedure ps)) → (u : Routine) → OneOf u (numbered procedure_routine n ps) → Each Q (declared (locals u))
  procedures_unreserved n [] h u k = absurd k
  procedures_unreserved n (p ∷ ps) h u (inl e) =
      subst (λ (w : Routine). Each Q (declared (locals w))) (sym e)
      (subst (Each Q) (words_declared (p.params ++ p.variables)) (split Q (names_of_procedure p) (flat_map names_of_procedure ps) h).0.1)
  procedures_unreserved n (p ∷ ps) h u (inr k) = procedures_unreserved (suc n) ps (split Q (names_of_procedure p) (flat_map names_of_procedure ps) h).1 u k

  processes_unreserved : (n : ℕ) (ps : List Process) → Each Q (words (flat_map names_of_process ps)) → (u : Routine) → OneOf u (numbered process_routine n ps) → Each Q (declared (locals u))
  processes_unreserved n [] h u k = absurd k
  processes_unreserved n (p ∷ ps) h u (inl e) =
      subst (λ (w : Routine). Each Q (declared (locals w))) (sym e)
      (subst (Each Q) (words_declared p.variables) (split Q (names_of_process p) (flat_map names_of_process ps) h).0.1)
  processes_unreserved n (p ∷ ps) h u (inr k) = processes_unreserved (suc n) ps (split Q (names_of_process p) (flat_map names_of_process ps) h).1 u k

  main_unreserved : (a : Algorithm) (m : Main) → Each Q (words (names_of_main m)) → (u : Routine) → OneOf u (main_routines a m) → Each Q (declared (locals u))
  main_unreserved a (alone ss) h u (inl e) = subst (λ (w : Routine). Each Q (declared (locals w))) (sym e) tt
  main_unreserved a (alone ss) h u (inr k) = absurd k
  main_unreserved a (processes ps) h u k = processes_unreserved (first_process a) ps h u k

-- ---- of an algorithm in a module

pub record NamesFree (o : Outside) (a : Algorithm) : Type 0 where
  pub globals : Each (Unreserved o) (declared a.globals)
  pub definitions : (d : Definition) → OneOf d a.definitions → Unreserved o d.name.word
  pub locals : (u : Routine) → OneOf u (routines a) → Each (Unreserved o) (declared (locals u))
  pub bound : Each (Unreserved o) (words (all_of (bound_lists a)))
  pub constants : Each (Unreserved o) (words o.constants)
  pub read : (d : ReadDefinition) → OneOf d o.definitions → Unreserved o d.definition.title
  pub units : Each IsNotOwn (unit_names o)

pub names_free : (o : Outside) (a : Algorithm) → reserved_declared a o ≡ [] → NamesFree o a
names_free o a e =
    let K = Unreserved o in
    let x = both_none (reserved_outside o) _ e in
    let i = names_unreserved o (declared_names a) (both_none (flat_map (reserved_name o) (declared_names a)) _ x.1).0 in
    let s1 = split K (names_of a.globals) _ i in
    let s2 = split K (flat_map names_of_definition a.definitions) _ s1.1 in
    let s3 = split K (flat_map names_of_macro a.macros) _ s2.1 in
    let s4 = split K (flat_map names_of_procedure a.procedures) _ s3.1 in
    let s5 = split K (names_of_main a.main) (all_of (bound_lists a)) s4.1 in
    let y = both_none (flat_map (reserved_name o) o.constants) _ x.0 in
    let z = both_none (flat_map (reserved_read o) o.definitions) (flat_map reserved_opaque o.opaque) y.1 in
    let c = names_unreserved o o.constants y.0 in
    let r : (d : ReadDefinition) → OneOf d o.definitions → Unreserved o d.definition.title =
    λ d k. no_offence (is_own d.definition.title || is_standard o.extended d.definition.title) Reserved d.place (each_none (reserved_read o) o.definitions z.0 d k) in
    record {
      globals = subst (Each K) (words_declared a.globals) s1.0;
      definitions = λ d k. (of_flat K names_of_definition a.definitions s2.0 d k).0;
      locals = λ u k. by s4.0 s5.0 u (one_either u (procedure_routines a) (main_routines a a.main) k);
      bound = s5.1;
      constants = c;
      read = r;
      units =
          each_joined IsNotOwn (words o.constants) _ (each_to K IsNotOwn (not_own o) (words o.constants) c)
          (each_joined IsNotOwn (map (λ d. d.definition.title) o.definitions) (flat_map (λ u. u.names) o.opaque)
          (each_mapped IsNotOwn (λ (d : ReadDefinition). d.definition.title) o.definitions (λ d k. not_own o d.definition.title (r d k)))
          (each_flat IsNotOwn (λ (u : Opaque). u.names) o.opaque (λ u k. opaque_names u.place u.names (each_none reserved_opaque o.opaque z.1 u k))));
    }
  where
    by : Each (Unreserved o) (words (flat_map names_of_procedure a.procedures)) → Each (Unreserved o) (words (names_of_main a.main)) → (u : Routine) → OneOf u (procedure_routines a) ⊎ OneOf u (main_routines a a.main) → Each (Unreserved o) (declared (locals u))
    by p m u (inl k) = procedures_unreserved o (first_procedure a) a.procedures p u k
    by p m u (inr k) = main_unreserved o a a.main m u k

-- ---- names declared twice

pub turned : (x y : Word) → bytes_eq x y ≡ false → bytes_eq y x ≡ false
turned x y e = by (bytes_eq y x) refl
  where
    never : true ≡ false → true ≡ false
    never q = q

    by : (b : Bool) → bytes_eq y x ≡ b → b ≡ false
    by true q = never (sym ((bytes_eq-Decides x y).1 (sym ((bytes_eq-Decides y x).0 q))) ∙ e)
    by false q = refl

-- the names of the second list are none of the first
apart_lists : (seen : List Word) (xs ys : List Name) → repeated seen (xs ++ ys) ≡ [] → Each (λ x. Each (λ y. bytes_eq y x ≡ false) (words ys)) (words xs)
apart_lists seen [] ys e = tt
apart_lists seen (n ∷ ns) ys e =
    let p = both_none _ (repeated (n.word ∷ seen) (ns ++ ys)) e in
    let k = split (λ y. is_among (n.word ∷ seen) y ≡ false) ns ys (apart_from (n.word ∷ seen) (ns ++ ys) p.1) in (
      each_to (λ y. is_among (n.word ∷ seen) y ≡ false) (λ y. bytes_eq y n.word ≡ false) (λ y h. turned n.word y (or_parts (bytes_eq n.word y) (is_among seen y) h).0) (words ys) k.1,
      apart_lists (n.word ∷ seen) ns ys p.1,
    )

pub record NamesOnce (o : Outside) (a : Algorithm) : Type 0 where
  pub outside : Each (λ x. is_among (unit_names o) x ≡ false) (declared a.globals)
  pub defined : (d : Definition) → OneOf d a.definitions → Each (λ x. bytes_eq d.name.word x ≡ false) (declared a.globals)

pub kept_once : (o : Outside) (a : Algorithm) → repeated_names a o ≡ [] → NamesOnce o a
kept_once o a e =
    let k = (both_none (repeated (unit_names o) (kept_names a)) _ e).0 in
    let ns = names_of a.globals in
    let ds = map (λ (d : Definition). d.name) a.definitions in
    record {
      outside = subst (Each (λ x. is_among (unit_names o) x ≡ false)) (words_declared a.globals) (split (λ x. is_among (unit_names o) x ≡ false) ns ds (apart_from (unit_names o) (ns ++ ds) k)).0;
      defined = λ d h.
          subst (Each (λ x. bytes_eq d.name.word x ≡ false)) (words_declared a.globals)
          (each_to (λ x. Each (λ y. bytes_eq y x ≡ false) (words ds)) (λ x. bytes_eq d.name.word x ≡ false) (λ x q. of_map (λ y. bytes_eq y x ≡ false) (λ (c : Definition). c.name) a.definitions q d h) (words ns)
          (apart_lists (unit_names o) ns ds k));
    }

-- ---- all rules on names

-- uses, names declared twice, names bound again, reserved names
pub rules_of_names : (a : Algorithm) (o : Outside) → name_offences a o ≡ [] → (use_offences_of a o ≡ []) × (repeated_names a o ≡ []) × (rebind_offences_of a o ≡ []) × (reserved_declared a o ≡ [])
rules_of_names a o h =
    let F = through_each_call a o in
    let p = both_none (offences_of_uses F a o) _ h in
    let q = both_none (offences_of_declarations F a o) (offences_of_reads F a) p.1 in
    let r = both_none (repeated_names a o) _ q.0 in
    let s = both_none F.rebound (reserved_declared a o) r.1 in
    ((both_none F.uses _ p.0).0, r.0, s.0, s.1)
