-- The written names of an accepted algorithm are apart from each other and from all that has a name in its module, and definitions read none of them: the scope of the
-- written names fits that of each routine.
use Rattle.std.proofs.Common.{◌≡◌, ℕ, suc, List, [], ◌∷◌, ◌++◌, Bool, true, false, not, ◌||◌, cond, bytes_eq, codes, map, Some, None, inl, inr, refl, sym, ◌∙◌, ap, subst, Ok, Err}
use Rattle.std.specs.Ordering.{is_lt}
use Rattle.std.specs.List.{flat_map, AllByRecursion}
use Rattle.std.proofs.lemmas.Bool.{both_ways, or_left, or_right, or_parts}
use Rattle.std.proofs.lemmas.Slice.Eq.{bytes_eq-Decides}
use Rattle.tla_token.specs.Signs.{is_among}
use Rattle.tla_token.specs.Words.{is_reserved, is_own, is_standard, standard_names, begins_fairness}
use Rattle.tla_tree.specs.Tree.{Word, words, Each}
use Rattle.tla_tree.specs.laws.Writable.{IsIdentifier}
use Rattle.tla_value.specs.Value.{Value, Values, no_values, and, Outcome, ◌>>=◌}
use Rattle.tla_value.specs.Order.{order}
use Rattle.tla_value.specs.Stops.{plain}
use Rattle.tla_value.specs.Definitions.{Valuation, Definition}
use Rattle.tla_value.specs.Outside.{Outside, ReadDefinition, found}
use Rattle.tla_value.specs.laws.Untitled.{Untitled}
use Rattle.tla_value.proofs.Outcomes.{ok_is}
use Rattle.module_tree.specs.Formulas.{self}
use Rattle.module_tree.specs.ModuleTruth.{process_set_defined}
use Rattle.module_tree.specs.Walk.{walk}
use Rattle.pcal_tree.specs.Algorithm as tree
use Rattle.pcal_tree.specs.Algorithm.{declares, locals, Process, Main, alone, processes, Routine, process_routine, numbered, first_process, procedure_routines, main_routines, routines, Algorithm}
use Rattle.pcal_tree.specs.Names.{taken_outside, kept, taken_at_start, is_taken, variable, Want, wanted, given}
use Rattle.pcal_tree.specs.OffencesNames.{in_declared, in_definitions, seeing_variables, sight_outside, sight_inside}
use Rattle.pcal_tree.specs.Outside.{unit_names, bound_outside}
use Rattle.pcal_tree.specs.Processes.{identifiers_of, identifier, actors_of, all_actors, last_place, apart, united, placed, sorted, actors_in, OneOf, IsActor}
use Rattle.pcal_tree.specs.Program.{Program, Actor, inner, index, local_index, written}
use Rattle.pcal_tree.specs.Programs.{program_in}
use Rattle.pcal_tree.specs.Variables.{declared, pc, stack, stack_for, written_by_all, vars}
use Rattle.pcal_tree.proofs.ClearLabels.{both_none}
use Rattle.pcal_tree.proofs.FreeNames.{given_apart}
use Rattle.pcal_tree.proofs.FreeWords.{given_free}
use Rattle.pcal_tree.proofs.OneStand.{every_both, runs_routine, united_same}
use Rattle.pcal_tree.proofs.ProcessesInOrder.{apart_gives}
use Rattle.pcal_tree.proofs.RoutineNames.{every_one}
use Rattle.action_builder.specs.OwnVariables.{own_under, own_variables, is_own_variable}
use Rattle.action_builder.specs.ProcessSets.{process_set_of}
use Rattle.action_builder.specs.laws.Scopes.{own_path}
use Rattle.action_builder.specs.laws.WrittenScope.{definitions_of, titles, Common, Aside, AllRead, NamesApart}
use Rattle.action_builder.proofs.Names.{each_name}
use Rattle.translation.specs.laws.AcceptedAlgorithm.{IsAcceptedInFile}
use Rattle.translation.specs.laws.AcceptedLaws.{extra_of, NamesApartLaw}
use Rattle.translation.specs.laws.WritableAlgorithm.{IsWritableAlgorithm}
use Rattle.translation.proofs.AcceptedAlgorithms.{text_writable}
use Rattle.translation.proofs.NamedBodies.{among_one}
use Rattle.translation.proofs.NamesInSight.{UsedOutside, inner_read, outside_read, read_joined}
use Rattle.translation.proofs.NamesOfRules.{Unreserved, not_own, not_standard, turned, NamesFree, names_free, NamesOnce, kept_once, rules_of_names}
use Rattle.translation.proofs.RoutinesNamed.{one_each_of, among_later, among_before, all_wanted, local_wanted, local_free, local_new, no_global}
use Rattle.translation.proofs.VariableNames.{each_to, each_from, none_among, one_is_among, vars_each, own_each, stack_each, local_among, spread_among, one_variable}
use Rattle.pcal_tree.proofs.OneStand.{one_number}
use Rattle.translation.proofs.WrittenIdentifiers.{no_fairness, written_one}

-- ---- processes have identifiers

abbrev pub IsNamed : Actor → Type 0
IsNamed v = (w : Value) × (v.self ≡ Some w)

named_of : (u : Routine) (vs : Values) → AllByRecursion IsNamed (actors_of u vs)
named_of u no_values = tt
named_of u (and v vs) = ((v, refl), named_of u vs)

named_all : (P : Program) (n : ℕ) (ps : List Process) (vs : List Actor) → all_actors P n ps ≡ Ok vs → AllByRecursion IsNamed vs
named_all P n [] vs e = subst (AllByRecursion IsNamed) (ok_is e) tt
named_all P n (p ∷ ps) vs e = by (named_all P (suc n) ps) (identifiers_of P p) e
  where
    by_rest : (is : Values) (o : Outcome (List Actor)) → ((ws : List Actor) → o ≡ Ok ws → AllByRecursion IsNamed ws)
        → o >>= (λ more. Ok (actors_of (process_routine n p) is ++ more)) ≡ Ok vs → AllByRecursion IsNamed vs
    by_rest is (Ok ws) ih e = subst (AllByRecursion IsNamed) (ok_is e) (every_both IsNamed (actors_of (process_routine n p) is) ws (named_of (process_routine n p) is) (ih ws refl))
    by_rest is (Err k) ih e = cc

    by : ((ws : List Actor) → all_actors P (suc n) ps ≡ Ok ws → AllByRecursion IsNamed ws) → (o : Outcome Values)
        → o >>= (λ is. (all_actors P (suc n) ps) >>= (λ more. Ok (actors_of (process_routine n p) is ++ more))) ≡ Ok vs → AllByRecursion IsNamed vs
    by ih (Ok is) e = by_rest is (all_actors P (suc n) ps) ih e
    by ih (Err k) e = cc

named_placed : (v : Actor) (ws : List Actor) → IsNamed v → AllByRecursion IsNamed ws → AllByRecursion IsNamed (placed v ws)
named_placed v [] h k = (h, tt)
named_placed v (w ∷ ws) h k = by (is_lt (order (identifier v.self) (identifier w.self))) (named_placed v ws h k.1)
  where
    by : (b : Bool) → AllByRecursion IsNamed (placed v ws) → AllByRecursion IsNamed (cond b (v ∷ w ∷ ws) (w ∷ placed v ws))
    by true ih = (h, k)
    by false ih = (k.0, ih)

named_sorted : (vs : List Actor) → AllByRecursion IsNamed vs → AllByRecursion IsNamed (sorted vs)
named_sorted [] h = tt
named_sorted (v ∷ vs) h = named_placed v (sorted vs) h.0 (named_sorted vs h.1)

named_main : (P : Program) (ps : List Process) (vs : List Actor) → actors_in P (processes ps) ≡ Ok vs → AllByRecursion IsNamed vs
named_main P ps vs e = by_all (all_actors P (first_process P.algorithm) ps) (named_all P (first_process P.algorithm) ps) e
  where
    by_union : (ws : List Actor) → AllByRecursion IsNamed ws → (o : Outcome (List Actor)) → united P (last_place P.algorithm.name.place ps) ws ≡ o
        → o >>= (λ us. Ok (sorted us)) ≡ Ok vs → AllByRecursion IsNamed vs
    by_union ws h (Ok ts) q e = subst (AllByRecursion IsNamed) (ok_is e) (named_sorted ts (subst (AllByRecursion IsNamed) (united_same P (last_place P.algorithm.name.place ps) ws ts q) h))
    by_union ws h (Err k) q e = cc

    by_apart : (ws : List Actor) → AllByRecursion IsNamed ws → (o : Outcome (List Actor)) → apart [] ws ≡ o
        → o >>= (λ ts. (united P (last_place P.algorithm.name.place ps) ts) >>= (λ us. Ok (sorted us))) ≡ Ok vs → AllByRecursion IsNamed vs
    by_apart ws h (Ok ts) q e = by_union ts (subst (AllByRecursion IsNamed) (sym ((apart_gives [] ws ts q).0)) h) (united P (last_place P.algorithm.name.place ps) ts) refl e
    by_apart ws h (Err k) q e = cc

    by_all : (o : Outcome (List Actor)) → ((ws : List Actor) → o ≡ Ok ws → AllByRecursion IsNamed ws)
        → o >>= (λ ws. (apart [] ws) >>= (λ ts. (united P (last_place P.algorithm.name.place ps) ts) >>= (λ us. Ok (sorted us)))) ≡ Ok vs → AllByRecursion IsNamed vs
    by_all (Ok ws) h e = by_apart ws (h ws refl) (apart [] ws) refl e
    by_all (Err k) h e = cc

-- with processes each has one, and a uniprocess algorithm's one body none
pub self_some : (P : Program) (v : Actor) (ps : List Process) → P.algorithm.main ≡ processes ps → IsActor P v → IsNamed v
self_some P v ps e h = every_one IsNamed v h.0 (named_main P ps h.0 (sym (ap (actors_in P) e) ∙ h.1)) h.2

pub self_none : (P : Program) (v : Actor) (ss : tree.Statements) → P.algorithm.main ≡ alone ss → IsActor P v → v.self ≡ None
self_none P v ss e h = by h.0 (ok_is (sym (ap (actors_in P) e) ∙ h.1)) h.2
  where
    by : (vs : List Actor) → record { self = None; own = tree.alone_routine P.algorithm ss } ∷ [] ≡ vs → OneOf v vs → v.self ≡ None
    by vs q k = one (subst (OneOf v) (sym q) k)
      where
        one : OneOf v (record { self = None; own = tree.alone_routine P.algorithm ss } ∷ []) → v.self ≡ None
        one (inl r) = ap (λ (w : Actor). w.self) r
        one (inr r) = absurd r

-- ---- words

pub own_differs : (w x : Word) → is_own w ≡ true → is_own x ≡ false → bytes_eq w x ≡ false
own_differs w x h k = by (bytes_eq w x) refl
  where
    by : (b : Bool) → bytes_eq w x ≡ b → b ≡ false
    by true q = absurd (both_ways (is_own x) k (ap is_own (sym ((bytes_eq-Decides w x).0 q)) ∙ h))
    by false q = refl

among_differs : (ws : List Word) (w x : Word) → is_among ws w ≡ true → is_among ws x ≡ false → bytes_eq w x ≡ false
among_differs ws w x h k = by (bytes_eq w x) refl
  where
    by : (b : Bool) → bytes_eq w x ≡ b → b ≡ false
    by true q = absurd (both_ways (is_among ws x) k (ap (is_among ws) (sym ((bytes_eq-Decides w x).0 q)) ∙ h))
    by false q = refl

pub mapped_among : {X : Type 0} (f : X → Word) (xs : List X) (x : X) → OneOf x xs → is_among (map f xs) (f x) ≡ true
mapped_among f [] x h = absurd h
mapped_among f (y ∷ ys) x (inl e) = or_left (bytes_eq (f y) (f x)) (is_among (map f ys) (f x)) ((bytes_eq-Decides (f y) (f x)).1 (ap f (sym e)))
mapped_among f (y ∷ ys) x (inr k) = or_right (bytes_eq (f y) (f x)) (is_among (map f ys) (f x)) (mapped_among f ys x k)

-- of the names that the extra definition may have
pub extra_own : (m : Main) (x : Word) → is_among (titles (process_set_defined (process_set_of m))) x ≡ true → is_own x ≡ true
extra_own (alone ss) x e = cc
extra_own (processes ps) x e = by (bytes_eq (codes "ProcSet") x) refl e
  where
    by : (b : Bool) → bytes_eq (codes "ProcSet") x ≡ b → (b || false) ≡ true → is_own x ≡ true
    by true q k = ap is_own (sym ((bytes_eq-Decides (codes "ProcSet") x).0 q))
    by false q k = cc

extra_aside : (N : Word → Type 0) (m : Main) → ((x : Word) → N x → is_among (titles (process_set_defined (process_set_of m))) x ≡ true → ⊥) → Aside N (process_set_defined (process_set_of m))
extra_aside N (alone ss) h = tt
extra_aside N (processes ps) h = (refl, (λ x n. by x n (bytes_eq (codes "ProcSet") x) refl), tt)
  where
    by : (x : Word) → N x → (b : Bool) → bytes_eq (codes "ProcSet") x ≡ b → b ≡ false
    by x n true q = absurd (h x n (ap (λ b. b || false) q))
    by x n false q = refl

pub extra_untitled_by : (x : Word) (m : Main) → bytes_eq (codes "ProcSet") x ≡ false → Untitled x (process_set_defined (process_set_of m))
extra_untitled_by x (alone ss) h = tt
extra_untitled_by x (processes ps) h = (h, tt)

self_no_extra : (m : Main) → is_among (titles (process_set_defined (process_set_of m))) self ≡ false
self_no_extra (alone ss) = refl
self_no_extra (processes ps) = refl

pub untitled_joined : (x : Word) (ds es : List Definition) → Untitled x ds → Untitled x es → Untitled x (ds ++ es)
untitled_joined x [] es h k = k
untitled_joined x (d ∷ ds) es h k = (h.0, untitled_joined x ds es h.1 k)

pub untitled_mapped : {X : Type 0} (x : Word) (f : X → Definition) (xs : List X) → ((y : X) → OneOf y xs → bytes_eq (f y).title x ≡ false) → Untitled x (map f xs)
untitled_mapped x f [] h = tt
untitled_mapped x f (y ∷ ys) h = (h y (inl refl), untitled_mapped x f ys (λ z k. h z (inr k)))

pub false_among : (b : Bool) → (b ≡ true → ⊥) → b ≡ false
false_among true h = absurd (h refl)
false_among false h = refl

pub never : true ≡ false → ⊥
never e = cc

-- ---- an algorithm in a module

-- a variable of the translation: no other has its name
pub record Outer (o : Outside) (a : Algorithm) (x : Word) : Type 0 where
  pub other_self : bytes_eq x self ≡ false
  pub process_set : bytes_eq (codes "ProcSet") x ≡ false
  pub standard : is_among standard_names x ≡ false
  pub unit : is_among (unit_names o) x ≡ false
  pub defined : (d : tree.Definition) → OneOf d a.definitions → bytes_eq d.name.word x ≡ false

pub no_standard : (e : List Word) (x : Word) → is_standard e x ≡ false → is_among standard_names x ≡ false
no_standard e x h =
    (or_parts (is_among standard_names x) _ (or_parts _ _ h).0).0

module _ (o : Outside) (a : Algorithm) (h : IsAcceptedInFile o a) where
  pub writable : IsWritableAlgorithm o a
  writable = text_writable h.file o a h.accepted h.short h.outside

  pub free : NamesFree o a
  free = names_free o a (rules_of_names a o h.accepted.names).3

  pub once : NamesOnce o a
  once = kept_once o a (rules_of_names a o h.accepted.names).1

  -- ---- the variables one by one

  global_outer : (x : Word) → OneOf x (declared a.globals) → Outer o a x
  global_outer x k =
      let u = one_each_of (Unreserved o) (declared a.globals) free.globals x k in
      record {
        other_self = turned self x (own_differs self x refl (not_own o x u));
        process_set = own_differs (codes "ProcSet") x refl (not_own o x u);
        standard = no_standard o.extended x (not_standard o x u);
        unit = one_each_of (λ y. is_among (unit_names o) y ≡ false) (declared a.globals) once.outside x k;
        defined = λ d m. one_each_of (λ y. bytes_eq d.name.word y ≡ false) (declared a.globals) (once.defined d m) x k;
      }

  unit_other : (x : Word) → is_own x ≡ true → is_among (unit_names o) x ≡ false
  unit_other x e = false_among (is_among (unit_names o) x) (λ q. never (sym e ∙ each_name (λ y. is_own y ≡ false) (unit_names o) free.units x q))

  defined_other : (x : Word) → is_own x ≡ true → (d : tree.Definition) → OneOf d a.definitions → bytes_eq d.name.word x ≡ false
  defined_other x e d m = turned x d.name.word (own_differs x d.name.word e (not_own o d.name.word (free.definitions d m)))

  pc_outer : Outer o a pc
  pc_outer = record { other_self = refl; process_set = refl; standard = refl; unit = unit_other pc refl; defined = defined_other pc refl }

  stack_outer : Outer o a stack
  stack_outer = record { other_self = refl; process_set = refl; standard = refl; unit = unit_other stack refl; defined = defined_other stack refl }

  all_taken : AllByRecursion (λ g. is_taken o.extended (taken_at_start a o) g.written ≡ false) (given a o)
  all_taken = given_free o.extended (taken_at_start a o) (wanted a) writable.few (wants_plain (wanted a) (all_wanted o a writable))
    where
      wants_plain : (ws : List Want) → AllByRecursion (λ w. IsIdentifier w.word) ws → AllByRecursion (λ w. begins_fairness w.word ≡ false) ws
      wants_plain [] k = tt
      wants_plain (w ∷ ws) k = (no_fairness w.word k.0, wants_plain ws k.1)

  module _ (values : Valuation) where
    abbrev pub P : Program
    P = program_in plain o a values

    abbrev E : List Definition
    E = extra_of a

    local_taken : (u : Routine) (x : Word) → OneOf u (routines a) → OneOf x (declared (locals u)) → is_taken o.extended (taken_at_start a o) (written P u x) ≡ false
    local_taken u x k l = written_one (λ w. is_taken o.extended (taken_at_start a o) w ≡ false) o.extended (taken_at_start a o) (wanted a) u.number variable x (local_wanted o a writable u x k l) all_taken

    -- a name that is kept is none that is given
    pub kept_differs : (u : Routine) (x : Word) → OneOf u (routines a) → OneOf x (declared (locals u)) → (w : Word) → is_among (kept a) w ≡ true → bytes_eq w (written P u x) ≡ false
    kept_differs u x k l w e = among_differs (taken_at_start a o) w (written P u x) (among_later (taken_outside o) (kept a) w e) (local_new o a writable u x k l)

    definition_kept : (d : tree.Definition) → OneOf d a.definitions → is_among (kept a) d.name.word ≡ true
    definition_kept d m = among_later (declared a.globals) _ d.name.word (among_before (flat_map (λ (c : tree.Definition). c.name.word ∷ words c.params) a.definitions) _ d.name.word (there a.definitions m))
      where
        there : (ds : List tree.Definition) → OneOf d ds → is_among (flat_map (λ (c : tree.Definition). c.name.word ∷ words c.params) ds) d.name.word ≡ true
        there [] m = absurd m
        there (c ∷ cs) (inl q) =
            or_left (bytes_eq c.name.word d.name.word) _ ((bytes_eq-Decides c.name.word d.name.word).1 (ap (λ (b : tree.Definition). b.name.word) (sym q)))
        there (c ∷ cs) (inr m) = among_later (c.name.word ∷ words c.params) (flat_map (λ (b : tree.Definition). b.name.word ∷ words b.params) cs) d.name.word (there cs m)

    local_outer : (u : Routine) → OneOf u (routines a) → (x : Word) → OneOf x (declared (locals u)) → Outer o a (written P u x)
    local_outer u k x l =
        let w = written P u x in
        let t = or_parts _ (is_among (taken_at_start a o) w) (local_taken u x k l) in
        let s = or_parts (is_reserved w || is_own w) (is_standard o.extended w) t.0 in
        let n = (local_free o a writable u x k l).1 in
        record {
          other_self = turned self w (own_differs self w refl n);
          process_set = own_differs (codes "ProcSet") w refl n;
          standard = no_standard o.extended w s.1;
          unit =
              false_among (is_among (unit_names o) w)
              (λ q. never (sym (among_before (taken_outside o) (kept a) w (among_before (unit_names o) (bound_outside o) w q)) ∙ local_new o a writable u x k l));
          defined = λ d m. kept_differs u x k l d.name.word (definition_kept d m);
        }

    pub all_outer : Each (Outer o a) (vars P)
    all_outer = vars_each P (Outer o a) (each_from (Outer o a) (declared a.globals) global_outer) pc_outer stack_outer local_outer

    pub outer : (x : Word) → is_among (vars P) x ≡ true → Outer o a x
    outer x e = each_name (Outer o a) (vars P) all_outer x e

    -- ---- names that mean the same everywhere

    pub self_no_variable : is_among (vars P) self ≡ false
    self_no_variable = none_among (vars P) self (each_to (Outer o a) (λ y. bytes_eq y self ≡ false) (λ y k. k.other_self) (vars P) all_outer)

    pub common_of : (x : Word) → is_among (vars P) x ≡ false → is_among (titles E) x ≡ false → Common P E x
    common_of x v e = (λ i. declares a.globals x || not (v i || e i)) ∙ or_right (declares a.globals x) true refl

    no_extra : (x : Word) → is_own x ≡ false → is_among (titles E) x ≡ false
    no_extra x e = false_among (is_among (titles E) x) (λ q. never (sym (extra_own a.main x q) ∙ e))

    unit_common : (x : Word) → is_among (unit_names o) x ≡ true → is_own x ≡ false → Common P E x
    unit_common x e n = common_of x (false_among (is_among (vars P) x) (λ q. never (sym e ∙ (outer x q).unit))) (no_extra x n)

    pub used_outside : UsedOutside o (Common P E)
    used_outside = record {
      constants = λ x e. unit_common x (among_before (words o.constants) _ x e) (not_own o x (each_name (Unreserved o) (words o.constants) free.constants x e));
      definitions = λ d m.
          unit_common d.definition.title
          (among_later (words o.constants) _ d.definition.title
          (among_before (map (λ (c : ReadDefinition). c.definition.title) o.definitions) _ d.definition.title (mapped_among (λ (c : ReadDefinition). c.definition.title) o.definitions d m)))
          (not_own o d.definition.title (free.read d m));
      self = common_of self self_no_variable (self_no_extra a.main);
      standard = λ x e. common_of x (false_among (is_among (vars P) x) (λ q. never (sym e ∙ (outer x q).standard))) (standard_extra x e a.main);
    }
      where
        standard_extra : (x : Word) → is_among standard_names x ≡ true → (m : Main) → is_among (titles (process_set_defined (process_set_of m))) x ≡ false
        standard_extra x e (alone ss) = refl
        standard_extra x e (processes ps) = (λ i. turned x (codes "ProcSet") (among_differs standard_names x (codes "ProcSet") e refl) i || false)

    pub global_common : (x : Word) → OneOf x (declared a.globals) → Common P E x
    global_common x k = or_left (declares a.globals x) _ (one_is_among (declared a.globals) x k)

    pub defined_common : (d : tree.Definition) → OneOf d a.definitions → Common P E d.name.word
    defined_common d m =
        common_of d.name.word (false_among (is_among (vars P) d.name.word) (λ q. never (sym ((bytes_eq-Decides d.name.word d.name.word).1 refl) ∙ (outer d.name.word q).defined d m)))
        (no_extra d.name.word (not_own o d.name.word (free.definitions d m)))

    common_no_extra : (x : Word) → Common P E x → is_among (titles E) x ≡ true → ⊥
    common_no_extra x n e =
        by (declares a.globals x) refl ((λ i. declares a.globals x || not (is_among (vars P) x || sym e i)) ∙ n)
      where
        no_more : (b : Bool) → not (b || true) ≡ false
        no_more true = refl
        no_more false = refl

        by : (b : Bool) → declares a.globals x ≡ b → (b || not (is_among (vars P) x || true)) ≡ true → ⊥
        by true q k = never (sym (extra_own a.main x e) ∙ not_own o x (each_name (Unreserved o) (declared a.globals) free.globals x q))
        by false q k = never (sym k ∙ no_more (is_among (vars P) x))

    -- ---- own variables

    module _ (v : Actor) (u : Routine) (actor : IsActor P v) (runs : OneOf u (routines a)) where
      own_is : (x : Word) → OneOf x (declared (locals u)) → (m : Main) → a.main ≡ m → local_index v u ≡ own_path (is_own_variable P (written P u x)) (identifier v.self)
      own_is x l (alone ss) e =
          (λ i. cond u.spread (index (self_none P v ss e actor i)) []) ∙ nothing u.spread ∙ sym (ap (λ b. own_path b (identifier v.self)) (ap (λ m. is_among (own_under P (procedure_routines a) (main_routines a m) m) (written P u x)) e))
        where
          nothing : (b : Bool) → cond b (index None) [] ≡ []
          nothing true = refl
          nothing false = refl
      own_is x l (processes ps) e = by u.spread refl (self_some P v ps e actor)
        where
          index_is : (w : Value) → v.self ≡ Some w → index v.self ≡ identifier v.self ∷ []
          index_is w q = ap index q ∙ (λ i. identifier (sym q i) ∷ [])

          by : (b : Bool) → u.spread ≡ b → IsNamed v → cond b (index v.self) [] ≡ own_path (is_own_variable P (written P u x)) (identifier v.self)
          by true s n = index_is n.0 n.1 ∙ sym (ap (λ b. own_path b (identifier v.self)) (spread_among P ps a.main u x e s runs l))
          by false s n = sym (ap (λ b. own_path b (identifier v.self)) (none_among (own_variables P) (written P u x) apart_own))
            where
              w : Word
              w = written P u x

              not_ours : is_own w ≡ false
              not_ours = (local_free o a writable u x runs l).1

              other : (z : Routine) → OneOf z (routines a) → z.spread ≡ true → (y : Word) → OneOf y (declared (locals z)) → bytes_eq (written P z y) w ≡ false
              other z k t y m =
                  false_among (bytes_eq (written P z y) w)
                  (λ q.
                  let same = one_variable o.extended (taken_at_start a o) (wanted a) z.number u.number y x (given_apart o.extended (taken_at_start a o) (wanted a) writable.few) (local_wanted o a writable z y k m) (local_wanted o a writable u x runs l) ((bytes_eq-Decides (written P z y) w).0 q) in
                  never (sym t ∙ ap (λ (r : Routine). r.spread) (one_number a z u k runs same.0) ∙ s))

              apart_own : Each (λ y. bytes_eq y w ≡ false) (own_variables P)
              apart_own = own_each P (λ y. bytes_eq y w ≡ false) (own_differs pc w refl not_ours) (stack_each P (λ y. bytes_eq y w ≡ false) (procedure_routines a) (own_differs stack w refl not_ours)) other

      own_there : (x : Word) → is_own_variable P x ≡ true → is_among (vars P) x ≡ true
      own_there x e = each_name (λ y. is_among (vars P) y ≡ true) (own_variables P) (own_each P (λ y. is_among (vars P) y ≡ true) pc_there (each_from (λ y. is_among (vars P) y ≡ true) (stack_for us) stack_there) (λ z k t y m. local_among P z y k m)) x e
        where
          us : List Routine
          us = procedure_routines a

          behind : (y : Word) → is_among (declared a.globals ++ (pc ∷ stack_for us)) y ≡ true → is_among (vars P) y ≡ true
          behind y k =
              among_before ((declared a.globals ++ (pc ∷ stack_for us)) ++ written_by_all P us) (written_by_all P (main_routines a a.main)) y
              (among_before (declared a.globals ++ (pc ∷ stack_for us)) (written_by_all P us) y k)

          pc_there : is_among (vars P) pc ≡ true
          pc_there = behind pc (among_later (declared a.globals) (pc ∷ stack_for us) pc refl)

          stack_there : (y : Word) → OneOf y (stack_for us) → is_among (vars P) y ≡ true
          stack_there y k = behind y (among_later (declared a.globals) (pc ∷ stack_for us) y (or_right (bytes_eq pc y) (is_among (stack_for us) y) (one_is_among (stack_for us) y k)))

      own_named : (x : Word) → (m : Main) → a.main ≡ m → is_own_variable P x ≡ true → IsNamed v
      own_named x (alone ss) e k = absurd (none (sym (ap (λ m. is_among (own_under P (procedure_routines a) (main_routines a m) m) x) e) ∙ k))
        where
          none : false ≡ true → ⊥
          none q = cc
      own_named x (processes ps) e k = self_some P v ps e actor

      global_plain : (x : Word) → declares a.globals x ≡ true → is_own_variable P x ≡ false
      global_plain x e =
          none_among (own_variables P) x
          (own_each P (λ y. bytes_eq y x ≡ false) (own_differs pc x refl plain_name) (stack_each P (λ y. bytes_eq y x ≡ false) (procedure_routines a) (own_differs stack x refl plain_name))
          (λ z k t y m. false_among (bytes_eq (written P z y) x) (λ q. never (sym e ∙ ap (declares a.globals) (sym ((bytes_eq-Decides (written P z y) x).0 q)) ∙ no_global o a writable (written P z y) (local_new o a writable z y k m)))))
        where
          plain_name : is_own x ≡ false
          plain_name = not_own o x (each_name (Unreserved o) (declared a.globals) free.globals x e)

      global_there : (x : Word) → declares a.globals x ≡ true → is_among (vars P) x ≡ true
      global_there x e =
          let us = procedure_routines a in
          among_before ((declared a.globals ++ (pc ∷ stack_for us)) ++ written_by_all P us) (written_by_all P (main_routines a a.main)) x
          (among_before (declared a.globals ++ (pc ∷ stack_for us)) (written_by_all P us) x (among_before (declared a.globals) (pc ∷ stack_for us) x e))

      all_untitled : (x : Word) → is_among (vars P) x ≡ true → Untitled x (definitions_of P ++ E)
      all_untitled x e =
          let k = outer x e in
          untitled_joined x (definitions_of P) E
          (untitled_joined x (found o.definitions) (map inner a.definitions)
          (untitled_mapped x (λ (d : ReadDefinition). d.definition) o.definitions (λ d m. among_differs (unit_names o) d.definition.title x (titled d m) k.unit))
          (untitled_mapped x inner a.definitions k.defined))
          (extra_untitled_by x a.main k.process_set)
        where
          titled : (d : ReadDefinition) → OneOf d o.definitions → is_among (unit_names o) d.definition.title ≡ true
          titled d m =
              among_later (words o.constants) _ d.definition.title
              (among_before (map (λ (c : ReadDefinition). c.definition.title) o.definitions) _ d.definition.title (mapped_among (λ (c : ReadDefinition). c.definition.title) o.definitions d m))

      inner_definitions : AllRead (Common P E) (map inner a.definitions)
      inner_definitions =
          let q = (both_none (in_declared a.globals (sight_inside a o)) _ (rules_of_names a o h.accepted.names).0).1 in
          inner_read o (Common P E) used_outside a global_common defined_common (both_none (in_definitions a.definitions (seeing_variables (declared a.globals) (sight_outside o))) _ q).0

      pub names_apart : NamesApart P E v u
      names_apart = record {
        self_free = self_no_variable;
        self_untitled = self_no_extra a.main;
        self_local =
            none_among (declared (locals u)) self (each_to (Unreserved o) (λ y. bytes_eq y self ≡ false) (λ y k. turned self y (own_differs self y refl (not_own o y k))) (declared (locals u)) (free.locals u runs));
        local = λ x e. local_among P u x runs (among_one (declared (locals u)) x e);
        path = λ x e. own_is x (among_one (declared (locals u)) x e) a.main refl;
        global = λ x e. (global_there x e, global_plain x e);
        own = λ x e. (own_there x e, own_named x a.main refl e);
        untitled = all_untitled;
        definitions = read_joined (Common P E) (found o.definitions) (map inner a.definitions) (outside_read (walk h.file) o (Common P E) h.outside used_outside) inner_definitions;
        aside = extra_aside (Common P E) a.main common_no_extra;
      }

-- written names are apart, and definitions read none of them
pub names_apart_law : NamesApartLaw IsAcceptedInFile
names_apart_law o g h values v u actor runs = names_apart o g h values v u actor (runs_routine (program_in plain o g values) v u actor runs)
