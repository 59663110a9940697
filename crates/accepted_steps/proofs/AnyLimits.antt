-- Written names are apart for a process under any limits, whatever it is: what matters of it is only that it has an identifier where there are processes.
use Rattle.std.proofs.Common.{◌≡◌, [], ◌∷◌, ◌++◌, Bool, true, false, ◌||◌, cond, bytes_eq, map, Some, None, refl, sym, ◌∙◌, ap}
use Rattle.std.proofs.lemmas.Bool.{or_right}
use Rattle.std.proofs.lemmas.Slice.Eq.{bytes_eq-Decides}
use Rattle.tla_token.specs.Signs.{is_among}
use Rattle.tla_token.specs.Words.{is_own}
use Rattle.tla_tree.specs.Tree.{Word, words}
use Rattle.tla_value.specs.Value.{Value}
use Rattle.tla_value.specs.Stops.{Check, plain}
use Rattle.tla_value.specs.Definitions.{Valuation}
use Rattle.tla_value.specs.Outside.{Outside, ReadDefinition, found}
use Rattle.tla_value.specs.laws.Untitled.{Untitled}
use Rattle.module_tree.specs.Formulas.{self}
use Rattle.module_tree.specs.Walk.{walk}
use Rattle.pcal_tree.specs.Algorithm as tree
use Rattle.pcal_tree.specs.Algorithm.{declares, locals, Main, alone, processes, Routine, alone_routine, procedure_routines, main_routines, routines, Algorithm}
use Rattle.pcal_tree.specs.Names.{taken_at_start, wanted}
use Rattle.pcal_tree.specs.OffencesNames.{in_declared, in_definitions, seeing_variables, sight_outside, sight_inside}
use Rattle.pcal_tree.specs.Outside.{unit_names}
use Rattle.pcal_tree.specs.Processes.{identifier, OneOf, IsActor}
use Rattle.pcal_tree.specs.Program.{Program, Actor, inner, index, local_index, written}
use Rattle.pcal_tree.specs.Programs.{program_in}
use Rattle.pcal_tree.specs.Variables.{declared, pc, stack, stack_for, written_by_all, vars}
use Rattle.pcal_tree.proofs.ClearLabels.{both_none}
use Rattle.pcal_tree.proofs.FreeNames.{given_apart}
use Rattle.pcal_tree.proofs.OneStand.{one_number}
use Rattle.action_builder.specs.OwnVariables.{own_under, own_variables, is_own_variable}
use Rattle.action_builder.specs.laws.Scopes.{own_path}
use Rattle.action_builder.specs.laws.WrittenScope.{definitions_of, titles, common, Common, Seen, AllRead, NamesApart}
use Rattle.action_builder.proofs.Names.{each_name}
use Rattle.translation.specs.laws.AcceptedAlgorithm.{IsAcceptedInFile}
use Rattle.translation.specs.laws.AcceptedLaws.{extra_of}
use Rattle.translation.proofs.NamedBodies.{among_one}
use Rattle.translation.proofs.NamesApart.{IsNamed, self_some, self_none, own_differs, mapped_among, untitled_joined, untitled_mapped, false_among, never, Outer, writable, free, outer, self_no_variable, used_outside, global_common, defined_common}
use Rattle.translation.proofs.NamesInSight.{inner_read, outside_read, read_joined}
use Rattle.translation.proofs.NamesOfRules.{Unreserved, not_own, turned, rules_of_names}
use Rattle.translation.proofs.RoutinesNamed.{among_later, among_before, local_wanted, local_free, local_new, no_global}
use Rattle.translation.proofs.VariableNames.{each_to, each_from, none_among, one_is_among, own_each, stack_each, local_among, spread_among, one_variable}
use Rattle.accepted_steps.proofs.Weaker.{fewer_aside, all_read}

-- it has an identifier where there are processes, and none where there is one body
abbrev pub HasIdentifier : Main → Actor → Type 0
HasIdentifier (alone ss) v = v.self ≡ None
HasIdentifier (processes ps) v = IsNamed v

pub has_identifier : (P : Program) (v : Actor) → IsActor P v → HasIdentifier P.algorithm.main v
has_identifier P v actor = by P.algorithm.main refl
  where
    by : (m : Main) → P.algorithm.main ≡ m → HasIdentifier m v
    by (alone ss) e = self_none P v ss e actor
    by (processes ps) e = self_some P v ps e actor

module _ (o : Outside) (a : Algorithm) (h : IsAcceptedInFile o a) (values : Valuation) (c : Check) where
  abbrev P : Program
  P = program_in c o a values

  abbrev Q : Program
  Q = program_in plain o a values

  pub common_less : (x : Word) → Common Q (extra_of a) x → Common P [] x
  common_less x e = fewer_aside (declares a.globals x) (is_among (vars Q) x) (is_among (titles (extra_of a)) x) e

  pub seen_less : (u : Routine) (x : Word) → Seen Q (extra_of a) u x → Seen P [] u x
  seen_less u x e = by (declares (locals u) x) e
    where
      by : (b : Bool) → (b || common Q (extra_of a) x) ≡ true → (b || common P [] x) ≡ true
      by true e = refl
      by false e = common_less x e

  -- ---- variables

  -- before those of routines
  first_among : (x : Word) → is_among (declared a.globals ++ (pc ∷ stack_for (procedure_routines a))) x ≡ true → is_among (vars P) x ≡ true
  first_among x e =
      among_before ((declared a.globals ++ (pc ∷ stack_for (procedure_routines a))) ++ written_by_all P (procedure_routines a)) (written_by_all P (main_routines a a.main)) x
      (among_before (declared a.globals ++ (pc ∷ stack_for (procedure_routines a))) (written_by_all P (procedure_routines a)) x e)

  global_among : (x : Word) → declares a.globals x ≡ true → is_among (vars P) x ≡ true
  global_among x e = first_among x (among_before (declared a.globals) (pc ∷ stack_for (procedure_routines a)) x e)

  -- a name that is none of the translation's, and no variable of a process set or procedure
  none_own : (w : Word) → is_own w ≡ false → ((z : Routine) → OneOf z (routines a) → z.spread ≡ true → (y : Word) → OneOf y (declared (locals z)) → bytes_eq (written P z y) w ≡ false) → is_own_variable P w ≡ false
  none_own w n f =
      none_among (own_variables P) w
      (own_each P (λ y. bytes_eq y w ≡ false) (own_differs pc w refl n) (stack_each P (λ y. bytes_eq y w ≡ false) (procedure_routines a) (own_differs stack w refl n)) f)

  global_shared : (x : Word) → declares a.globals x ≡ true → is_own_variable P x ≡ false
  global_shared x e =
      none_own x (not_own o x (each_name (Unreserved o) (declared a.globals) (free o a h).globals x e))
      (λ z k t y m. false_among (bytes_eq (written P z y) x) (λ q. never (sym e ∙ ap (declares a.globals) (sym ((bytes_eq-Decides (written P z y) x).0 q)) ∙ no_global o a (writable o a h) (written P z y) (local_new o a (writable o a h) z y k m))))

  own_among : (x : Word) → is_own_variable P x ≡ true → is_among (vars P) x ≡ true
  own_among x e =
      each_name (λ y. is_among (vars P) y ≡ true) (own_variables P)
      (own_each P (λ y. is_among (vars P) y ≡ true) (first_among pc (among_later (declared a.globals) (pc ∷ stack_for (procedure_routines a)) pc refl))
      (each_from (λ y. is_among (vars P) y ≡ true) (stack_for (procedure_routines a)) stack_among) (λ z k t y m. local_among P z y k m)) x e
    where
      stack_among : (y : Word) → OneOf y (stack_for (procedure_routines a)) → is_among (vars P) y ≡ true
      stack_among y k =
          first_among y
          (among_later (declared a.globals) (pc ∷ stack_for (procedure_routines a)) y (or_right (bytes_eq pc y) (is_among (stack_for (procedure_routines a)) y) (one_is_among (stack_for (procedure_routines a)) y k)))

  untitled : (x : Word) → is_among (vars P) x ≡ true → Untitled x (definitions_of P ++ [])
  untitled x e =
      untitled_joined x (definitions_of P) []
      (untitled_joined x (found o.definitions) (map inner a.definitions)
      (untitled_mapped x (λ (d : ReadDefinition). d.definition) o.definitions (λ d m. false_among (bytes_eq d.definition.title x) (λ q. never (sym (titled d m) ∙ ap (is_among (unit_names o)) ((bytes_eq-Decides d.definition.title x).0 q) ∙ k.unit)))) (untitled_mapped x inner a.definitions k.defined))
      tt
    where
      k : Outer o a x
      k = outer o a h values x e

      titled : (d : ReadDefinition) → OneOf d o.definitions → is_among (unit_names o) d.definition.title ≡ true
      titled d m =
          among_later (words o.constants) _ d.definition.title
          (among_before (map (λ (c : ReadDefinition). c.definition.title) o.definitions) _ d.definition.title (mapped_among (λ (c : ReadDefinition). c.definition.title) o.definitions d m))

  definitions_common : AllRead (Common P []) (definitions_of P)
  definitions_common =
      let N = Common Q (extra_of a) in
      let q = (both_none (in_declared a.globals (sight_inside a o)) _ (rules_of_names a o h.accepted.names).0).1 in
      let inside = inner_read o N (used_outside o a h values) a (global_common o a h values) (defined_common o a h values) (both_none (in_definitions a.definitions (seeing_variables (declared a.globals) (sight_outside o))) _ q).0 in
      all_read N (Common P []) common_less (definitions_of Q) (read_joined N (found o.definitions) (map inner a.definitions) (outside_read (walk h.file) o N h.outside (used_outside o a h values)) inside)

  -- ---- a process

  module _ (v : Actor) (identity : HasIdentifier a.main v) where
    own_named : (x : Word) → (m : Main) → a.main ≡ m → HasIdentifier m v → is_own_variable P x ≡ true → IsNamed v
    own_named x (alone ss) e i k = absurd (never (sym k ∙ ap (λ m. is_among (own_under P (procedure_routines a) (main_routines a m) m) x) e))
    own_named x (processes ps) e i k = i

    -- of a routine with these variables
    apart_with : (u : Routine) → declares (locals u) self ≡ false → ((x : Word) → declares (locals u) x ≡ true → is_among (vars P) (written P u x) ≡ true)
        → ((x : Word) → declares (locals u) x ≡ true → local_index v u ≡ own_path (is_own_variable P (written P u x)) (identifier v.self)) → NamesApart P [] v u
    apart_with u s l p = record {
      self_free = self_no_variable o a h values;
      self_untitled = refl;
      self_local = s;
      local = l;
      path = p;
      global = λ x e. (global_among x e, global_shared x e);
      own = λ x e. (own_among x e, own_named x a.main refl identity e);
      untitled = untitled;
      definitions = definitions_common;
      aside = tt;
    }

    -- outside of all routines
    pub apart_outside : NamesApart P [] v (alone_routine a tree.done)
    apart_outside = apart_with (alone_routine a tree.done) refl (λ x e. absurd (never (sym e))) (λ x e. absurd (never (sym e)))

    module _ (u : Routine) (k : OneOf u (routines a)) where
      path_is : (x : Word) → OneOf x (declared (locals u)) → (m : Main) → a.main ≡ m → HasIdentifier m v → local_index v u ≡ own_path (is_own_variable P (written P u x)) (identifier v.self)
      path_is x l (alone ss) e i =
          (λ j. cond u.spread (index (i j)) []) ∙ nothing u.spread ∙ sym (ap (λ b. own_path b (identifier v.self)) (ap (λ m. is_among (own_under P (procedure_routines a) (main_routines a m) m) (written P u x)) e))
        where
          nothing : (b : Bool) → cond b (index None) [] ≡ []
          nothing true = refl
          nothing false = refl
      path_is x l (processes ps) e i = by u.spread refl
        where
          index_is : (w : Value) → v.self ≡ Some w → index v.self ≡ identifier v.self ∷ []
          index_is w q = ap index q ∙ (λ j. identifier (sym q j) ∷ [])

          other : u.spread ≡ false → (z : Routine) → OneOf z (routines a) → z.spread ≡ true → (y : Word) → OneOf y (declared (locals z)) → bytes_eq (written P z y) (written P u x) ≡ false
          other s z n t y m =
              false_among (bytes_eq (written P z y) (written P u x))
              (λ q.
              let same = one_variable o.extended (taken_at_start a o) (wanted a) z.number u.number y x (given_apart o.extended (taken_at_start a o) (wanted a) (writable o a h).few) (local_wanted o a (writable o a h) z y n m) (local_wanted o a (writable o a h) u x k l) ((bytes_eq-Decides (written P z y) (written P u x)).0 q) in
              never (sym t ∙ ap (λ (r : Routine). r.spread) (one_number a z u n k same.0) ∙ s))

          by : (b : Bool) → u.spread ≡ b → cond b (index v.self) [] ≡ own_path (is_own_variable P (written P u x)) (identifier v.self)
          by true s = index_is i.0 i.1 ∙ sym (ap (λ b. own_path b (identifier v.self)) (spread_among P ps a.main u x e s k l))
          by false s = sym (ap (λ b. own_path b (identifier v.self)) (none_own (written P u x) ((local_free o a (writable o a h) u x k l).1) (other s)))

      pub apart_inside : NamesApart P [] v u
      apart_inside =
          apart_with u
          (none_among (declared (locals u)) self (each_to (Unreserved o) (λ y. bytes_eq y self ≡ false) (λ y f. turned self y (own_differs self y refl (not_own o y f))) (declared (locals u)) ((free o a h).locals u k)))
          (λ x e. local_among P u x k (among_one (declared (locals u)) x e)) (λ x e. path_is x (among_one (declared (locals u)) x e) a.main refl identity)
