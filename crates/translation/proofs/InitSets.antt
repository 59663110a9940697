-- The scope of Init in an accepted algorithm's module: names outside routines have in it the values that they have where identifiers and globals are looked at, and the
-- sets of processes and ProcSet have the identifiers of the processes.
use Rattle.std.proofs.Common.{◌≡◌, ℕ, suc, List, [], ◌∷◌, ◌++◌, Bool, true, false, ◌||◌, cond, bytes_eq, codes, map, Some, None, inl, inr, refl, sym, ◌∙◌, ap, subst, Ok, Err}
use Rattle.std.proofs.lemmas.Slice.Eq.{bytes_eq-Decides}
use Rattle.tla_token.specs.declared.place.Place.{Place}
use Rattle.tla_token.specs.Places.{nowhere}
use Rattle.tla_token.specs.Signs.{is_among}
use Rattle.tla_token.specs.Words.{is_own, standard_names}
use Rattle.tla_tree.specs.Tree.{Word, words, Each, Tree, set_of, root_place}
use Rattle.tla_value.specs.Value.{Value, Values, no_values, and, truth, int, text, model, fun, set, Outcome, ◌>>=◌}
use Rattle.tla_value.specs.Order.{holds, IsAscending, IsCanonical, AreCanonical}
use Rattle.tla_value.specs.Strict.{strict_value}
use Rattle.tla_value.specs.Stops.{plain, members_at}
use Rattle.tla_value.specs.Standard.{standard_name}
use Rattle.tla_value.specs.Meaning.{Env, just, bind, eval}
use Rattle.tla_value.specs.Definitions.{Valuation, Definition, no_state, or_sense, base, in_states, at_use, with_definitions, scope_of}
use Rattle.tla_value.specs.Outside.{Outside, ReadDefinition, found}
use Rattle.tla_value.specs.laws.CanonicalNames.{Proper, Sound, TestsByValue}
use Rattle.tla_value.specs.laws.Untitled.{Untitled}
use Rattle.tla_value.proofs.CanonicalEval.{eval_canonical}
use Rattle.tla_value.proofs.CanonicalTests.{value_kept, means_its_value}
use Rattle.tla_value.proofs.Outcomes.{ok_is, bound_ok}
use Rattle.tla_value.proofs.ScopesSound.{scope_sound, scope_tests_by_value}
use Rattle.tla_value.proofs.Untitled.{looked_through, untitled_append}
use Rattle.tla_value.proofs.JoinedScopes.{Envs, eval_in}
use Rattle.module_tree.specs.Formulas.{self, process_set, unset_value}
use Rattle.module_tree.specs.Module.{Region}
use Rattle.module_tree.specs.ModuleTruth.{process_set_defined}
use Rattle.pcal_tree.specs.Algorithm.{declares, Process, Main, alone, processes, process_routine, first_process, procedure_routines, main_routines, Algorithm}
use Rattle.pcal_tree.specs.Calls.{defaultInitValue}
use Rattle.pcal_tree.specs.Processes.{one_value, identifiers_of, actors_of, all_actors, apart, united, last_place, sorted, actors_in, actors}
use Rattle.pcal_tree.specs.Program.{Program, Actor, inner, globals_on, common_env, global_env, written}
use Rattle.pcal_tree.specs.Programs.{program_in}
use Rattle.pcal_tree.specs.Scope.{State}
use Rattle.pcal_tree.specs.Takers.{takers_of, each_of, single}
use Rattle.pcal_tree.specs.Variables.{declared, pc, stack_for, written_by_all, vars, on_variables}
use Rattle.pcal_tree.proofs.ProcessesInOrder.{ids, Distinct, apart_gives, ids_of_actors, all_parts, ids_both}
use Rattle.action_builder.specs.ProcessSets.{set_of_takers, sets_of_processes, union, process_set_of}
use Rattle.action_builder.specs.laws.WrittenScope.{definitions_of}
use Rattle.action_builder.proofs.ProcSetIs.{AreSets, held_in, process_set_is}
use Rattle.promise.specs.ConstantsAndStates.{AreConstants}
use Rattle.translation.specs.laws.AcceptedAlgorithm.{IsAcceptedInFile}
use Rattle.translation.specs.laws.AcceptedLaws.{extra_of}
use Rattle.translation.proofs.InitScopes.{grows, no_limits, kept, Lacks, NoValue, Fits, scope_grows, scope_lacks, bound_grows, with_both, set_grows}
use Rattle.translation.proofs.NamesApart.{writable, free, outer, own_differs, false_among, never, untitled_mapped}
use Rattle.translation.proofs.NamesOfRules.{Unreserved, not_own, turned}
use Rattle.translation.proofs.RoutinesNamed.{among_before, local_free}
use Rattle.translation.proofs.VariableNames.{each_to, none_among, vars_each}
use Rattle.action_builder.proofs.Names.{each_name}

pub is_set : (at : Place) (w : Value) (ws : Values) → members_at at w ≡ Ok ws → w ≡ set ws
is_set at (set vs) ws e = ap set (ok_is e)
is_set at (truth b) ws e = cc
is_set at (int z) ws e = cc
is_set at (text w) ws e = cc
is_set at (model w) ws e = cc
is_set at (fun us vs) ws e = cc

-- a word that is no standard name
not_the : (w x : Word) → is_among standard_names w ≡ true → is_among standard_names x ≡ false → bytes_eq w x ≡ false
not_the w x s e = false_among (bytes_eq w x) (λ q. never (sym s ∙ ap (is_among standard_names) ((bytes_eq-Decides w x).0 q) ∙ e))

-- an own name is no name of the user's
not_user : (w x : Word) → is_own w ≡ false → is_own x ≡ true → bytes_eq w x ≡ false
not_user w x h k = false_among (bytes_eq w x) (λ q. never (sym (ap is_own ((bytes_eq-Decides w x).0 q) ∙ k) ∙ h))

module _ (o : Outside) (a : Algorithm) (h : IsAcceptedInFile o a) (title : Word) (r : Region) (values : Valuation) (k : AreConstants (record { title = title; outside = o; region = r }) values) where
  abbrev pub P : Program
  P = program_in plain o a values

  abbrev ds : List Definition
  ds = definitions_of P

  -- where identifiers are looked at, where ProcSet is defined, and where Init is
  abbrev pub G : Env
  G = common_env P no_state

  abbrev F : State → Env
  F s = scope_of plain values ds (on_variables P s) no_state

  abbrev pub E : State → Env
  E s = scope_of plain values (ds ++ extra_of a) (on_variables P s) no_state

  -- ---- names

  no_constant : (x : Word) → is_own x ≡ true → is_among (words o.constants) x ≡ false
  no_constant x e = none_among (words o.constants) x (each_to (Unreserved o) (λ y. bytes_eq y x ≡ false) (λ y u. not_user y x (not_own o y u) e) (words o.constants) (free o a h).constants)

  unset_differs : Each (λ y. bytes_eq (codes "defaultInitValue") y ≡ false) (vars P)
  unset_differs =
      vars_each P (λ y. bytes_eq (codes "defaultInitValue") y ≡ false)
      (each_to (Unreserved o) (λ y. bytes_eq (codes "defaultInitValue") y ≡ false) (λ y u. own_differs (codes "defaultInitValue") y refl (not_own o y u)) (declared a.globals) (free o a h).globals) refl refl
      (λ u m x l. own_differs (codes "defaultInitValue") (written P u x) refl (local_free o a (writable o a h) u x m l).1)

  variable_alone : (x : Word) → is_among (vars P) x ≡ true → NoValue values x
  variable_alone x e =
      let q = outer o a h values x e in (
        k.no_other x
            (λ i. each_name (λ y. bytes_eq (codes "defaultInitValue") y ≡ false) (vars P) unset_differs x e i
            || false_among (is_among (words o.constants) x) (λ m. never (sym (among_before (words o.constants) _ x m) ∙ q.unit)) i),
        not_the (codes "Nat") x refl q.standard,
        not_the (codes "Int") x refl q.standard,
      )

  global_there : (x : Word) → declares a.globals x ≡ true → is_among (vars P) x ≡ true
  global_there x e =
      let us = procedure_routines a in
      among_before ((declared a.globals ++ (pc ∷ stack_for us)) ++ written_by_all P us) (written_by_all P (main_routines a a.main)) x
      (among_before (declared a.globals ++ (pc ∷ stack_for us)) (written_by_all P us) x (among_before (declared a.globals) (pc ∷ stack_for us) x e))

  globals_fit : (s : State) (x : Word) → Fits values (globals_on s a.globals) (on_variables P s) x
  globals_fit s x = by (declares a.globals x) refl (is_among (vars P) x) refl
    where
      by : (b : Bool) → declares a.globals x ≡ b → (c : Bool) → is_among (vars P) x ≡ c → Fits values (globals_on s a.globals) (on_variables P s) x
      by true e c f = inl (λ i. cond ((e ∙ sym (global_there x e)) i) (Some (s x)) None)
      by false e true f = inr (ap (λ b. cond b (Some (s x)) None) e, variable_alone x f)
      by false e false f = inl (λ i. cond ((e ∙ sym f) i) (Some (s x)) None)

  none_fit : (s : State) (x : Word) → Fits values no_state (on_variables P s) x
  none_fit s x = by (is_among (vars P) x) refl
    where
      by : (c : Bool) → is_among (vars P) x ≡ c → Fits values no_state (on_variables P s) x
      by true f = inr (refl, variable_alone x f)
      by false f = inl (sym (ap (λ b. cond b (Some (s x)) None) f))

  own_untitled : (x : Word) → is_own x ≡ true → Untitled x ds
  own_untitled x e =
      untitled_append x (found o.definitions) (map inner a.definitions)
      (untitled_mapped x (λ (d : ReadDefinition). d.definition) o.definitions (λ d m. not_user d.definition.title x (not_own o d.definition.title ((free o a h).read d m)) e))
      (untitled_mapped x inner a.definitions (λ d m. not_user d.name.word x (not_own o d.name.word ((free o a h).definitions d m)) e))

  own_lacks : (x : Word) → is_own x ≡ true → bytes_eq (codes "defaultInitValue") x ≡ false → bytes_eq (codes "Nat") x ≡ false → bytes_eq (codes "Int") x ≡ false
      → (s : Valuation) → s x ≡ None → (y : Word) (at : Place) → bytes_eq x y ≡ true → Lacks ((scope_of plain values ds s no_state).now y at)
  own_lacks x e f g j s n y at q =
      subst (λ z. Lacks ((scope_of plain values ds s no_state).now z at)) ((bytes_eq-Decides x y).0 q)
      (scope_lacks values ds s x at (own_untitled x e) n (k.no_other x (λ i. f i || no_constant x e i), g, j))

  no_global : (x : Word) → is_own x ≡ true → declares a.globals x ≡ false
  no_global x e = none_among (declared a.globals) x (each_to (Unreserved o) (λ y. bytes_eq y x ≡ false) (λ y u. not_user y x (not_own o y u) e) (declared a.globals) (free o a h).globals)

  -- ---- scopes

  init_is : (s : State) → E s ≡ with_definitions plain (extra_of a) (F s)
  init_is s = with_both ds (extra_of a) (in_states (on_variables P s) no_state (base plain values))

  -- where ProcSet is defined
  identities_grow : (s : State) → Envs grows G (F s)
  identities_grow s = scope_grows values ds no_state (on_variables P s) (none_fit s)

  set_lacks : (s : Valuation) → s (codes "ProcSet") ≡ None → (y : Word) (at : Place) → bytes_eq (codes "ProcSet") y ≡ true → Lacks ((scope_of plain values ds s no_state).now y at)
  set_lacks s n = own_lacks (codes "ProcSet") refl refl refl refl s n

  pub globals_grow : (s : State) → Envs grows (global_env P s) (E s)
  globals_grow s =
      subst (Envs grows (global_env P s)) (sym (init_is s))
      (set_grows (process_set_of a.main) (global_env P s) (F s) (set_lacks (globals_on s a.globals) (ap (λ b. cond b (Some (s (codes "ProcSet"))) None) (no_global (codes "ProcSet") refl)))
      (scope_grows values ds (globals_on s a.globals) (on_variables P s) (globals_fit s)))

  pub all_grow : (s : State) → Envs grows G (E s)
  all_grow s = subst (Envs grows G) (sym (init_is s)) (set_grows (process_set_of a.main) G (F s) (set_lacks no_state refl) (identities_grow s))

  pub each_grows : (s : State) (v : Value) → Envs grows G (bind self v (E s))
  each_grows s v = bound_grows self v G (E s) (own_lacks self refl refl refl refl no_state refl) (all_grow s)

  pub unset_is : (s : State) → (eval plain unset_value (E s)).value ≡ Ok defaultInitValue
  unset_is s =
      ap (λ z. z.value) (looked_through plain (ds ++ extra_of a) _ (codes "defaultInitValue") nowhere (untitled_append (codes "defaultInitValue") ds (extra_of a) (own_untitled (codes "defaultInitValue") refl) (no_extra a.main)))
      ∙ (λ i. (variable i).value)
    where
      no_extra : (m : Main) → Untitled (codes "defaultInitValue") (process_set_defined (process_set_of m))
      no_extra (alone ss) = tt
      no_extra (processes ps) = (refl, tt)

      no_variable : is_among (vars P) (codes "defaultInitValue") ≡ false
      no_variable = none_among (vars P) (codes "defaultInitValue") (each_to (λ y. bytes_eq (codes "defaultInitValue") y ≡ false) (λ y. bytes_eq y (codes "defaultInitValue") ≡ false) (λ y. turned (codes "defaultInitValue") y) (vars P) unset_differs)

      variable : (in_states (on_variables P s) no_state (base plain values)).now (codes "defaultInitValue") nowhere ≡ just defaultInitValue
      variable = λ i. or_sense (cond (no_variable i) (Some (s (codes "defaultInitValue"))) None) (or_sense (k.unset i) (standard_name (codes "defaultInitValue") nowhere))

  -- ---- identifiers

  sound : Sound G
  sound = scope_sound plain value_kept values ds no_state no_state k.canonical (λ x v e. cc) (λ x v e. cc)

  by_value : TestsByValue G
  by_value = scope_tests_by_value plain values ds no_state no_state

  -- the value of the expression of a process
  abbrev pub Gives : Bool → Tree → Values → Type 0
  Gives true t is = (eval plain t G).value ≡ Ok (set is)
  Gives false t is = (i : Value) × (is ≡ and i no_values) × ((eval plain t G).value ≡ Ok i)

  pub identity_gives : (p : Process) (is : Values) → identifiers_of P p ≡ Ok is → Gives p.several p.identity is
  identity_gives p is e =
      let (v, d, f) = bound_ok (eval plain p.identity G).value (one_value p.several (root_place p.identity)) is e in
      by p.several v d f
    where
      by : (b : Bool) (v : Value) → (eval plain p.identity G).value ≡ Ok v → one_value b (root_place p.identity) v ≡ Ok is → Gives b p.identity is
      by true v d f = d ∙ ap (λ w. Ok w) (is_set (root_place p.identity) v is f)
      by false v d f = (v, sym (ok_is f), d)

  pub identity_canonical : (b : Bool) (t : Tree) (is : Values) → Gives b t is → IsAscending is × AreCanonical is
  identity_canonical true t is e = subst Proper e (eval_canonical plain value_kept t G sound)
  identity_canonical false t is (i, q, e) = subst (λ z. IsAscending z × AreCanonical z) (sym q) ((tt, tt), (subst Proper e (eval_canonical plain value_kept t G sound), tt))

  -- where more names have values too
  module _ (X : Env) (grow : Envs grows G X) where
    pub value_grows : (t : Tree) (v : Value) → (eval plain t G).value ≡ Ok v → (eval plain t X).value ≡ Ok v
    value_grows t v e = kept _ _ v (eval_in grows plain plain no_limits t G X grow).value e

    -- and canonical values are tested by it
    pub test_grows : (t : Tree) (v w : Value) → IsCanonical w → (eval plain t G).value ≡ Ok v → (b : Bool) → (members_at nowhere v >>= (λ ws. Ok (holds w ws))) ≡ Ok b → (eval plain t X).test nowhere w ≡ Ok b
    test_grows t v w c e b q = kept _ _ b ((eval_in grows plain plain no_limits t G X grow).test nowhere nowhere tt w) ((means_its_value t G sound by_value v e).test nowhere w c ∙ q)

    taker_set : (p : Process) (is : Values) → Gives p.several p.identity is → (eval plain (set_of_takers (takers_of p)) X).value ≡ Ok (set is)
    taker_set p is = by p.several
      where
        by : (b : Bool) → Gives b p.identity is → (eval plain (set_of_takers (cond b (each_of p.identity) (single p.identity))) X).value ≡ Ok (set is)
        by true e = value_grows p.identity (set is) e
        by false (i, q, e) = (λ j. (value_grows p.identity i e j >>= (λ v. Ok (v ∷ []))) >>= (strict_value plain set_of nowhere)) ∙ ap (λ z. Ok (set z)) (sym q)

    sets_are : (n : ℕ) (ps : List Process) (vs : List Actor) → all_actors P n ps ≡ Ok vs → (vss : List Values) × AreSets X (sets_of_processes ps) vss × ((x : Value) → held_in x vss ≡ holds x (ids vs))
    sets_are n [] vs e = ([], tt, λ x. ap (λ zs. holds x (ids zs)) (ok_is e))
    sets_are n (p ∷ ps) vs e =
        let (is, more, d, f, q) = all_parts P n p ps vs e in
        let (vss, s, g) = sets_are (suc n) ps more f in
        let gives = identity_gives p is d in (
          is ∷ vss,
          (taker_set p is gives, (identity_canonical p.several p.identity is gives).0, s),
          λ x. (λ i. holds x (sym (ids_of_actors (process_routine n p) is) i) || g x i) ∙ sym (ids_both (actors_of (process_routine n p) is) more x) ∙ ap (λ zs. holds x (ids zs)) (sym q),
        )

    pub union_is : (n : ℕ) (ps : List Process) (vs : List Actor) → all_actors P n ps ≡ Ok vs → Distinct vs → (eval plain (union (sets_of_processes ps)) X).value ≡ Ok (set (ids (sorted vs)))
    union_is n [] vs e d = ap (λ zs. Ok (set (ids (sorted zs)))) (ok_is e)
    union_is n (p ∷ ps) vs e d = by (sets_are n (p ∷ ps) vs e)
      where
        by : (vss : List Values) × AreSets X (sets_of_processes (p ∷ ps)) vss × ((x : Value) → held_in x vss ≡ holds x (ids vs)) → (eval plain (union (sets_of_processes (p ∷ ps))) X).value ≡ Ok (set (ids (sorted vs)))
        by ([], s, g) = absurd s
        by (is ∷ vss, s, g) = process_set_is X _ _ is vss s vs d g

  -- ---- all processes

  -- process by process, and in order
  pub record Running (ps : List Process) (ws : List Actor) : Type 0 where
    pub all : List Actor
    pub given : all_actors P (first_process a) ps ≡ Ok all
    pub distinct : Distinct all
    pub ordered : ws ≡ sorted all

  -- what the list of all processes is made of
  made_of : (n : Place) (vs us ts ws : List Actor) → apart [] vs ≡ Ok us → united P n us ≡ Ok ts → sorted ts ≡ ws → Distinct vs × (ws ≡ sorted vs)
  made_of n vs us ts ws g j l =
      let away = apart_gives [] vs us g in
      (away.1, sym l ∙ ap sorted (sym (ok_is j) ∙ away.0))

  pub running_all : (ps : List Process) (ws : List Actor) → a.main ≡ processes ps → actors P ≡ Ok ws → Running ps ws
  running_all ps ws e q = by_all (all_actors P (first_process a) ps) refl (sym (ap (actors_in P) e) ∙ q)
    where
      by_union : (vs us : List Actor) → all_actors P (first_process a) ps ≡ Ok vs → apart [] vs ≡ Ok us → (x : Outcome (List Actor)) → united P (last_place a.name.place ps) us ≡ x → (x >>= (λ ts. Ok (sorted ts))) ≡ Ok ws → Running ps ws
      by_union vs us d g (Ok ts) j l = (let m = made_of (last_place a.name.place ps) vs us ts ws g j (ok_is l) in record { all = vs; given = d; distinct = m.0; ordered = m.1 })
      by_union vs us d g (Err z) j l = cc

      by_apart : (vs : List Actor) → all_actors P (first_process a) ps ≡ Ok vs → (x : Outcome (List Actor)) → apart [] vs ≡ x → (x >>= (λ us. united P (last_place a.name.place ps) us >>= (λ ts. Ok (sorted ts)))) ≡ Ok ws → Running ps ws
      by_apart vs d (Ok us) g l = by_union vs us d g (united P (last_place a.name.place ps) us) refl l
      by_apart vs d (Err z) g l = cc

      by_all : (x : Outcome (List Actor)) → all_actors P (first_process a) ps ≡ x → (x >>= (λ vs. apart [] vs >>= (λ us. united P (last_place a.name.place ps) us >>= (λ ts. Ok (sorted ts))))) ≡ Ok ws → Running ps ws
      by_all (Ok vs) d l = by_apart vs d (apart [] vs) refl l
      by_all (Err z) d l = cc

  pub process_set_gives : (s : State) (ps : List Process) (ws : List Actor) → a.main ≡ processes ps → Running ps ws → (eval plain process_set (E s)).value ≡ Ok (set (ids ws))
  process_set_gives s ps ws e g =
      (λ i. (eval plain process_set (init_is s i)).value)
      ∙ (λ i. (eval plain process_set (with_definitions plain (process_set_defined (process_set_of (e i))) (F s))).value)
      ∙ defined_is
      ∙ union_is (F s) (identities_grow s) (first_process a) ps g.all g.given g.distinct
      ∙ ap (λ zs. Ok (set (ids zs))) (sym g.ordered)
    where
      defined_is : (eval plain process_set (with_definitions plain (process_set_defined (process_set_of (processes ps))) (F s))).value ≡ (eval plain (union (sets_of_processes ps)) (F s)).value
      defined_is = by (eval plain (union (sets_of_processes ps)) (F s)).value
        where
          by : (q : Outcome Value) → at_use false nowhere q ≡ q
          by (Ok v) = refl
          by (Err z) = refl
