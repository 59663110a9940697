-- The conjuncts of Init one by one, in an accepted algorithm's module: for a global, and for a routine's own variable of the one body, of a single process and of many
-- processes, each is true just where the walk through the initial values allows the variable's value.
use Rattle.std.proofs.Common.{◌≡◌, List, [], ◌∷◌, ◌++◌, Bool, true, false, cond, bytes_eq, map, Option, Some, None, inl, inr, refl, sym, ◌∙◌, ap, subst, Ok}
use Rattle.std.specs.List.{AllByRecursion}
use Rattle.std.proofs.lemmas.Slice.Eq.{bytes_eq-Decides}
use Rattle.tla_token.specs.declared.place.Place.{Place}
use Rattle.tla_token.specs.Places.{nowhere}
use Rattle.tla_token.specs.Signs.{is_among}
use Rattle.tla_tree.specs.Tree.{Word, words, Tree, Every, graft}
use Rattle.tla_value.specs.Value.{Value, truth, set, Sense, ◌>>=◌}
use Rattle.tla_value.specs.Order.{same, IsAscending, IsCanonical}
use Rattle.tla_value.specs.Stops.{plain, members_at, truth_at}
use Rattle.tla_value.specs.Strict.{same_truth}
use Rattle.tla_value.specs.Meaning.{Env, just, bind, eval}
use Rattle.tla_value.specs.Definitions.{Valuation, Definition, no_state, or_sense, base}
use Rattle.tla_value.specs.Outside.{Outside, ReadDefinition, found}
use Rattle.tla_value.specs.laws.CanonicalNames.{Sound, TestsByValue, MeansAlike}
use Rattle.tla_value.specs.laws.Grafting.{BindsClear}
use Rattle.tla_value.specs.laws.Untitled.{Untitled}
use Rattle.tla_value.proofs.CanonicalTests.{eval_steady, value_kept, means_its_value}
use Rattle.tla_value.proofs.Graft.{grafted_law}
use Rattle.tla_value.proofs.Outcomes.{bound_ok}
use Rattle.tla_value.proofs.ScopesSound.{scope_sound, scope_tests_by_value}
use Rattle.tla_value.proofs.Untitled.{looked_through, untitled_append}
use Rattle.tla_value.proofs.JoinedEval.{Senses}
use Rattle.tla_value.proofs.JoinedScopes.{Envs, eval_in, bound_both, scope_both}
use Rattle.module_tree.specs.Formulas.{self, named, unset_value, function_of_self, is_in}
use Rattle.module_tree.specs.Module.{Region}
use Rattle.module_tree.specs.ModuleTruth.{process_set_defined, all_hold}
use Rattle.module_tree.specs.ActionTruth.{truth_in}
use Rattle.pcal_tree.specs.Algorithm.{Start, unset, equals, among, Declaration, Main, alone, processes, Routine, locals, routines, Algorithm}
use Rattle.pcal_tree.specs.Calls.{defaultInitValue}
use Rattle.pcal_tree.specs.InitialStates.{function_on, has_members, values_for, plain_allowed, spread_allowed, globals_allowed, local_allowed, locals_allowed}
use Rattle.pcal_tree.specs.BoundNames.{lists_in_start}
use Rattle.pcal_tree.specs.OffencesNames.{in_whole, in_start, sight_inside}
use Rattle.pcal_tree.specs.OffencesRebind.{start_rebinds, any_name}
use Rattle.pcal_tree.specs.Outside.{unit_names}
use Rattle.pcal_tree.specs.Processes.{OneOf}
use Rattle.pcal_tree.specs.Program.{Program, Actor, inner, written, routine_scope, global_scope, global_env}
use Rattle.pcal_tree.specs.Scope.{State, Scope, value_of}
use Rattle.pcal_tree.specs.Takers.{Takers, each_of, single, lone}
use Rattle.pcal_tree.specs.Variables.{declared, vars, on_variables}
use Rattle.pcal_tree.proofs.ProcessesInOrder.{id, ids}
use Rattle.action_builder.specs.InitialFormulas.{plain_start, spread_start, written_in, start_by, globals_start}
use Rattle.action_builder.specs.ProcessSets.{process_set_of}
use Rattle.action_builder.specs.SingleProcess.{in_place_of}
use Rattle.action_builder.specs.laws.WrittenScope.{self_bound, NamesApart}
use Rattle.action_builder.proofs.Names.{each_name}
use Rattle.action_builder.proofs.SpreadStarts.{at_each_self, function_is, equal_is, functions_are}
use Rattle.action_builder.proofs.WrittenStarts.{IsNamed, written_expression, Follows, follows_and}
use Rattle.promise.specs.ConstantsAndStates.{AreConstants, IsState}
use Rattle.translation.specs.laws.AcceptedAlgorithm.{IsAcceptedInFile}
use Rattle.translation.specs.laws.AcceptedLaws.{extra_of}
use Rattle.translation.proofs.InitNames.{Bound, sight_of, standings_of, StartFine, is_named, put_clear}
use Rattle.translation.proofs.BoundOf.{AllIn}
use Rattle.translation.proofs.InitScopes.{grows, no_limits, kept}
use Rattle.translation.proofs.InitSets.{P, E, G, globals_grow, all_grow, unset_is, value_grows, is_set}
use Rattle.translation.proofs.NamesApart.{outer, mapped_among, false_among, never, untitled_mapped}
use Rattle.translation.proofs.RoutinesNamed.{among_later, among_before}
use Rattle.translation.proofs.VariableNames.{local_among}
use Rattle.action_builder.proofs.SingleProcess.{put_env, put_there, put_means}

-- ---- what an expression means, as it stands and as it is written

-- the value is the same where there is one, and so is the answer for a canonical value that is tested
pub record Leads (s t : Sense) : Type 0 where
  pub value : (w : Value) → s.value ≡ Ok w → t.value ≡ Ok w
  pub test : (p q : Place) (v : Value) → IsCanonical v → (b : Bool) → s.test p v ≡ Ok b → t.test q v ≡ Ok b

pub grown_leads : (s t : Sense) → Senses grows s t → Leads s t
grown_leads s t h = record { value = λ w e. kept _ _ w h.value e; test = λ p q v c b e. kept _ _ b (h.test p q tt v) e }

alike_leads : (s t u : Sense) → Leads s u → MeansAlike t u → Leads s t
alike_leads s t u l m = record { value = λ w e. m.value ∙ l.value w e; test = λ p q v c b e. m.test q v c ∙ l.test p q v c b e }

-- of the expression of an initial value, if there is one
abbrev pub OfStart : (Tree → Type 0) → Start → Type 0
OfStart A unset = Unit {0}
OfStart A (equals e) = A e
OfStart A (among e) = A e

pub in_is : (x : Word) (e : Tree) (env : Env) (v : Value) (b : Bool) → env.now x nowhere ≡ just v → (eval plain e env).test nowhere v ≡ Ok b → truth_in plain env (is_in true (named x) e) ≡ Ok b
in_is x e env v b d f = (λ i. ((d i).value >>= (λ w. (eval plain e env).test nowhere w >>= (λ c. Ok (truth (same_truth true c))))) >>= (truth_at nowhere)) ∙ (λ i. (f i >>= (λ c. Ok (truth (same_truth true c)))) >>= (truth_at nowhere))

module _ (o : Outside) (a : Algorithm) (h : IsAcceptedInFile o a) (title : Word) (r : Region) (values : Valuation) (k : AreConstants (record { title = title; outside = o; region = r }) values) (s : State) (state : IsState (P o a h title r values k) s) where
  abbrev Q : Program
  Q = P o a h title r values k

  abbrev X : List Definition
  X = extra_of a

  abbrev env : Env
  env = E o a h title r values k s

  -- ---- variables

  pub canonical_at : (x : Word) → is_among (vars Q) x ≡ true → IsCanonical (s x)
  canonical_at x e = each_name (λ y. IsCanonical (s y)) (vars Q) state x e

  variable_untitled : (x : Word) → is_among (vars Q) x ≡ true → Untitled x ((found o.definitions ++ map inner a.definitions) ++ X)
  variable_untitled x e =
      untitled_append x (found o.definitions ++ map inner a.definitions) X
      (untitled_append x (found o.definitions) (map inner a.definitions)
      (untitled_mapped x (λ (d : ReadDefinition). d.definition) o.definitions (λ d m. false_among (bytes_eq d.definition.title x) (λ q. never (sym (titled d m) ∙ ap (is_among (unit_names o)) ((bytes_eq-Decides d.definition.title x).0 q) ∙ (outer o a h values x e).unit))))
      (untitled_mapped x inner a.definitions (outer o a h values x e).defined))
      (no_extra a.main)
    where
      titled : (d : ReadDefinition) → OneOf d o.definitions → is_among (unit_names o) d.definition.title ≡ true
      titled d m =
          among_later (words o.constants) _ d.definition.title
          (among_before (map (λ (c : ReadDefinition). c.definition.title) o.definitions) _ d.definition.title (mapped_among (λ (c : ReadDefinition). c.definition.title) o.definitions d m))

      no_extra : (m : Main) → Untitled x (process_set_defined (process_set_of m))
      no_extra (alone ss) = tt
      no_extra (processes ps) = ((outer o a h values x e).process_set, tt)

  pub variable_is : (x : Word) → is_among (vars Q) x ≡ true → env.now x nowhere ≡ just (s x)
  variable_is x e = looked_through plain ((found o.definitions ++ map inner a.definitions) ++ X) _ x nowhere (variable_untitled x e) ∙ (λ i. or_sense (cond (e i) (Some (s x)) None) ((base plain values).now x nowhere))

  -- ---- the scope

  grows_itself : Envs grows env env
  grows_itself = scope_both grows plain plain no_limits values ((found o.definitions ++ map inner a.definitions) ++ X) (on_variables Q s) no_state

  leads_itself : (t : Tree) → Leads (eval plain t env) (eval plain t env)
  leads_itself t = grown_leads _ _ (eval_in grows plain plain no_limits t env env grows_itself)

  bound_itself : (t : Tree) (v : Value) → Leads (eval plain t (bind self v env)) (eval plain t (bind self v env))
  bound_itself t v = grown_leads _ _ (eval_in grows plain plain no_limits t (bind self v env) (bind self v env) (bound_both grows self env env v grows_itself))

  canonical_state : (x : Word) (v : Value) → on_variables Q s x ≡ Some v → IsCanonical v
  canonical_state x v = by (is_among (vars Q) x) refl
    where
      some_is : (y z : Value) → ◌≡◌ {A = Option Value} (Some y) (Some z) → y ≡ z
      some_is y z e = cc

      by : (b : Bool) → is_among (vars Q) x ≡ b → cond b (Some (s x)) None ≡ Some v → IsCanonical v
      by true q e = subst IsCanonical (some_is (s x) v e) (canonical_at x q)
      by false q e = cc

  pub sound : Sound env
  sound = scope_sound plain value_kept values ((found o.definitions ++ map inner a.definitions) ++ X) (on_variables Q s) no_state k.canonical canonical_state (λ x v e. cc)

  pub by_value : TestsByValue env
  by_value = scope_tests_by_value plain values ((found o.definitions ++ map inner a.definitions) ++ X) (on_variables Q s) no_state

  -- ---- a plain variable

  pub plain_is : (x : Word) → is_among (vars Q) x ≡ true → (f : Tree → Tree) (sc : Scope) (at : Place) (d : Start) → OfStart (λ e. Leads (eval plain e (sc.env s)) (eval plain (f e) env)) d → Follows (plain_allowed Q sc at d s (s x)) (truth_in plain env (plain_start f x d))
  plain_is x m f sc at unset l b e = equal_is x unset_value env (s x) defaultInitValue (variable_is x m) (unset_is o a h title r values k s) ∙ e
  plain_is x m f sc at (equals t) l b e =
      let (w, d, g) = bound_ok (value_of plain t sc s) (λ w. Ok (same (s x) w)) b e in
      equal_is x (f t) env (s x) w (variable_is x m) (l.value w d) ∙ g
  plain_is x m f sc at (among t) l b e = in_is x (f t) env (s x) b (variable_is x m) (l.test at nowhere (s x) (canonical_at x m) b e)

  global_leads : (t : Tree) → Leads (eval plain t (global_env Q s)) (eval plain t env)
  global_leads t = grown_leads _ _ (eval_in grows plain plain no_limits t (global_env Q s) env (globals_grow o a h title r values k s))

  pub globals_hold : (ds : List Declaration) → ((x : Word) → OneOf x (declared ds) → is_among (vars Q) x ≡ true) → Follows (globals_allowed Q ds s) (all_hold plain env (globals_start ds))
  globals_hold [] m = λ b e. e
  globals_hold (d ∷ ds) m = follows_and _ _ _ _ (plain_is d.name.word (m d.name.word (inl refl)) (λ e. e) (global_scope Q) d.name.place d.start (start_leads d.start)) (globals_hold ds (λ x q. m x (inr q)))
    where
      start_leads : (d : Start) → OfStart (λ e. Leads (eval plain e (global_env Q s)) (eval plain e env)) d
      start_leads unset = tt
      start_leads (equals e) = global_leads e
      start_leads (among e) = global_leads e

  -- ---- a routine's own variables

  module _ (u : Routine) (mine : OneOf u (routines a)) where
    abbrev Named : Actor → Type 0
    Named v = (v.self ≡ Some (id v)) × NamesApart Q X v u

    start_named : (d : Declaration) → StartFine o a u d → OfStart (IsNamed Q X u) d.start
    start_named d f = by d.start f.used f.once f.bound
      where
        by : (c : Start) → in_start c (sight_of o a u) ≡ [] → start_rebinds o.extended any_name c (standings_of o a u) ≡ [] → AllIn (Bound o a) (lists_in_start c) → OfStart (IsNamed Q X u) c
        by unset i j l = tt
        by (equals e) i j l = is_named o a h values u mine e i j l
        by (among e) i j l = is_named o a h values u mine e i j l

    start_clear : (t : Tree) → in_whole t (sight_inside a o) ≡ [] → (d : Declaration) → StartFine o a u d → OfStart (λ e. Every (BindsClear plain (in_place_of self t)) (written_in Q u e)) d.start
    start_clear t n d f = by d.start f.used f.once f.bound
      where
        by : (c : Start) → in_start c (sight_of o a u) ≡ [] → start_rebinds o.extended any_name c (standings_of o a u) ≡ [] → AllIn (Bound o a) (lists_in_start c) → OfStart (λ e. Every (BindsClear plain (in_place_of self t)) (written_in Q u e)) c
        by unset i j l = tt
        by (equals e) i j l = put_clear o a h values u mine e i j l t n
        by (among e) i j l = put_clear o a h values u mine e i j l t n

    both_starts : (A B C : Tree → Type 0) → ((e : Tree) → A e → B e → C e) → (c : Start) → OfStart A c → OfStart B c → OfStart C c
    both_starts A B C f unset i j = tt
    both_starts A B C f (equals e) i j = f e i j
    both_starts A B C f (among e) i j = f e i j

    there : (d : Declaration) → OneOf d.name.word (declared (locals u)) → is_among (vars Q) (written Q u d.name.word) ≡ true
    there d m = local_among Q u d.name.word mine m

    -- of the one body
    pub lone_is : (w : Routine) (vs : List Actor) → NamesApart Q X (record { self = None; own = w }) u → (d : Declaration) → OneOf d.name.word (declared (locals u)) → StartFine o a u d
        → Follows (local_allowed Q u false (record { self = None; own = w } ∷ vs) d s) (truth_in plain env (start_by Q u lone (written Q u d.name.word) d.start))
    lone_is w vs apart d m f =
        plain_is (written Q u d.name.word) (there d m) (written_in Q u) (routine_scope Q (record { self = None; own = w }) u) d.name.place d.start
        (both_starts (IsNamed Q X u) (IsNamed Q X u) _ (λ e n i. subst (λ z. Leads z (eval plain (written_in Q u e) env)) (written_expression Q X (record { self = None; own = w }) u apart e n s) (leads_itself (written_in Q u e))) d.start (start_named d f) (start_named d f))

    -- of a single process
    pub single_is : (t : Tree) (i : Value) (w : Routine) → in_whole t (sight_inside a o) ≡ [] → (eval plain t (G o a h title r values k)).value ≡ Ok i → NamesApart Q X (record { self = Some i; own = w }) u
        → (d : Declaration) → OneOf d.name.word (declared (locals u)) → StartFine o a u d
        → Follows (local_allowed Q u false (record { self = Some i; own = w } ∷ []) d s) (truth_in plain env (start_by Q u (single t) (written Q u d.name.word) d.start))
    single_is t i w n q apart d m f =
        plain_is (written Q u d.name.word) (there d m) (λ e. graft (in_place_of self t) (written_in Q u e)) (routine_scope Q (record { self = Some i; own = w }) u) d.name.place d.start
        (both_starts (IsNamed Q X u) (λ e. Every (BindsClear plain (in_place_of self t)) (written_in Q u e)) _ leads d.start (start_named d f) (start_clear t n d f))
      where
        means : MeansAlike (eval plain t env) (just i)
        means = means_its_value t env sound by_value i (value_grows o a h title r values k env (all_grow o a h title r values k s) t i q)

        leads : (e : Tree) → IsNamed Q X u e → Every (BindsClear plain (in_place_of self t)) (written_in Q u e) → Leads (eval plain e ((routine_scope Q (record { self = Some i; own = w }) u).env s)) (eval plain (graft (in_place_of self t) (written_in Q u e)) env)
        leads e n c =
            let x = written_in Q u e in
            subst (λ z. Leads z (eval plain (graft (in_place_of self t) x) env)) (written_expression Q X (record { self = Some i; own = w }) u apart e n s)
            (subst (Leads (eval plain x (bind self i env))) (sym (grafted_law plain (in_place_of self t) x c env (put_env plain self t env) (put_there plain self t env)))
            (alike_leads _ _ _ (bound_itself x i) (eval_steady plain value_kept x (put_env plain self t env) (bind self i env) (put_means plain value_kept self t i env sound means))))

    -- of many processes
    each_value : (e : Tree) → IsNamed Q X u e → (vs : List Actor) → AllByRecursion Named vs → at_each_self (written_in Q u e) env vs ≡ values_for Q u e s vs
    each_value e n [] g = refl
    each_value e n (v ∷ vs) g =
        λ i. ((λ j. (eval plain (written_in Q u e) (self_bound (sym g.0.0 j) env)).value) ∙ (λ j. (written_expression Q X v u g.0.1 e n s j).value)) i
        >>= (λ w. each_value e n vs g.1 i >>= (λ ws. Ok (w ∷ ws)))

    unset_each : (vs : List Actor) → AllByRecursion Named vs → at_each_self unset_value env vs ≡ Ok (map (λ v. defaultInitValue) vs)
    unset_each [] g = refl
    unset_each (v ∷ vs) g = λ i. unset_is o a h title r values k s i >>= (λ y. unset_each vs g.1 i >>= (λ ys. Ok (y ∷ ys)))

    pub spread_is : (S : Tree) (vs : List Actor) → AllByRecursion Named vs → (eval plain S env).value ≡ Ok (set (ids vs)) → IsAscending (ids vs) → (d : Declaration) → OneOf d.name.word (declared (locals u)) → StartFine o a u d
        → Follows (local_allowed Q u true vs d s) (truth_in plain env (start_by Q u (each_of S) (written Q u d.name.word) d.start))
    spread_is S vs g q up d m f = by d.start (start_named d f)
      where
        read : env.now (written Q u d.name.word) nowhere ≡ just (s (written Q u d.name.word))
        read = variable_is (written Q u d.name.word) (there d m)

        by : (c : Start) → OfStart (IsNamed Q X u) c → Follows (spread_allowed Q u vs d.name.place c s (s (written Q u d.name.word))) (truth_in plain env (spread_start (written_in Q u) S (written Q u d.name.word) c))
        by unset n b e =
            equal_is (written Q u d.name.word) (function_of_self S unset_value) env (s (written Q u d.name.word)) (function_on vs (map (λ v. defaultInitValue) vs)) read
            (function_is S unset_value env vs (map (λ v. defaultInitValue) vs) q up (unset_each vs g)) ∙ e
        by (equals t) n b e =
            let (ws, i, j) = bound_ok (values_for Q u t s vs) (λ ws. Ok (same (s (written Q u d.name.word)) (function_on vs ws))) b e in
            equal_is (written Q u d.name.word) (function_of_self S (written_in Q u t)) env (s (written Q u d.name.word)) (function_on vs ws) read (function_is S (written_in Q u t) env vs ws q up (each_value t n vs g ∙ i)) ∙ j
        by (among t) n b e =
            let (w, i, j) = bound_ok (value_of plain t (global_scope Q) s) (λ w. members_at d.name.place w >>= (λ ws. Ok (has_members (ids vs) ws (s (written Q u d.name.word))))) b e in
            let (ws, l, z) = bound_ok (members_at d.name.place w) (λ ws. Ok (has_members (ids vs) ws (s (written Q u d.name.word)))) b j in
            functions_are (written Q u d.name.word) S t env (s (written Q u d.name.word)) w (ids vs) ws (canonical_at (written Q u d.name.word) (there d m)) read q ((global_leads t).value w i ∙ ap (λ y. Ok y) (is_set d.name.place w ws l)) ∙ z

  -- ---- all own variables of a routine

  pub locals_hold : (u : Routine) (t : Takers) (spread : Bool) (vs : List Actor) (ds : List Declaration) → AllByRecursion (λ d. Follows (local_allowed Q u spread vs d s) (truth_in plain env (start_by Q u t (written Q u d.name.word) d.start))) ds
      → Follows (locals_allowed Q u spread vs ds s) (all_hold plain env (map (λ d. start_by Q u t (written Q u d.name.word) d.start) ds))
  locals_hold u t spread vs [] f = λ b e. e
  locals_hold u t spread vs (d ∷ ds) f = follows_and _ _ _ _ f.0 (locals_hold u t spread vs ds f.1)
