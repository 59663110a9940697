-- A start ends in a state of canonical values, where constants have such; and the processes of an algorithm that starts have different identifiers.
use Rattle.std.proofs.Common.{◌≡◌, ℕ, suc, List, [], ◌∷◌, ◌++◌, Bool, true, false, cond, bytes_eq, codes, map, Option, Some, None, refl, sym, ap, subst, ◌∙◌, inl, inr, ◌==◌, Ok, Err}
use Rattle.tla_token.specs.declared.place.Place.{Place}
use Rattle.tla_tree.specs.Tree.{Word, Tree}
use Rattle.tla_value.specs.Value.{Value, Values, no_values, and, values_in, Trouble, Outcome, Sense, ◌>>=◌}
use Rattle.tla_value.specs.Order.{count, IsAscending, IsCanonical, AreCanonical}
use Rattle.tla_value.specs.Definitions.{Valuation, no_state, or_sense}
use Rattle.tla_value.specs.Outside.{Outside, found}
use Rattle.tla_value.specs.Stops.{plain, members_at}
use Rattle.tla_value.specs.Strict.{applied}
use Rattle.tla_value.specs.laws.CanonicalNames.{Proper as ProperValue, Sound, Has as HasValue}
use Rattle.tla_value.proofs.Canonical.{then_has, IsSet}
use Rattle.tla_value.proofs.CanonicalEval.{eval_canonical, proper_either}
use Rattle.tla_value.proofs.CanonicalForms.{set_proper, applied_proper}
use Rattle.tla_value.proofs.CanonicalTests.{value_kept}
use Rattle.tla_value.proofs.OrderFuns.{seq_from_canonical}
use Rattle.tla_value.proofs.ScopesSound.{scope_sound}
use Rattle.module_tree.specs.Formulas.{process_set}
use Rattle.module_tree.specs.Module.{Region}
use Rattle.pcal_tree.specs.Algorithm.{Start, unset, equals, among, Declaration, declares, Main, alone, processes, Routine, locals, procedure_routines, main_routines, Algorithm}
use Rattle.pcal_tree.specs.Calls.{defaultInitValue, first_label, label_value}
use Rattle.pcal_tree.specs.Choices.{went, walk}
use Rattle.pcal_tree.specs.InitialChoice.{plain_begun, each_chosen, values_begun, spread_begun, globals_begun, local_begun, locals_begun, procedures_begun, processes_begun, own_begun, stack_begun, pc_begun, nothing, started}
use Rattle.pcal_tree.specs.InitialStates.{values_for, function_on, running, is_multiprocess, empty_stack}
use Rattle.pcal_tree.specs.Processes.{actors, actors_in, identifier, Proper}
use Rattle.pcal_tree.specs.Program.{Program, Actor, inner, globals_on, global_env, local_index, read_at, routine_scope, global_scope, written}
use Rattle.pcal_tree.specs.Programs.{program_in}
use Rattle.pcal_tree.specs.Run.{Course, ends, stops, chooses, Courses, no_courses, course, Has, HasSome, after, at_each}
use Rattle.pcal_tree.specs.Scope.{State, put, Scope, value_of}
use Rattle.pcal_tree.specs.Variables.{pc, stack, vars}
use Rattle.pcal_tree.proofs.ProcessesInOrder.{id, ids, running_ascending}
use Rattle.promise.specs.ConstantsAndStates.{AreConstants, IsState}
use Rattle.translation.specs.laws.AcceptedAlgorithm.{IsAcceptedInFile}
use Rattle.translation.proofs.NextScopes.{names_sound, set_there}
use Rattle.translation.proofs.VariableNames.{each_from}
use Rattle.run_answer.proofs.Ends.{ends_in}

-- ---- states and courses

-- each name has a canonical value
abbrev pub Fine : State → Type 0
Fine s = (x : Word) → IsCanonical (s x)

pub put_fine : (x : Word) (v : Value) (s : State) → IsCanonical v → Fine s → Fine (put x v s)
put_fine x v s c f = λ y. by y (bytes_eq x y)
  where
    by : (y : Word) (b : Bool) → IsCanonical (cond b v (s y))
    by y true = c
    by y false = f y

pub fine_state : (P : Program) (s : State) → Fine s → IsState P s
fine_state P s f = each_from (λ x. IsCanonical (s x)) (vars P) (λ x m. f x)

-- all ends are such states
abbrev mutual
  Leads : Course → Type 0
  Leads (ends t) = Fine t
  Leads (stops k) = Unit {0}
  Leads (chooses at cs) = AllLead cs

  AllLead : Courses → Type 0
  AllLead no_courses = Unit {0}
  AllLead (course c cs) = Leads c × AllLead cs

one_end : {t u : State} → ◌≡◌ {A = Outcome State} (Ok t) (Ok u) → u ≡ t
one_end e = cc

no_end : {k : Trouble} {u : State} → ◌≡◌ {A = Outcome State} (Ok u) (Err k) → ⊥
no_end e = cc

mutual
  end_fine : (c : Course) (t : State) → Leads c → Has c (Ok t) → Fine t
  end_fine (ends u) t l h = subst Fine (one_end h) l
  end_fine (stops k) t l h = absurd (no_end h)
  end_fine (chooses at cs) t l h = some_fine cs t l h

  some_fine : (cs : Courses) (t : State) → AllLead cs → HasSome cs (Ok t) → Fine t
  some_fine no_courses t l h = absurd h
  some_fine (course c cs) t l (inl h) = end_fine c t l.0 h
  some_fine (course c cs) t l (inr h) = some_fine cs t l.1 h

after_leads : {X : Type 0} (Q : X → Type 0) (o : Outcome X) (go : X → Course) → HasValue Q o → ((x : X) → Q x → Leads (go x)) → Leads (after o go)
after_leads Q (Ok x) go h l = l x h
after_leads Q (Err k) go h l = tt

each_leads : (vs : Values) (go : Value → Course) → AreCanonical vs → ((v : Value) → IsCanonical v → Leads (go v)) → AllLead (at_each vs go)
each_leads no_values go c l = tt
each_leads (and v vs) go c l = (l v c.0, each_leads vs go c.1 l)

-- ---- names

read_proper : (at : Place) (ks : List Value) (f : Value) → IsCanonical f → ProperValue (read_at at ks f)
read_proper at [] f c = c
read_proper at (k ∷ ks) f c = then_has IsCanonical IsCanonical (applied at f k) (λ v. read_at at ks v) (applied_proper at f k c) (λ v d. read_proper at ks v d)

self_proper : (o : Option Value) (s : Sense) → IsCanonical (identifier o) → ProperValue s.value → ProperValue (or_sense o s).value
self_proper (Some v) s c h = c
self_proper None s c h = h

-- ---- processes

-- they have different identifiers, in canonical order
abbrev pub InOrder : List Actor → Type 0
InOrder vs = IsAscending (ids vs) × AreCanonical (ids vs)

running_canonical : (u : Routine) (vs : List Actor) → AreCanonical (ids vs) → AreCanonical (ids (running u vs))
running_canonical u [] c = tt
running_canonical u (v ∷ vs) c = by (v.own.number == u.number) (running_canonical u vs c.1)
  where
    by : (b : Bool) → AreCanonical (ids (running u vs)) → AreCanonical (ids (cond b (v ∷ running u vs) (running u vs)))
    by true h = (c.0, h)
    by false h = h

running_in_order : (u : Routine) (vs : List Actor) → InOrder vs → InOrder (running u vs)
running_in_order u vs i = (running_ascending u vs i.0, running_canonical u vs i.1)

-- canonical values, one for each process
abbrev Matches : List Actor → List Value → Type 0
Matches vs ws = AreCanonical (values_in ws) × (count (ids vs) ≡ count (values_in ws))

function_canonical : (vs : List Actor) (ws : List Value) → InOrder vs → Matches vs ws → IsCanonical (function_on vs ws)
function_canonical vs ws i m = (i.0, i.1, m.0, m.1)

all_match : (f : Actor → Value) → ((v : Actor) → IsCanonical (f v)) → (vs : List Actor) → Matches vs (map f vs)
all_match f c [] = (tt, refl)
all_match f c (v ∷ vs) = (let m = all_match f c vs in ((c v, m.0), ap suc m.1))

own_fine : (m : Main) (x : Word) (vs : List Actor) (f : Actor → Value) (s : State) → InOrder vs → ((v : Actor) → IsCanonical (f v)) → Fine s → Fine (own_begun m x vs f s)
own_fine (processes ps) x vs f s i c g = put_fine x (function_on vs (map f vs)) s (function_canonical vs (map f vs) i (all_match f c vs)) g
own_fine (alone ss) x [] f s i c g = g
own_fine (alone ss) x (v ∷ vs) f s i c g = put_fine x (f v) s (c v) g

chosen_leads : (at : Place) (ws : Values) → AreCanonical ws → (vs : List Actor) (go : List Value → Course) → ((us : List Value) → Matches vs us → Leads (go us)) → Leads (each_chosen at ws vs go)
chosen_leads at ws c [] go l = l [] (tt, refl)
chosen_leads at ws c (v ∷ vs) go l =
    each_leads ws (λ w. each_chosen at ws vs (λ us. go (w ∷ us))) c (λ w d. chosen_leads at ws c vs (λ us. go (w ∷ us)) (λ us m. l (w ∷ us) ((d, m.0), ap suc m.1)))

-- ---- a start

module _ (o : Outside) (g : Algorithm) (h : IsAcceptedInFile o g) (title : Word) (region : Region) (values : Valuation) (k : AreConstants (record { title = title; outside = o; region = region }) values) where
  abbrev P : Program
  P = program_in plain o g values

  nothing_is : IsState P nothing
  nothing_is = fine_state P nothing (λ x. tt)

  in_order : (vs : List Actor) → actors P ≡ Ok vs → InOrder vs
  in_order vs e = by g.main refl
    where
      same : {ws us : List Actor} → ◌≡◌ {A = Outcome (List Actor)} (Ok ws) (Ok us) → ws ≡ us
      same q = cc

      by : (m : Main) → g.main ≡ m → InOrder vs
      by (alone ss) d = subst InOrder (same (sym (ap (λ (m : Main). actors_in P m) d) ∙ e)) ((tt, tt), (tt, tt))
      by (processes ps) d = subst ProperValue (set_there o g h title region values k nothing nothing ps vs d e) (eval_canonical plain value_kept process_set _ (names_sound o g h title region values k nothing nothing nothing_is nothing_is))

  global_sound : (s : State) → Fine s → Sound (global_env P s)
  global_sound s f = scope_sound plain value_kept values (found o.definitions ++ map inner g.definitions) (globals_on s g.globals) no_state k.canonical (λ x v e. by x v (declares g.globals x) e) (λ x v e. cc)
    where
      same : {v w : Value} → Some v ≡ Some w → v ≡ w
      same e = cc

      by : (x : Word) (v : Value) (b : Bool) → cond b (Some (s x)) None ≡ Some v → IsCanonical v
      by x v true e = subst IsCanonical (same e) (f x)
      by x v false e = cc

  routine_sound : (v : Actor) (u : Routine) → IsCanonical (id v) → (s : State) → Fine s → Sound ((routine_scope P v u).env s)
  routine_sound v u c s f =
      let g = global_sound s f in
      record {
        now = λ x at. proper_either (bytes_eq (codes "self") x) _ _ (self_proper v.self ((global_env P s).now x at) c (g.now x at))
            (proper_either (declares (locals u) x) _ _ (read_proper at (local_index v u) (s (written P u x)) (f (written P u x))) (g.now x at));
        primed = g.primed;
        defs = g.defs;
      }

  -- ---- one variable

  plain_leads : (sc : Scope) → ((s : State) → Fine s → Sound (sc.env s)) → (at : Place) (d : Start) (s : State) (go : Value → Course) → Fine s → ((v : Value) → IsCanonical v → Leads (go v)) → Leads (plain_begun P sc at d s go)
  plain_leads sc n at unset s go f l = l defaultInitValue tt
  plain_leads sc n at (equals e) s go f l = after_leads IsCanonical (value_of plain e sc s) go (eval_canonical plain value_kept e (sc.env s) (n s f)) l
  plain_leads sc n at (among e) s go f l =
      after_leads IsSet ((value_of plain e sc s) >>= (members_at at)) (λ ws. chooses at (at_each ws go))
      (then_has IsCanonical IsSet (value_of plain e sc s) (members_at at) (eval_canonical plain value_kept e (sc.env s) (n s f)) (λ v q. set_proper at v q)) (λ ws w. each_leads ws go w.1 l)

  values_match : (u : Routine) (e : Tree) (s : State) → Fine s → (vs : List Actor) → AreCanonical (ids vs) → HasValue (Matches vs) (values_for P u e s vs)
  values_match u e s f [] c = (tt, refl)
  values_match u e s f (v ∷ vs) c =
      then_has IsCanonical (Matches (v ∷ vs)) (value_of plain e (routine_scope P v u) s) _ (eval_canonical plain value_kept e ((routine_scope P v u).env s) (routine_sound v u c.0 s f))
      (λ w d. then_has (Matches vs) (Matches (v ∷ vs)) (values_for P u e s vs) _ (values_match u e s f vs c.1) (λ ws m. ((d, m.0), ap suc m.1)))

  values_lead : (u : Routine) (vs : List Actor) → InOrder vs → (at : Place) (d : Start) (s : State) (go : List Value → Course) → Fine s → ((ws : List Value) → Matches vs ws → Leads (go ws)) → Leads (values_begun P u vs at d s go)
  values_lead u vs i at unset s go f l = l (map (λ v. defaultInitValue) vs) (all_match (λ v. defaultInitValue) (λ v. tt) vs)
  values_lead u vs i at (equals e) s go f l = after_leads (Matches vs) (values_for P u e s vs) go (values_match u e s f vs i.1) l
  values_lead u vs i at (among e) s go f l =
      after_leads IsSet ((value_of plain e (global_scope P) s) >>= (members_at at)) (λ ws. each_chosen at ws vs go)
      (then_has IsCanonical IsSet (value_of plain e (global_scope P) s) (members_at at) (eval_canonical plain value_kept e (global_env P s) (global_sound s f)) (λ v q. set_proper at v q)) (λ ws w. chosen_leads at ws w.1 vs go l)

  spread_leads : (u : Routine) (vs : List Actor) → InOrder vs → (at : Place) (d : Start) (s : State) (go : Value → Course) → Fine s → ((v : Value) → IsCanonical v → Leads (go v)) → Leads (spread_begun P u vs at d s go)
  spread_leads u vs i at d s go f l = values_lead u vs i at d s (λ ws. after (plain at (function_on vs ws)) go) f (λ ws m. l (function_on vs ws) (function_canonical vs ws i m))

  -- ---- all variables

  abbrev Onward : (State → Course) → Type 0
  Onward go = (s : State) → Fine s → Leads (go s)

  globals_lead : (ds : List Declaration) (s : State) (go : State → Course) → Fine s → Onward go → Leads (globals_begun P ds s go)
  globals_lead [] s go f l = l s f
  globals_lead (d ∷ ds) s go f l =
      plain_leads (global_scope P) global_sound d.name.place d.start s (λ v. globals_begun P ds (put d.name.word v s) go) f (λ v c. globals_lead ds (put d.name.word v s) go (put_fine d.name.word v s c f) l)

  local_leads : (u : Routine) (spread : Bool) (vs : List Actor) → InOrder vs → (d : Declaration) (s : State) (go : State → Course) → Fine s → Onward go → Leads (local_begun P u spread vs d s go)
  local_leads u true vs i d s go f l = spread_leads u vs i d.name.place d.start s (λ w. go (put (written P u d.name.word) w s)) f (λ w c. l (put (written P u d.name.word) w s) (put_fine (written P u d.name.word) w s c f))
  local_leads u false [] i d s go f l = l s f
  local_leads u false (v ∷ vs) i d s go f l =
      plain_leads (routine_scope P v u) (routine_sound v u i.1.0) d.name.place d.start s (λ w. go (put (written P u d.name.word) w s)) f (λ w c. l (put (written P u d.name.word) w s) (put_fine (written P u d.name.word) w s c f))

  locals_lead : (u : Routine) (spread : Bool) (vs : List Actor) → InOrder vs → (ds : List Declaration) (s : State) (go : State → Course) → Fine s → Onward go → Leads (locals_begun P u spread vs ds s go)
  locals_lead u spread vs i [] s go f l = l s f
  locals_lead u spread vs i (d ∷ ds) s go f l = local_leads u spread vs i d s (λ t. locals_begun P u spread vs ds t go) f (λ t e. locals_lead u spread vs i ds t go e l)

  procedures_lead : (vs : List Actor) → InOrder vs → (us : List Routine) (s : State) (go : State → Course) → Fine s → Onward go → Leads (procedures_begun P vs us s go)
  procedures_lead vs i [] s go f l = l s f
  procedures_lead vs i (u ∷ us) s go f l = locals_lead u (is_multiprocess g.main) vs i (locals u) s (λ t. procedures_begun P vs us t go) f (λ t e. procedures_lead vs i us t go e l)

  processes_lead : (vs : List Actor) → InOrder vs → (us : List Routine) (s : State) (go : State → Course) → Fine s → Onward go → Leads (processes_begun P vs us s go)
  processes_lead vs i [] s go f l = l s f
  processes_lead vs i (u ∷ us) s go f l = locals_lead u u.spread (running u vs) (running_in_order u vs i) (locals u) s (λ t. processes_begun P vs us t go) f (λ t e. processes_lead vs i us t go e l)

  stack_fine : (us : List Routine) (vs : List Actor) (s : State) → InOrder vs → Fine s → Fine (stack_begun P us vs s)
  stack_fine [] vs s i f = f
  stack_fine (u ∷ us) vs s i f = own_fine g.main stack vs (λ v. empty_stack) s i (λ v. seq_from_canonical [] tt) f

  abbrev rest : List Actor → Course
  rest vs =
      globals_begun P g.globals nothing (λ s.
      procedures_begun P vs (procedure_routines g) s (λ t.
      processes_begun P vs (main_routines g g.main) t (λ u.
      ends (pc_begun P vs (stack_begun P (procedure_routines g) vs u)))))

  started_leads : Leads (started P)
  started_leads = by (actors P) refl
    where
      by : (r : Outcome (List Actor)) → actors P ≡ r → Leads (after r rest)
      by (Err j) e = tt
      by (Ok vs) e =
          let i = in_order vs e in
          globals_lead g.globals nothing _ (λ x. tt) (λ s f.
          procedures_lead vs i (procedure_routines g) s _ f (λ t d.
          processes_lead vs i (main_routines g g.main) t _ d (λ u c.
          own_fine g.main pc vs (λ v. label_value P v.own (first_label v.own)) (stack_begun P (procedure_routines g) vs u) i (λ v. tt) (stack_fine (procedure_routines g) vs u i c))))

  -- ---- where it ends

  pub start_fine : (ns ms : List ℕ) (t : State) → walk (started P) ns ≡ went t ms → Fine t
  start_fine ns ms t e = end_fine (started P) t started_leads (ends_in (started P) ns ms t e)

  pub start_proper : (ns ms : List ℕ) (t : State) → walk (started P) ns ≡ went t ms → Proper P
  start_proper ns ms t e = by (actors P) refl e
    where
      by : (r : Outcome (List Actor)) → actors P ≡ r → walk (after r rest) ns ≡ went t ms → Proper P
      by (Ok vs) d q = (vs, d)
      by (Err j) d q = cc
