-- Without limits the walk through initial values meets no trouble but faults.
use Rattle.std.proofs.Common.{◌≡◌, List, [], ◌∷◌, Bool, true, false, cond, bytes_eq, codes, Option, Some, None, refl, sym, ◌∙◌, Ok, Err}
use Rattle.tla_token.specs.declared.place.Place.{Place}
use Rattle.tla_tree.specs.Tree.{Tree}
use Rattle.tla_value.specs.Value.{Value, truth, int, text, model, set, fun, Outcome, Sense, Trouble, fault, over, ◌>>=◌, in_order, and_then}
use Rattle.tla_value.specs.Stops.{plain, members_at}
use Rattle.tla_value.specs.Strict.{applied}
use Rattle.tla_value.specs.Definitions.{Valuation, or_sense, no_state}
use Rattle.tla_value.specs.Outside.{Outside}
use Rattle.tla_value.proofs.Joined.{Same, then_same, Checks, applications}
use Rattle.tla_value.proofs.JoinedEval.{Senses, senses_of}
use Rattle.tla_value.proofs.JoinedScopes.{Envs, just_both, eval_in}
use Rattle.tla_value.proofs.NeverOver.{faulty, scope_faulty}
use Rattle.pcal_tree.specs.Algorithm.{Start, unset, equals, among, Declaration, declares, Routine, locals, procedure_routines, main_routines, Algorithm}
use Rattle.pcal_tree.specs.InitialStates.{plain_allowed, values_for, spread_allowed, globals_allowed, local_allowed, locals_allowed, is_multiprocess, procedures_allowed, running, processes_allowed, stack_allowed, pc_allowed, allowed}
use Rattle.pcal_tree.specs.Processes.{actors}
use Rattle.pcal_tree.specs.Program.{Program, Actor, globals_on, global_env, local_index, written, read_at, routine_scope, global_scope}
use Rattle.pcal_tree.specs.Programs.{program_in}
use Rattle.pcal_tree.specs.Scope.{State, Scope, value_of}
use Rattle.action_builder.specs.laws.WrittenScope.{definitions_of}

-- ---- outcomes

abbrev pub InLimits : {X : Type 0} → Outcome X → Type 0
InLimits o = (p : Place) → o ≡ Err (over p) → ⊥

given : {X : Type 0} (x : X) → InLimits (Ok x)
given x p e = cc

same_trouble : {X Y : Type 0} (j k : Trouble) → ◌≡◌ {A = Outcome X} (Err j) (Err k) → ◌≡◌ {A = Outcome Y} (Err j) (Err k)
same_trouble j k e = cc

then_limits : {X Y : Type 0} (o : Outcome X) (go : X → Outcome Y) → InLimits o → ((x : X) → InLimits (go x)) → InLimits (o >>= go)
then_limits (Ok x) go h k = k x
then_limits (Err j) go h k = λ p e. h p (same_trouble j (over p) e)

and_limits : (o q : Outcome Bool) → InLimits o → InLimits q → InLimits (and_then o q)
and_limits (Ok true) q h k = k
and_limits (Ok false) q h k = given false
and_limits (Err j) q h k = h

order_limits : {X Y : Type 0} (go : X → Outcome Y) (xs : List X) → ((x : X) → InLimits (go x)) → InLimits (in_order go xs)
order_limits go [] h = given []
order_limits go (x ∷ xs) h = then_limits (go x) _ (h x) (λ y. then_limits (in_order go xs) _ (order_limits go xs h) (λ ys. given (y ∷ ys)))

members_limits : (at : Place) (v : Value) → InLimits (members_at at v)
members_limits at (set vs) p e = cc
members_limits at (truth b) p e = cc
members_limits at (int z) p e = cc
members_limits at (text w) p e = cc
members_limits at (model w) p e = cc
members_limits at (fun us vs) p e = cc

faults_alone : {X : Type 0} (o : Outcome X) → Same faulty o o → InLimits o
faults_alone (Ok x) h = given x
faults_alone (Err (fault k q)) h = λ p e. cc
faults_alone (Err (over q)) h = absurd h.0

no_limits : Checks faulty plain plain
no_limits p q at v = refl

-- ---- scopes

reads_both : (p q : Place) (at : Unit {0}) (ks : List Value) (v : Value) → Same faulty (read_at p ks v) (read_at q ks v)
reads_both p q at [] v = refl
reads_both p q at (k ∷ ks) v = then_same faulty ◌≡◌ (applied p v k) (applied q v k) _ _ (applications faulty p q at v k) (λ w. reads_both p q at ks w)

either_sense : (b : Bool) (s s' t t' : Sense) → Senses faulty s s' → Senses faulty t t' → Senses faulty (cond b s t) (cond b s' t')
either_sense true s s' t t' h k = h
either_sense false s s' t t' h k = k

or_both : (o : Option Value) (s t : Sense) → Senses faulty s t → Senses faulty (or_sense o s) (or_sense o t)
or_both (Some v) s t h = just_both faulty v
or_both None s t h = h

module _ (o : Outside) (a : Algorithm) (values : Valuation) (s : State) where
  abbrev P : Program
  P = program_in plain o a values

  global_faulty : Envs faulty (global_env P s) (global_env P s)
  global_faulty = scope_faulty values (definitions_of P) (globals_on s a.globals) no_state

  routine_faulty : (v : Actor) (u : Routine) → Envs faulty ((routine_scope P v u).env s) ((routine_scope P v u).env s)
  routine_faulty v u = record {
    now = λ x p q at.
        either_sense (bytes_eq (codes "self") x) _ _ _ _ (or_both v.self _ _ (global_faulty.now x p q at))
        (either_sense (declares (locals u) x) _ _ _ _ (senses_of faulty _ _ (reads_both p q at (local_index v u) (s (written P u x)))) (global_faulty.now x p q at));
    primed = global_faulty.primed;
    defs = global_faulty.defs;
  }

  value_limits : (t : Tree) (sc : Scope) → Envs faulty (sc.env s) (sc.env s) → InLimits (value_of plain t sc s)
  value_limits t sc r = faults_alone _ (eval_in faulty plain plain no_limits t (sc.env s) (sc.env s) r).value

  plain_limits : (sc : Scope) → Envs faulty (sc.env s) (sc.env s) → (at : Place) (d : Start) (v : Value) → InLimits (plain_allowed P sc at d s v)
  plain_limits sc r at unset v = given _
  plain_limits sc r at (equals t) v = then_limits (value_of plain t sc s) _ (value_limits t sc r) (λ w. given _)
  plain_limits sc r at (among t) v = faults_alone _ ((eval_in faulty plain plain no_limits t (sc.env s) (sc.env s) r).test at at tt v)

  spread_limits : (u : Routine) (vs : List Actor) (at : Place) (d : Start) (f : Value) → InLimits (spread_allowed P u vs at d s f)
  spread_limits u vs at unset f = given _
  spread_limits u vs at (equals t) f = then_limits (values_for P u t s vs) _ (order_limits _ vs (λ v. value_limits t (routine_scope P v u) (routine_faulty v u))) (λ ws. given _)
  spread_limits u vs at (among t) f = then_limits (value_of plain t (global_scope P) s) _ (value_limits t (global_scope P) global_faulty) (λ w. then_limits (members_at at w) _ (members_limits at w) (λ ws. given _))

  -- ---- the walk

  globals_limits : (ds : List Declaration) → InLimits (globals_allowed P ds s)
  globals_limits [] = given true
  globals_limits (d ∷ ds) = and_limits _ _ (plain_limits (global_scope P) global_faulty d.name.place d.start (s d.name.word)) (globals_limits ds)

  local_limits : (u : Routine) (spread : Bool) (vs : List Actor) (d : Declaration) → InLimits (local_allowed P u spread vs d s)
  local_limits u true vs d = spread_limits u vs d.name.place d.start (s (written P u d.name.word))
  local_limits u false [] d = given true
  local_limits u false (v ∷ vs) d = plain_limits (routine_scope P v u) (routine_faulty v u) d.name.place d.start (s (written P u d.name.word))

  locals_limits : (u : Routine) (spread : Bool) (vs : List Actor) (ds : List Declaration) → InLimits (locals_allowed P u spread vs ds s)
  locals_limits u spread vs [] = given true
  locals_limits u spread vs (d ∷ ds) = and_limits _ _ (local_limits u spread vs d) (locals_limits u spread vs ds)

  procedures_limits : (vs : List Actor) (us : List Routine) → InLimits (procedures_allowed P vs us s)
  procedures_limits vs [] = given true
  procedures_limits vs (u ∷ us) = and_limits _ _ (locals_limits u (is_multiprocess a.main) vs (locals u)) (procedures_limits vs us)

  processes_limits : (vs : List Actor) (us : List Routine) → InLimits (processes_allowed P vs us s)
  processes_limits vs [] = given true
  processes_limits vs (u ∷ us) = and_limits _ _ (locals_limits u u.spread (running u vs) (locals u)) (processes_limits vs us)

  -- where the processes have their identifiers
  pub allowed_in_limits : (vs : List Actor) → actors P ≡ Ok vs → InLimits (allowed P s)
  allowed_in_limits vs e p q =
      and_limits _ _ (globals_limits a.globals)
      (and_limits _ _ (procedures_limits vs (procedure_routines a))
      (and_limits _ _ (processes_limits vs (main_routines a a.main)) (and_limits _ _ (given (stack_allowed P (procedure_routines a) vs s)) (given (pc_allowed P vs s))))) p
      ((λ i. sym e i >>= (λ ws.
      and_then (globals_allowed P a.globals s)
      (and_then (procedures_allowed P ws (procedure_routines a) s)
      (and_then (processes_allowed P ws (main_routines a a.main) s)
      (and_then (Ok (stack_allowed P (procedure_routines a) ws s)) (Ok (pc_allowed P ws s))))))) ∙ q)
