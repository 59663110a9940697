-- A start that goes through ends in an initial state, where no name is put twice and each expression reads only what is there already.
use Rattle.std.proofs.Common.{◌≡◌, ℕ, List, [], ◌∷◌, Bool, true, false, map, refl, sym, ap, subst, ◌∙◌, Ok, bytes_eq}
use Rattle.std.proofs.lemmas.Bool.{or_parts}
use Rattle.tla_token.specs.Signs.{is_among}
use Rattle.tla_tree.specs.Tree.{Word}
use Rattle.tla_value.specs.Value.{Value, Outcome, ◌>>=◌, and_then}
use Rattle.tla_value.specs.Order.{same}
use Rattle.tla_value.specs.OrderLaws.{same_self}
use Rattle.pcal_tree.specs.Algorithm.{Start, unset, equals, among, Declaration, Main, alone, processes, Routine, locals, procedure_routines, main_routines}
use Rattle.pcal_tree.specs.Calls.{first_label, label_value}
use Rattle.pcal_tree.specs.Choices.{walk, went}
use Rattle.pcal_tree.specs.InitialChoice.{nothing, own_begun, stack_begun, pc_begun, started}
use Rattle.pcal_tree.specs.InitialStates.{plain_allowed, spread_allowed, function_on, running, is_multiprocess, empty_stack, globals_allowed, local_allowed, locals_allowed, procedures_allowed, processes_allowed, own_allowed, stack_allowed, pc_allowed, Initial}
use Rattle.pcal_tree.specs.Processes.{actors}
use Rattle.pcal_tree.specs.Program.{Program, Actor, routine_scope, global_scope, global_env, written}
use Rattle.pcal_tree.specs.Scope.{State, put}
use Rattle.pcal_tree.specs.Variables.{pc, stack}
use Rattle.step_walks.specs.FirstValues.{as_declared}
use Rattle.step_walks.specs.Flows.{falls, finish, onward}
use Rattle.step_walks.specs.StartFlows.{plain_flow, spread_flow, globals_flow, local_flow, locals_flow, procedures_flow, processes_flow, ready}
use Rattle.step_walks.proofs.FlowLaws.{finish_onward}
use Rattle.step_walks.proofs.StartLaws.{start_flows}
use Rattle.accepted_steps.specs.StartedStates.{HandsOn}
use Rattle.accepted_steps.proofs.FlowParts.{After, flowing_went, end_is}
use Rattle.accepted_steps.proofs.Lists.{Once, Settles, put_here, put_other, settles_before, settled_here, later_none}
use Rattle.accepted_steps.proofs.Parts.{OfStart, Same, SameForAll, plain_went, spread_went}
use Rattle.accepted_steps.proofs.ScopesOfStates.{global_holding, routine_holding}

-- ---- the names that are put, with those that come later

abbrev pub names_of_globals : List Declaration → List Word → List Word
names_of_globals [] later = later
names_of_globals (d ∷ ds) later = d.name.word ∷ names_of_globals ds later

abbrev pub names_of_locals : Program → Routine → List Declaration → List Word → List Word
names_of_locals P u [] later = later
names_of_locals P u (d ∷ ds) later = written P u d.name.word ∷ names_of_locals P u ds later

abbrev pub names_of_routines : Program → List Routine → List Word → List Word
names_of_routines P [] later = later
names_of_routines P (u ∷ us) later = names_of_locals P u (locals u) (names_of_routines P us later)

abbrev pub own_names : List Word
own_names = stack ∷ pc ∷ []

abbrev pub names_of_processes : Program → List Word
names_of_processes P = names_of_routines P (main_routines P.algorithm P.algorithm.main) own_names

abbrev pub names_of_all_routines : Program → List Word
names_of_all_routines P = names_of_routines P (procedure_routines P.algorithm) (names_of_processes P)

abbrev pub all_names : Program → List Word
all_names P = names_of_globals P.algorithm.globals (names_of_all_routines P)

pub once_globals : (ds : List Declaration) (later : List Word) → Once (names_of_globals ds later) → Once later
once_globals [] later o = o
once_globals (d ∷ ds) later o = once_globals ds later o.1

pub once_locals : (P : Program) (u : Routine) (ds : List Declaration) (later : List Word) → Once (names_of_locals P u ds later) → Once later
once_locals P u [] later o = o
once_locals P u (d ∷ ds) later o = once_locals P u ds later o.1

pub once_routines : (P : Program) (us : List Routine) (later : List Word) → Once (names_of_routines P us later) → Once later
once_routines P [] later o = o
once_routines P (u ∷ us) later o = once_routines P us later (once_locals P u (locals u) (names_of_routines P us later) o)

-- ---- what is read is there already

module _ (P : Program) (l : HandsOn P.check) where
  abbrev pub GlobalsRead : List Declaration → List Word → Type 0
  GlobalsRead [] later = Unit {0}
  GlobalsRead (d ∷ ds) later = ((s z : State) → Settles (names_of_globals (d ∷ ds) later) s z → OfStart (Same P l (global_scope P) s z) d.start) × GlobalsRead ds later

  pub record LocalReads (u : Routine) (d : Declaration) (rest : List Word) : Type 0 where
    pub same : (s z : State) → Settles rest s z → global_env P s ≡ global_env P z
    pub reads : (s z : State) → Settles rest s z → OfStart (SameForAll P l u s z) d.start

  abbrev pub LocalsRead : Routine → List Declaration → List Word → Type 0
  LocalsRead u [] later = Unit {0}
  LocalsRead u (d ∷ ds) later = LocalReads u d (names_of_locals P u (d ∷ ds) later) × LocalsRead u ds later

  abbrev pub RoutinesRead : List Routine → List Word → Type 0
  RoutinesRead [] later = Unit {0}
  RoutinesRead (u ∷ us) later = LocalsRead u (locals u) (names_of_routines P us later) × RoutinesRead us later

  -- ---- states

  -- from s on it goes to u by names before the later ones, and all is allowed on states that have what u has
  pub record Goes (rest later : List Word) (s u : State) (ok : State → Outcome Bool) : Type 0 where
    pub settles : (z : State) → Settles later u z → Settles rest s z
    pub fine : (z : State) → Settles later u z → ok z ≡ Ok true

  both_true : (o p : Outcome Bool) → o ≡ Ok true → p ≡ Ok true → and_then o p ≡ Ok true
  both_true o p h k = ap (λ (q : Outcome Bool). and_then q p) h ∙ k

  globals_went : (ds : List Declaration) (later : List Word) → Once (names_of_globals ds later) → GlobalsRead ds later → (s : State) (ns : List ℕ) (k : After State) (t : State) (ms : List ℕ) → finish (globals_flow (as_declared P) ds s ns) k ≡ went t ms
      → (u : State) × (ks : List ℕ) × Goes (names_of_globals ds later) later s u (globals_allowed P ds) × (k u ks ≡ went t ms)
  globals_went [] later o r s ns k t ms q = (s, ns, record { settles = λ z h. h; fine = λ z h. refl }, q)
  globals_went (d ∷ ds) later o r s ns k t ms q =
      let x = d.name.word in
      let next = λ (v : Value) (ls : List ℕ). globals_flow (as_declared P) ds (put x v s) ls in
      let (v, ls, a, p) = plain_went P l (global_scope P) d.name.place d.start s ns (λ v ls. finish (next v ls) k) t ms (sym (finish_onward (plain_flow (as_declared P).outside d.name.place d.start s ns) next k) ∙ q) in
      let (u, ks, g, e) = globals_went ds later o.1 r.1 (put x v s) ls k t ms p in
      let settles = λ (z : State) (h : Settles later u z). settles_before x v (names_of_globals ds later) s z (g.settles z h) in (
        u,
        ks,
        record {
          settles = settles;
          fine = λ z h. both_true _ _ (ap (λ (w : Value). plain_allowed P (global_scope P) d.name.place d.start z w) (settled_here x v (names_of_globals ds later) s z o.0 (g.settles z h)) ∙ a z (global_holding P l z) (r.0 s z (settles z h))) (g.fine z h);
        },
        e,
      )

  -- ---- a routine's own variables

  local_went : (u : Routine) (spread : Bool) (vs : List Actor) (d : Declaration) (later : List Word) → is_among later (written P u d.name.word) ≡ false → LocalReads u d (written P u d.name.word ∷ later)
      → (s : State) (ns : List ℕ) (k : After State) (t : State) (ms : List ℕ) → finish (local_flow (as_declared P) P u spread vs d s ns) k ≡ went t ms
      → (w : State) × (ks : List ℕ) × Goes (written P u d.name.word ∷ later) later s w (local_allowed P u spread vs d) × (k w ks ≡ went t ms)
  local_went u true vs d later o r s ns k t ms q =
      let x = written P u d.name.word in
      let next = λ (f : Value) (ls : List ℕ). falls (put x f s) ls in
      let (f, ks, a, p) = spread_went P l u vs d.name.place d.start s ns (λ f ls. finish (next f ls) k) t ms (sym (finish_onward (spread_flow (as_declared P) P u vs d.name.place d.start s ns) next k) ∙ q) in (
        put x f s,
        ks,
        record {
          settles = λ z h. settles_before x f later s z h;
          fine = λ z h.
              let b = settles_before x f later s z h in
              ap (λ (v : Value). spread_allowed P u vs d.name.place d.start z v) (settled_here x f later s z o h) ∙ a z (r.same s z b) (r.reads s z b);
        },
        p,
      )
  local_went u false [] d later o r s ns k t ms q =
      (s, ns, record { settles = λ z h x e. h x (later_none (written P u d.name.word) x later e); fine = λ z h. refl }, q)
  local_went u false (v ∷ vs) d later o r s ns k t ms q =
      let x = written P u d.name.word in
      let sc = routine_scope P v u in
      let next = λ (f : Value) (ls : List ℕ). falls (put x f s) ls in
      let (f, ks, a, p) = plain_went P l sc d.name.place d.start s ns (λ f ls. finish (next f ls) k) t ms (sym (finish_onward (plain_flow ((as_declared P).inside v u) d.name.place d.start s ns) next k) ∙ q) in (
        put x f s,
        ks,
        record {
          settles = λ z h. settles_before x f later s z h;
          fine = λ z h.
              let b = settles_before x f later s z h in
              ap (λ (w : Value). plain_allowed P sc d.name.place d.start z w) (settled_here x f later s z o h) ∙ a z (routine_holding P l v u z) (of_one v u s z d.start (r.reads s z b));
        },
        p,
      )
    where
      of_one : (v : Actor) (u : Routine) (s z : State) (d : Start) → OfStart (SameForAll P l u s z) d → OfStart (Same P l (routine_scope P v u) s z) d
      of_one v u s z unset h = tt
      of_one v u s z (equals e) h = h v
      of_one v u s z (among e) h = h v

  locals_went : (u : Routine) (spread : Bool) (vs : List Actor) (ds : List Declaration) (later : List Word) → Once (names_of_locals P u ds later) → LocalsRead u ds later
      → (s : State) (ns : List ℕ) (k : After State) (t : State) (ms : List ℕ) → finish (locals_flow (as_declared P) P u spread vs ds s ns) k ≡ went t ms
      → (w : State) × (ks : List ℕ) × Goes (names_of_locals P u ds later) later s w (locals_allowed P u spread vs ds) × (k w ks ≡ went t ms)
  locals_went u spread vs [] later o r s ns k t ms q = (s, ns, record { settles = λ z h. h; fine = λ z h. refl }, q)
  locals_went u spread vs (d ∷ ds) later o r s ns k t ms q =
      let next = λ (w : State) (ls : List ℕ). locals_flow (as_declared P) P u spread vs ds w ls in
      let (v, ls, a, p) = local_went u spread vs d (names_of_locals P u ds later) o.0 r.0 s ns (λ w ls. finish (next w ls) k) t ms (sym (finish_onward (local_flow (as_declared P) P u spread vs d s ns) next k) ∙ q) in
      let (w, ks, b, e) = locals_went u spread vs ds later o.1 r.1 v ls k t ms p in (
        w,
        ks,
        record {
          settles = λ z h. a.settles z (b.settles z h);
          fine = λ z h. both_true _ _ (a.fine z (b.settles z h)) (b.fine z h);
        },
        e,
      )

  procedures_went : (vs : List Actor) (us : List Routine) (later : List Word) → Once (names_of_routines P us later) → RoutinesRead us later → (s : State) (ns : List ℕ) (k : After State) (t : State) (ms : List ℕ)
      → finish (procedures_flow (as_declared P) P vs us s ns) k ≡ went t ms → (w : State) × (ks : List ℕ) × Goes (names_of_routines P us later) later s w (procedures_allowed P vs us) × (k w ks ≡ went t ms)
  procedures_went vs [] later o r s ns k t ms q = (s, ns, record { settles = λ z h. h; fine = λ z h. refl }, q)
  procedures_went vs (u ∷ us) later o r s ns k t ms q =
      let b = is_multiprocess P.algorithm.main in
      let next = λ (w : State) (ls : List ℕ). procedures_flow (as_declared P) P vs us w ls in
      let rest = names_of_routines P us later in
      let (v, ls, a, p) = locals_went u b vs (locals u) rest o r.0 s ns (λ w ls. finish (next w ls) k) t ms (sym (finish_onward (locals_flow (as_declared P) P u b vs (locals u) s ns) next k) ∙ q) in
      let (w, ks, g, e) = procedures_went vs us later (once_locals P u (locals u) rest o) r.1 v ls k t ms p in (
        w,
        ks,
        record {
          settles = λ z h. a.settles z (g.settles z h);
          fine = λ z h. both_true _ _ (a.fine z (g.settles z h)) (g.fine z h);
        },
        e,
      )

  processes_went : (vs : List Actor) (us : List Routine) (later : List Word) → Once (names_of_routines P us later) → RoutinesRead us later → (s : State) (ns : List ℕ) (k : After State) (t : State) (ms : List ℕ)
      → finish (processes_flow (as_declared P) P vs us s ns) k ≡ went t ms → (w : State) × (ks : List ℕ) × Goes (names_of_routines P us later) later s w (processes_allowed P vs us) × (k w ks ≡ went t ms)
  processes_went vs [] later o r s ns k t ms q = (s, ns, record { settles = λ z h. h; fine = λ z h. refl }, q)
  processes_went vs (u ∷ us) later o r s ns k t ms q =
      let next = λ (w : State) (ls : List ℕ). processes_flow (as_declared P) P vs us w ls in
      let rest = names_of_routines P us later in
      let (v, ls, a, p) = locals_went u u.spread (running u vs) (locals u) rest o r.0 s ns (λ w ls. finish (next w ls) k) t ms (sym (finish_onward (locals_flow (as_declared P) P u u.spread (running u vs) (locals u) s ns) next k) ∙ q) in
      let (w, ks, g, e) = processes_went vs us later (once_locals P u (locals u) rest o) r.1 v ls k t ms p in (
        w,
        ks,
        record {
          settles = λ z h. a.settles z (g.settles z h);
          fine = λ z h. both_true _ _ (a.fine z (g.settles z h)) (g.fine z h);
        },
        e,
      )

  -- ---- the stack and pc

  own_fine : (m : Main) (x : Word) (vs : List Actor) (f : Actor → Value) (s : State) → own_allowed m vs f (own_begun m x vs f s x) ≡ true
  own_fine (processes ps) x vs f s = ap (λ (w : Value). same w (function_on vs (map f vs))) (put_here x (function_on vs (map f vs)) s) ∙ same_self (function_on vs (map f vs))
  own_fine (alone ss) x [] f s = refl
  own_fine (alone ss) x (v ∷ vs) f s = ap (λ (w : Value). same w (f v)) (put_here x (f v) s) ∙ same_self (f v)

  own_other : (m : Main) (x y : Word) (vs : List Actor) (f : Actor → Value) (s : State) → bytes_eq x y ≡ false → own_begun m x vs f s y ≡ s y
  own_other (processes ps) x y vs f s e = put_other x y (function_on vs (map f vs)) s e
  own_other (alone ss) x y [] f s e = refl
  own_other (alone ss) x y (v ∷ vs) f s e = put_other x y (f v) s e

  abbrev first : Actor → Value
  first v = label_value P v.own (first_label v.own)

  stack_other : (us : List Routine) (vs : List Actor) (s : State) (y : Word) → bytes_eq stack y ≡ false → stack_begun P us vs s y ≡ s y
  stack_other [] vs s y e = refl
  stack_other (u ∷ us) vs s y e = own_other P.algorithm.main stack y vs (λ v. empty_stack) s e

  stack_fine : (us : List Routine) (vs : List Actor) (s : State) → stack_allowed P us vs (pc_begun P vs (stack_begun P us vs s)) ≡ true
  stack_fine [] vs s = refl
  stack_fine (u ∷ us) vs s =
      ap (own_allowed P.algorithm.main vs (λ v. empty_stack)) (own_other P.algorithm.main pc stack vs first (stack_begun P (u ∷ us) vs s) refl)
      ∙ own_fine P.algorithm.main stack vs (λ v. empty_stack) s

  pc_fine : (us : List Routine) (vs : List Actor) (s : State) → pc_allowed P vs (pc_begun P vs (stack_begun P us vs s)) ≡ true
  pc_fine us vs s = own_fine P.algorithm.main pc vs first (stack_begun P us vs s)

  own_settles : (us : List Routine) (vs : List Actor) (s : State) → Settles own_names s (pc_begun P vs (stack_begun P us vs s))
  own_settles us vs s y e =
      let a = or_parts (bytes_eq stack y) (is_among (pc ∷ []) y) e in
      let b = or_parts (bytes_eq pc y) (is_among [] y) a.1 in
      sym (own_other P.algorithm.main pc y vs first (stack_begun P us vs s) b.0 ∙ stack_other us vs s y a.0)

  -- ---- the whole

  pub start_initial : Once (all_names P) → GlobalsRead P.algorithm.globals (names_of_all_routines P) → RoutinesRead (procedure_routines P.algorithm) (names_of_processes P) → RoutinesRead (main_routines P.algorithm P.algorithm.main) own_names
      → (ns ms : List ℕ) (t : State) → walk (started P) ns ≡ went t ms → Initial P t
  start_initial o g r p ns ms t q =
      let us = procedure_routines P.algorithm in
      let ps = main_routines P.algorithm P.algorithm.main in
      let oneself = once_globals P.algorithm.globals (names_of_all_routines P) o in
      let last = λ (vs : List Actor) (u : State) (ks : List ℕ). falls (ready P vs u) ks in
      let third = λ (vs : List Actor) (u : State) (ks : List ℕ). onward (processes_flow (as_declared P) P vs ps u ks) (last vs) in
      let second = λ (vs : List Actor) (u : State) (ks : List ℕ). onward (procedures_flow (as_declared P) P vs us u ks) (third vs) in
      let (vs, a, e) = flowing_went (actors P) (λ vs. onward (globals_flow (as_declared P) P.algorithm.globals nothing ns) (second vs)) went t ms (sym (start_flows P ns) ∙ q) in
      let (s1, n1, g1, e1) = globals_went P.algorithm.globals (names_of_all_routines P) o g nothing ns (λ u ks. finish (second vs u ks) went) t ms (sym (finish_onward (globals_flow (as_declared P) P.algorithm.globals nothing ns) (second vs) went) ∙ e) in
      let (s2, n2, g2, e2) = procedures_went vs us (names_of_processes P) oneself r s1 n1 (λ u ks. finish (third vs u ks) went) t ms (sym (finish_onward (procedures_flow (as_declared P) P vs us s1 n1) (third vs) went) ∙ e1) in
      let (s3, n3, g3, e3) = processes_went vs ps own_names (once_routines P us (names_of_processes P) oneself) p s2 n2 (λ u ks. finish (last vs u ks) went) t ms (sym (finish_onward (processes_flow (as_declared P) P vs ps s2 n2) (last vs) went) ∙ e2) in
      let z = ready P vs s3 in
      let h3 = own_settles us vs s3 in
      let h2 = g3.settles z h3 in
      let h1 = g2.settles z h2 in
      subst (Initial P) {x = z} (end_is e3)
      (ap (λ (w : Outcome (List Actor)). w >>= (parts z)) a
      ∙ both_true _ _ (g1.fine z h1) (both_true _ _ (g2.fine z h2) (both_true _ _ (g3.fine z h3) (both_true _ _ (ap Ok (stack_fine us vs s3)) (ap Ok (pc_fine us vs s3))))))
    where
      parts : State → List Actor → Outcome Bool
      parts z vs =
          and_then (globals_allowed P P.algorithm.globals z)
          (and_then (procedures_allowed P vs (procedure_routines P.algorithm) z)
          (and_then (processes_allowed P vs (main_routines P.algorithm P.algorithm.main) z)
          (and_then (Ok (stack_allowed P (procedure_routines P.algorithm) vs z)) (Ok (pc_allowed P vs z)))))
