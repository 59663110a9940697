-- What an algorithm does from a state depends on the variables of the translation alone.
use Rattle.std.proofs.Common.{◌≡◌, List, [], ◌∷◌, ◌++◌, reverse, nat_eq, Bool, true, false, ◌||◌, cond, bytes_eq, codes, map, Option, Some, None, refl, sym, ◌∙◌, ap, subst, inl, inr, ◌⊎◌, Ok, Err}
use Rattle.std.proofs.lemmas.Bool.{or_left, or_right}
use Rattle.std.proofs.lemmas.Grind.{reverse_onto}
use Rattle.std.proofs.lemmas.Slice.Eq.{bytes_eq-Decides}
use Rattle.tla_token.specs.declared.place.Place.{Place}
use Rattle.tla_tree.specs.Tree.{Word}
use Rattle.tla_value.specs.Value.{Value, text, Trouble, Outcome, ◌>>=◌}
use Rattle.tla_value.specs.Order.{seq_from}
use Rattle.tla_value.specs.Strict.{applied}
use Rattle.tla_value.specs.Stops.{sense_of, sequence_at}
use Rattle.tla_value.specs.Meaning.{eval}
use Rattle.tla_value.specs.Definitions.{or_sense}
use Rattle.pcal_tree.specs.Algorithm.{Start, unset, equals, among, Declaration, declares, Statement, branch, either, with, while, Statements, done, then, mark, Branches, no_branches, or, Macro, Routine, locals, procedure_routines, main_routines, routines}
use Rattle.pcal_tree.specs.Scope.{State, Part}
use Rattle.pcal_tree.specs.Assign.{Setting, set_one, set_all}
use Rattle.pcal_tree.specs.Run.{unlabelled, label_of, Partner, no_partner, goto_partner, return_partner, is_return, exit_to}
use Rattle.pcal_tree.specs.StepStart.{Begin, begin_in, begin, begin_some, at_label}
use Rattle.pcal_tree.specs.Program.{Program, Actor, index, local_index, written, common_env, global_env, read_at, read_name, global_part, routine_scope, global_scope}
use Rattle.pcal_tree.specs.Variables.{pc, stack, declared, written_all, written_by_all, stack_for, vars, Agree}
use Rattle.pcal_tree.specs.Calls.{label_value, setting, jumped, all_read, frame, on_stack, argument_settings, initial_value, initial_place, variables_started, entered_keeping, entered, fields_read, part_settings, restored, returned, values_left, replaced, returned_and_entered, finished, called_with, entered_at, routine_named, rules_without_macros, rules_of, first_label}
use Rattle.pcal_tree.specs.Processes.{OneOf, IsActor}
use Rattle.pcal_tree.specs.Step.{Stand, routines_of, course_of}
use Rattle.pcal_tree.specs.laws.Steps.{has_return_in, has_return, has_return_of, ReturnsInProcedures}
use Rattle.pcal_tree.proofs.TroubleLaws.{one_left, one_right, either_some}
use Rattle.pcal_tree.proofs.RoutineNames.{one_either}
use Rattle.pcal_tree.proofs.OneStand.{own_is_main, runs_routine}
use Rattle.pcal_tree.proofs.SameVariables.{value_at, SameEnd, Same, Steady, SteadyEnd, then_end, then_same, Narrow, AllIn, one_set, all_set, Even, list_steady, macros_even}

-- ---- a `return` after a label is one of the body

mutual
  begins_in : (l here : Word) (st : Statement) (x : Word) (b : Begin) → begin_in l here st x ≡ Some b → has_return b.items ≡ true → has_return_in st ≡ true
  begins_in l here (branch e s t) x b q h = by (either_some (begin l unlabelled s x) (begin l unlabelled t x) b q) (begins l unlabelled s x b) (begins l unlabelled t x b)
    where
      by : (begin l unlabelled s x ≡ Some b) ⊎ (begin l unlabelled t x ≡ Some b) → (begin l unlabelled s x ≡ Some b → has_return b.items ≡ true → has_return s ≡ true) → (begin l unlabelled t x ≡ Some b → has_return b.items ≡ true → has_return t ≡ true) → (has_return s || has_return t) ≡ true
      by (inl p) f g = or_left (has_return s) (has_return t) (f p h)
      by (inr p) f g = or_right (has_return s) (has_return t) (g p h)
  begins_in l here (either bs) x b q h = begins_some l bs x b q h
  begins_in l here (with bs t) x b q h = begins l unlabelled t x b q h
  begins_in l here (while e t) x b q h = begins l unlabelled t here b q h
  begins_in l here _ x b q h = cc

  pub begins : (l here : Word) (ss : Statements) (x : Word) (b : Begin) → begin l here ss x ≡ Some b → has_return b.items ≡ true → has_return ss ≡ true
  begins l here done x b q h = cc
  begins l here (then at st rest) x b q h = by (either_some (begin_in l here st (label_of rest x)) (begin l unlabelled rest x) b q) (begins_in l here st (label_of rest x) b) (begins l unlabelled rest x b)
    where
      by : (begin_in l here st (label_of rest x) ≡ Some b) ⊎ (begin l unlabelled rest x ≡ Some b) → (begin_in l here st (label_of rest x) ≡ Some b → has_return b.items ≡ true → has_return_in st ≡ true) → (begin l unlabelled rest x ≡ Some b → has_return b.items ≡ true → has_return rest ≡ true) → (has_return_in st || has_return rest) ≡ true
      by (inl p) f g = or_left (has_return_in st) (has_return rest) (f p h)
      by (inr p) f g = or_right (has_return_in st) (has_return rest) (g p h)
  begins l here (mark m k rest) x b q h = by (begins l m.word rest x b) (bytes_eq l m.word) q
    where
      got : {c d : Begin} → Some c ≡ Some d → c ≡ d
      got e = cc

      by : (begin l m.word rest x ≡ Some b → has_return b.items ≡ true → has_return rest ≡ true) → (c : Bool) → cond c (Some (record { items = rest; exit = x })) (begin l m.word rest x) ≡ Some b → has_return rest ≡ true
      by ih true q = ap (λ c. has_return c.items) (got q) ∙ h
      by ih false q = ih q h

  begins_some : (l : Word) (bs : Branches) (x : Word) (b : Begin) → begin_some l bs x ≡ Some b → has_return b.items ≡ true → has_return_of bs ≡ true
  begins_some l no_branches x b q h = cc
  begins_some l (or t bs) x b q h = by (either_some (begin l unlabelled t x) (begin_some l bs x) b q) (begins l unlabelled t x b) (begins_some l bs x b)
    where
      by : (begin l unlabelled t x ≡ Some b) ⊎ (begin_some l bs x ≡ Some b) → (begin l unlabelled t x ≡ Some b → has_return b.items ≡ true → has_return t ≡ true) → (begin_some l bs x ≡ Some b → has_return b.items ≡ true → has_return_of bs ≡ true) → (has_return t || has_return_of bs) ≡ true
      by (inl p) f g = or_left (has_return t) (has_return_of bs) (f p h)
      by (inr p) f g = or_right (has_return t) (has_return_of bs) (g p h)

-- ---- lists

one_map : {X Y : Type 0} (f : X → Y) (x : X) (xs : List X) → OneOf x xs → OneOf (f x) (map f xs)
one_map f x [] h = absurd h
one_map f x (y ∷ ys) (inl e) = inl (ap f e)
one_map f x (y ∷ ys) (inr h) = inr (one_map f x ys h)

pub one_reverse : {X : Type 0} (x : X) (xs : List X) → OneOf x (reverse xs) → OneOf x xs
one_reverse x [] h = h
one_reverse x (y ∷ ys) h = by (one_reverse x ys) (one_either x (reverse ys) (y ∷ []) (subst (OneOf x) (reverse_onto ys y []) h))
  where
    by : (OneOf x (reverse ys) → OneOf x ys) → OneOf x (reverse ys) ⊎ OneOf x (y ∷ []) → OneOf x (y ∷ ys)
    by ih (inl k) = inr (ih k)
    by ih (inr (inl e)) = inl e
    by ih (inr (inr k)) = absurd k

declares_one : (ds : List Declaration) (x : Word) → declares ds x ≡ true → (d : Declaration) × OneOf d ds × (d.name.word ≡ x)
declares_one [] x e = cc
declares_one (d ∷ ds) x e = by (declares_one ds x) (bytes_eq d.name.word x) refl e
  where
    more : ((c : Declaration) × OneOf c ds × (c.name.word ≡ x)) → (c : Declaration) × OneOf c (d ∷ ds) × (c.name.word ≡ x)
    more q = (q.0, inr q.1, q.2)

    by : (declares ds x ≡ true → (c : Declaration) × OneOf c ds × (c.name.word ≡ x)) → (b : Bool) → bytes_eq d.name.word x ≡ b → (b || declares ds x) ≡ true → (c : Declaration) × OneOf c (d ∷ ds) × (c.name.word ≡ x)
    by ih true p e = (d, inl refl, (bytes_eq-Decides d.name.word x).0 p)
    by ih false p e = more (ih e)

pub named_one : (x : Word) (us : List Routine) (u : Routine) → routine_named x us ≡ Some u → OneOf u us
named_one x [] u e = cc
named_one x (w ∷ us) u e = by (named_one x us u) (bytes_eq w.name.word x) e
  where
    got : {c d : Routine} → Some c ≡ Some d → d ≡ c
    got e = cc

    by : (routine_named x us ≡ Some u → OneOf u us) → (b : Bool) → cond b (Some w) (routine_named x us) ≡ Some u → OneOf u (w ∷ us)
    by ih true e = inl (got e)
    by ih false e = inr (ih e)

module _ (P : Program) where
  abbrev procs : List Routine
  procs = procedure_routines P.algorithm

  abbrev mains : List Routine
  mains = main_routines P.algorithm P.algorithm.main

  abbrev names : List Word
  names = declared P.algorithm.globals

  -- ---- which names are variables of the translation

  abbrev own : List Word
  own = pc ∷ stack_for procs

  abbrev of_procs : List Word
  of_procs = written_by_all P procs

  abbrev of_mains : List Word
  of_mains = written_by_all P mains

  among_names : (x : Word) → OneOf x names → OneOf x (vars P)
  among_names x h = one_left x ((names ++ own) ++ of_procs) of_mains (one_left x (names ++ own) of_procs (one_left x names own h))

  among_own : (x : Word) → OneOf x own → OneOf x (vars P)
  among_own x h = one_left x ((names ++ own) ++ of_procs) of_mains (one_left x (names ++ own) of_procs (one_right x names own h))

  among_written : (x : Word) → OneOf x of_procs ⊎ OneOf x of_mains → OneOf x (vars P)
  among_written x (inl h) = one_left x ((names ++ own) ++ of_procs) of_mains (one_right x (names ++ own) of_procs h)
  among_written x (inr h) = one_right x ((names ++ own) ++ of_procs) of_mains h

  pub pc_in : OneOf pc (vars P)
  pc_in = among_own pc (inl refl)

  pub stack_in : (p : Routine) → OneOf p procs → OneOf stack (vars P)
  stack_in p h = among_own stack (inr (by procs h))
    where
      by : (us : List Routine) → OneOf p us → OneOf stack (stack_for us)
      by [] h = absurd h
      by (u ∷ us) h = inl refl

  pub global_in : (d : Declaration) → OneOf d P.algorithm.globals → OneOf d.name.word (vars P)
  global_in d h = among_names d.name.word (one_map (λ e. e.name.word) d P.algorithm.globals h)

  written_one : (us : List Routine) (u : Routine) → OneOf u us → (d : Declaration) → OneOf d (locals u) → OneOf (written P u d.name.word) (written_by_all P us)
  written_one [] u h d k = absurd h
  written_one (w ∷ us) u (inl e) d k =
      one_left (written P u d.name.word) (written_all P w (locals w)) (written_by_all P us)
      (subst (λ z. OneOf (written P u d.name.word) (written_all P z (locals z))) e (one_map (written P u) d.name.word (declared (locals u)) (one_map (λ c. c.name.word) d (locals u) k)))
  written_one (w ∷ us) u (inr h) d k = one_right (written P u d.name.word) (written_all P w (locals w)) (written_by_all P us) (written_one us u h d k)

  -- the written names of these variables are variables
  abbrev pub Held : Routine → List Declaration → Type 0
  Held u ds = (d : Declaration) → OneOf d ds → OneOf (written P u d.name.word) (vars P)

  pub local_in : (u : Routine) → OneOf u (routines P.algorithm) → Held u (locals u)
  local_in u h d k = among_written (written P u d.name.word) (by (one_either u procs mains h))
    where
      by : OneOf u procs ⊎ OneOf u mains → OneOf (written P u d.name.word) of_procs ⊎ OneOf (written P u d.name.word) of_mains
      by (inl p) = inl (written_one procs u p d k)
      by (inr p) = inr (written_one mains u p d k)

  procedure_in : (p : Routine) → OneOf p procs → Held p (locals p)
  procedure_in p h = local_in p (one_left p procs mains h)

  -- ---- scopes

  pub global_same : (s t : State) → Agree (vars P) s t → global_env P s ≡ global_env P t
  global_same s t a = λ i. common_env P (λ x. by x (declares P.algorithm.globals x) refl i)
    where
      by : (x : Word) (b : Bool) → declares P.algorithm.globals x ≡ b → cond b (Some (s x)) None ≡ cond b (Some (t x)) None
      by x true e = let q = declares_one P.algorithm.globals x e in ap Some (subst (λ y. s y ≡ t y) q.2 (value_at (vars P) s t a q.0.name.word (global_in q.0 q.1)))
      by x false e = refl

  local_same : (u : Routine) → OneOf u (routines P.algorithm) → (s t : State) → Agree (vars P) s t → (x : Word) → declares (locals u) x ≡ true → s (written P u x) ≡ t (written P u x)
  local_same u h s t a x e = let q = declares_one (locals u) x e in subst (λ y. s (written P u y) ≡ t (written P u y)) q.2 (value_at (vars P) s t a (written P u q.0.name.word) (local_in u h q.0 q.1))

  read_same : (v : Actor) (u : Routine) → OneOf u (routines P.algorithm) → (s t : State) → Agree (vars P) s t → (x : Word) (at : Place) → read_name P v u s x at ≡ read_name P v u t x at
  read_same v u h s t a x at = λ i. cond (bytes_eq (codes "self") x) (or_sense v.self ((global_same s t a i).now x at)) (by (declares (locals u) x) refl i)
    where
      by : (b : Bool) → declares (locals u) x ≡ b → cond b (sense_of (read_at at (local_index v u) (s (written P u x)))) ((global_env P s).now x at) ≡ cond b (sense_of (read_at at (local_index v u) (t (written P u x)))) ((global_env P t).now x at)
      by true e = λ i. sense_of (read_at at (local_index v u) (local_same u h s t a x e i))
      by false e = λ i. (global_same s t a i).now x at

  got_part : (p q : Part) → ◌≡◌ {A = Outcome Part} (Ok p) (Ok q) → p.variable ≡ q.variable
  got_part p q e = ap name e
    where
      name : Outcome Part → Word
      name (Ok r) = r.variable
      name (Err k) = p.variable

  global_within : (x : Word) (p : Part) → global_part P x ≡ Ok p → OneOf p.variable (vars P)
  global_within x p = by (declares P.algorithm.globals x) refl
    where
      by : (b : Bool) → declares P.algorithm.globals x ≡ b → cond b (Ok (record { variable = x; path = [] })) (Err (Rattle.tla_value.specs.Value.fault Rattle.tla_value.specs.declared.fault.FaultKind.TheVariants.NotFunction Rattle.pcal_tree.specs.Algorithm.nowhere)) ≡ Ok p → OneOf p.variable (vars P)
      by true e q = let d = declares_one P.algorithm.globals x e in subst (λ y. OneOf y (vars P)) (d.2 ∙ got_part (record { variable = x; path = [] }) p q) (global_in d.0 d.1)
      by false e q = cc

  pub global_narrow : Narrow (vars P) (global_scope P)
  global_narrow = record { env = global_same; part = λ x at s t a. refl; inside = λ x at s p e. global_within x p e }

  pub routine_narrow : (v : Actor) (u : Routine) → OneOf u (routines P.algorithm) → Narrow (vars P) (routine_scope P v u)
  routine_narrow v u h = record {
    env = λ s t a i. record { now = λ x at. read_same v u h s t a x at i; primed = (global_same s t a i).primed; defs = (global_same s t a i).defs };
    part = λ x at s t a. refl;
    inside = λ x at s p e. by x p (declares (locals u) x) refl e;
  }
    where
      by : (x : Word) (p : Part) (b : Bool) → declares (locals u) x ≡ b → cond b (Ok (record { variable = written P u x; path = local_index v u })) (global_part P x) ≡ Ok p → OneOf p.variable (vars P)
      by x p true e q = let d = declares_one (locals u) x e in
          subst (λ y. OneOf y (vars P)) (ap (written P u) d.2 ∙ got_part (record { variable = written P u x; path = local_index v u }) p q) (local_in u h d.0 d.1)
      by x p false e q = global_within x p q

  -- ---- jumps, calls and returns

  finished_same : (o p : Outcome State) → SameEnd (vars P) o p → Same (vars P) (finished o) (finished p)
  finished_same (Ok s) (Ok t) h = h
  finished_same (Err j) (Err k) h = h
  finished_same (Ok s) (Err k) h = h
  finished_same (Err j) (Ok t) h = h

  jump_steady : (v : Actor) (u : Routine) (l : Word) → Steady (vars P) (λ s. finished (jumped P v u l s))
  jump_steady v u l s t a = finished_same (jumped P v u l s) (jumped P v u l t) (one_set (vars P) P.check (setting v.own.name.place pc (index v.self) (label_value P u l)) pc_in s t a)

  old_same : (u : Routine) (at : Place) (path : List Value) (ds : List Declaration) → Held u ds → (s t : State) → Agree (vars P) s t → all_read at path (written_all P u ds) s ≡ all_read at path (written_all P u ds) t
  old_same u at path [] h s t a = refl
  old_same u at path (d ∷ ds) h s t a =
      λ i. (read_at at path (value_at (vars P) s t a (written P u d.name.word) (h d (inl refl)) i)) >>= (λ v. (old_same u at path ds (λ e k. h e (inr k)) s t a i) >>= (λ vs. Ok (v ∷ vs)))

  stack_same : (v : Actor) (p : Routine) → OneOf p procs → (at : Place) (s t : State) → Agree (vars P) s t → on_stack v at s ≡ on_stack v at t
  stack_same v p h at s t a = λ i. (read_at at (index v.self) (value_at (vars P) s t a stack (stack_in p h) i)) >>= (sequence_at at)

  arguments_in : (u : Routine) (path : List Value) (ds : List Declaration) → Held u ds → (ats : List Place) (vs : List Value) → AllIn (vars P) (argument_settings path (written_all P u ds) ats vs)
  arguments_in u path [] h ats vs = tt
  arguments_in u path (d ∷ ds) h [] vs = tt
  arguments_in u path (d ∷ ds) h (at ∷ ats) [] = tt
  arguments_in u path (d ∷ ds) h (at ∷ ats) (v ∷ vs) = (h d (inl refl), arguments_in u path ds (λ e k. h e (inr k)) ats vs)

  restored_in : (u : Routine) (at : Place) (path : List Value) (ds : List Declaration) → Held u ds → (vs : List Value) (rest : List Setting) → AllIn (vars P) rest → AllIn (vars P) (part_settings at path (written_all P u ds) vs ++ rest)
  restored_in u at path [] h vs rest k = k
  restored_in u at path (d ∷ ds) h [] rest k = k
  restored_in u at path (d ∷ ds) h (v ∷ vs) rest k = (h d (inl refl), restored_in u at path ds (λ e q. h e (inr q)) vs rest k)

  initial_same : (v : Actor) (p : Routine) → OneOf p procs → (at : Place) (st : Start) (s t : State) → Agree (vars P) s t → initial_value P v p at st s ≡ initial_value P v p at st t
  initial_same v p h at unset s t a = refl
  initial_same v p h at (equals e) s t a = λ i. (eval P.check e ((routine_narrow v p (one_left p procs mains h)).env s t a i)).value
  initial_same v p h at (among e) s t a = refl

  started_steady : (v : Actor) (p : Routine) → OneOf p procs → (at : Place) (ds : List Declaration) → Held p ds → SteadyEnd (vars P) (variables_started P v p at ds)
  started_steady v p h at [] k s t a = a
  started_steady v p h at (d ∷ ds) k s t a =
      then_same (vars P) (initial_value P v p at d.start s) (initial_value P v p at d.start t) _ _ (initial_same v p h at d.start s t a) (λ w e.
      then_end (vars P) (set_one P.check (setting (initial_place at d.start) (written P p d.name.word) (local_index v p) w) s) (set_one P.check (setting (initial_place at d.start) (written P p d.name.word) (local_index v p) w) t) (variables_started P v p at ds)
      (one_set (vars P) P.check (setting (initial_place at d.start) (written P p d.name.word) (local_index v p) w) (k d (inl refl)) s t a) (started_steady v p h at ds (λ c q. k c (inr q))))

  keeping_steady : (v : Actor) (p : Routine) → OneOf p procs → (at : Place) (back : Value) (ats : List Place) (vs olds : List Value) → SteadyEnd (vars P) (entered_keeping P v at back p ats vs olds)
  keeping_steady v p h at back ats vs olds s t a =
      then_same (vars P) (P.check at (frame P p back olds)) (P.check at (frame P p back olds)) _ _ refl (λ front e.
      then_same (vars P) (on_stack v at s) (on_stack v at t) _ _ (stack_same v p h at s t a) (λ frames e.
      then_same (vars P) (P.check at (seq_from (front ∷ frames))) (P.check at (seq_from (front ∷ frames))) _ _ refl (λ new e.
      then_end (vars P) (set_all P.check (all new) s) (set_all P.check (all new) t) _ (all_set (vars P) P.check (all new) (stack_in p h, arguments_in p (local_index v p) p.params (λ d k. procedure_in p h d (one_left d p.params p.variables k)) ats vs) s t a) (λ q r b.
      then_end (vars P) (variables_started P v p at p.variables q) (variables_started P v p at p.variables r) _ (started_steady v p h at p.variables (λ d k. procedure_in p h d (one_right d p.params p.variables k)) q r b)
      (one_set (vars P) P.check (setting at pc (index v.self) (label_value P p (first_label p))) pc_in)))))
    where
      all : Value → List Setting
      all new = setting at stack (index v.self) new ∷ argument_settings (local_index v p) (written_all P p p.params) ats vs

  entered_steady : (v : Actor) (p : Routine) → OneOf p procs → (at : Place) (back : Value) (ats : List Place) (vs : List Value) → SteadyEnd (vars P) (entered P v at back p ats vs)
  entered_steady v p h at back ats vs s t a =
      then_same (vars P) (all_read at (local_index v p) (written_all P p (locals p)) s) (all_read at (local_index v p) (written_all P p (locals p)) t) _ _ (old_same p at (local_index v p) (locals p) (procedure_in p h) s t a) (λ olds e.
      keeping_steady v p h at back ats vs olds s t a)

  restored_steady : (v : Actor) (p : Routine) → OneOf p procs → (at : Place) (frames : List Value) → SteadyEnd (vars P) (restored P v at p frames)
  restored_steady v p h at [] s t a = refl
  restored_steady v p h at (front ∷ frames) s t a =
      then_same (vars P) (applied at front (text pc)) (applied at front (text pc)) _ _ refl (λ label e.
      then_same (vars P) (fields_read at (written_all P p (locals p)) front) (fields_read at (written_all P p (locals p)) front) _ _ refl (λ vs e.
      all_set (vars P) P.check (setting at pc (index v.self) label ∷ (part_settings at (local_index v p) (written_all P p (locals p)) vs ++ (setting at stack (index v.self) (seq_from frames) ∷ [])))
      (pc_in, restored_in p at (local_index v p) (locals p) (procedure_in p h) vs _ (stack_in p h, tt)) s t a))

  return_steady : (v : Actor) (p : Routine) → OneOf p procs → (at : Place) → Steady (vars P) (λ s. finished (returned P v at p s))
  return_steady v p h at s t a = finished_same (returned P v at p s) (returned P v at p t) (
      then_same (vars P) (on_stack v at s) (on_stack v at t) _ _ (stack_same v p h at s t a) (λ frames e. restored_steady v p h at frames s t a))

  -- ---- calls that are one statement with a return

  left_same : (v : Actor) (at end : Place) (u p : Routine) → OneOf p procs → (front : Value) (s t : State) → Agree (vars P) s t → values_left P v at end u p front s ≡ values_left P v at end u p front t
  left_same v at end u p h front s t a =
      ap (cond (nat_eq u.number p.number) (fields_read end (written_all P u (locals u)) front)) (old_same p at (local_index v p) (locals p) (procedure_in p h) s t a)

  replaced_steady : (v : Actor) (at end : Place) (u p : Routine) → OneOf u procs → OneOf p procs → (ats : List Place) (vs frames : List Value) → SteadyEnd (vars P) (replaced P v at end u p ats vs frames)
  replaced_steady v at end u p k h ats vs [] s t a = refl
  replaced_steady v at end u p k h ats vs (front ∷ frames) s t a =
      then_same (vars P) (applied end front (text pc)) (applied end front (text pc)) _ _ refl (λ back e.
      then_end (vars P) (restored P v end u (front ∷ frames) s) (restored P v end u (front ∷ frames) t) _ (restored_steady v u k end (front ∷ frames) s t a) (λ q r b.
      then_same (vars P) (values_left P v at end u p front q) (values_left P v at end u p front r) _ _ (left_same v at end u p h front q r b) (λ olds e.
      keeping_steady v p h at back ats vs olds q r b)))

  returned_entered_steady : (v : Actor) (at end : Place) (u p : Routine) → OneOf u procs → OneOf p procs → (ats : List Place) (vs : List Value) → SteadyEnd (vars P) (returned_and_entered P v at end u p ats vs)
  returned_entered_steady v at end u p k h ats vs s t a =
      then_same (vars P) (on_stack v end s) (on_stack v end t) _ _ (stack_same v p h end s t a) (λ frames e. replaced_steady v at end u p k h ats vs frames s t a)

  with_steady : (v : Actor) (u : Routine) (at : Place) (p : Routine) → OneOf p procs → (ats : List Place) (vs : List Value) (l : Word) (j : Partner) → (is_return j ≡ true → OneOf u procs) → SteadyEnd (vars P) (called_with P v u at p ats vs l j)
  with_steady v u at p h ats vs l no_partner k = entered_steady v p h at (label_value P u l) ats vs
  with_steady v u at p h ats vs l (goto_partner m) k = entered_steady v p h at (label_value P u m) ats vs
  with_steady v u at p h ats vs l (return_partner end) k = returned_entered_steady v at end.first u p (k refl) h ats vs

  call_steady : (v : Actor) (u : Routine) (at : Place) (o : Option Routine) → ((p : Routine) → o ≡ Some p → OneOf p procs) → (ats : List Place) (vs : List Value) (l : Word) (j : Partner) → (is_return j ≡ true → OneOf u procs) → Steady (vars P) (entered_at P v u at o ats vs l j)
  call_steady v u at None h ats vs l j k s t a = (refl, tt)
  call_steady v u at (Some p) h ats vs l j k s t a = finished_same (called_with P v u at p ats vs l j s) (called_with P v u at p ats vs l j t) (with_steady v u at p (h p refl) ats vs l j k s t a)

  -- ---- the rules of a step

  without_even : (v : Actor) (u : Routine) → Even (vars P) (OneOf u procs) (rules_without_macros P v u)
  without_even v u = record {
    goto = λ l. jump_steady v u l;
    call = λ at p ats vs l j k. call_steady v u at (routine_named p procs) (λ q e. named_one p procs q e) ats vs l j k;
    return = λ h at. return_steady v u h at;
    macros = λ here at m ts sc K n k s t a. (refl, tt);
  }

  module _ (placed : ReturnsInProcedures P.algorithm) where
    none : {X : Type 0} (b : Bool) → b ≡ false → b ≡ true → X
    none b e f = absurd (both (sym e ∙ f))
      where
        both : false ≡ true → ⊥
        both e = cc

    even : (v : Actor) (u : Routine) → Even (vars P) (OneOf u procs) (rules_of P v u)
    even v u =
        macros_even (vars P) (OneOf u procs) (rules_without_macros P v u) (without_even v u) (reverse P.algorithm.macros)
        (λ d k h. none (has_return d.body) (placed.macros d (one_reverse d P.algorithm.macros k)) h)

    in_procedure : (v : Actor) → IsActor P v → (u : Routine) → OneOf u (routines_of P v) → has_return u.body ≡ true → OneOf u procs
    in_procedure v h u (inl e) k = none (has_return u.body) (ap (λ w. has_return w.body) e ∙ placed.main v.own (own_is_main P v h)) k
    in_procedure v h u (inr q) k = q

    pub course_steady : (v : Actor) → IsActor P v → (d : Stand) → OneOf d.routine (routines_of P v) → at_label d.routine d.label ≡ Some d.begins → Steady (vars P) (course_of P v d)
    course_steady v h d k q =
        list_steady (vars P) (OneOf d.routine procs) (rules_of P v d.routine) (even v d.routine) d.label d.begins.items
        (λ r. in_procedure v h d.routine k (begins d.label unlabelled d.routine.body d.routine.exit d.begins q r))
        (routine_scope P v d.routine) (routine_narrow v d.routine (runs_routine P v d.routine h k))
        (exit_to (rules_of P v d.routine) d.begins.exit) (λ s t a. jump_steady v d.routine d.begins.exit s t a)
