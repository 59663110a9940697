-- What a process does from a label is what its step with written names does; so the written action is true exactly of it.
use Rattle.std.proofs.Common.{◌≡◌, List, [], ◌∷◌, ◌++◌, Bool, true, false, ◌||◌, cond, bytes_eq, Option, Some, None, reverse, refl, sym, ◌∙◌, ap, subst, Ok, Err}
use Rattle.std.proofs.lemmas.Bool.{both_ways, or_left, or_right}
use Rattle.std.proofs.lemmas.Slice.Eq.{bytes_eq-Decides}
use Rattle.tla_token.specs.declared.place.Place.{Place}
use Rattle.tla_token.specs.Signs.{is_among}
use Rattle.tla_tree.specs.Tree.{Word, Every}
use Rattle.tla_value.specs.Value.{Value, Trouble, Outcome, TrueExactly, fault}
use Rattle.tla_value.specs.Stops.{Check, plain, sense_of}
use Rattle.tla_value.specs.Standard.{printed, asserted, standard_sense}
use Rattle.tla_value.specs.Meaning.{Env, just}
use Rattle.tla_value.specs.Definitions.{Valuation, Definition, or_sense, base, at_use, with_arguments, body_sense, defined, with_definitions, scope_of, no_state, mid as mid_values}
use Rattle.tla_value.specs.laws.Grafting.{In, IsUnprimed, Given}
use Rattle.tla_value.proofs.Alike.{eval_alike}
use Rattle.tla_value.proofs.Facts.{every_weaker}
use Rattle.tla_value.proofs.MidState.{scope_mixed}
use Rattle.tla_value.proofs.Primes.{Mixed, AgreeNow, bound_now, form_unprimed}
use Rattle.module_tree.specs.Formulas.{self}
use Rattle.pcal_tree.specs.Scope.{State}
use Rattle.pcal_tree.specs.Run.{Rules, Has, run, exit_to}
use Rattle.pcal_tree.specs.Program.{Program, Actor, routine_scope}
use Rattle.pcal_tree.specs.Calls.{rules_without_macros}
use Rattle.pcal_tree.specs.Variables.{vars, Agree}
use Rattle.pcal_tree.specs.Step.{Stand, course_of}
use Rattle.pcal_tree.specs.Expand.{expanded}
use Rattle.pcal_tree.proofs.ExpandRuns.{expansion}
use Rattle.action_builder.specs.Assigned.{Names}
use Rattle.action_builder.specs.Prepared.{none}
use Rattle.action_builder.specs.WrittenNames.{renames, written_statements}
use Rattle.action_builder.specs.OwnVariables.{is_own_variable}
use Rattle.action_builder.specs.laws.Scopes.{own_scope, part_at}
use Rattle.action_builder.specs.laws.States.{mid, SameOn}
use Rattle.action_builder.specs.laws.Settling.{Callable}
use Rattle.action_builder.specs.laws.Ready.{Readable, IsWithin, Halfway, Stands, values_of, holds_on}
use Rattle.action_builder.specs.laws.LabelSteps.{IsPrepared, IsReady, HasOutcome, StepsTo, MeetsTrouble, action_of}
use Rattle.action_builder.proofs.Label.{action_exactly}
use Rattle.action_builder.specs.laws.WrittenScope.{Seen, self_bound, written_scope, definitions_of, NamesApart}
use Rattle.action_builder.specs.laws.StepsOfLabels.{step_of, pair_env, NamesGiven, AllUnprimed, AllSettledFor, Goes}
use Rattle.pcal_tree.proofs.GraftRuns.{graft_runs}
use Rattle.action_builder.proofs.WrittenScope.{routine_meets, variable_read}
use Rattle.pcal_tree.specs.Algorithm.{Routine, nowhere}
use Rattle.std.specs.Prelude.{codes}
use Rattle.tla_value.specs.declared.fault.FaultKind.TheVariants.{NotFunction}

-- ---- courses

-- the step with written names, in their scope, has the courses of the step
pub course_named : (P : Program) (extra : List Definition) (v : Actor) (d : Stand) → NamesApart P extra v d.routine → NamesGiven P extra d
    → course_of P v d
    ≡ run (rules_without_macros P v d.routine) d.label (written_statements P d.routine d.begins.items) (own_scope P.check self (is_own_variable P) (written_scope P extra v)) (exit_to (rules_without_macros P v d.routine) d.begins.exit)
course_named P extra v d k n =
    let M = rules_without_macros P v d.routine in
    let u = d.routine in
    let b = d.begins in
    let ms = reverse P.algorithm.macros in
    expansion M ms d.label b.items n.calls (routine_scope P v u) (λ x at p s. refl) (exit_to M b.exit)
    ∙ sym (graft_runs M (renames P u) (Seen P extra u) d.label (expanded ms b.items) n.clean n.reads (own_scope P.check self (is_own_variable P) (written_scope P extra v)) (routine_scope P v u)
    (routine_meets P extra v u k) (exit_to M b.exit) (exit_to M b.exit) refl)

-- in the words of the builder's laws
pub outcome_is : (P : Program) (extra : List Definition) (v : Actor) (d : Stand) (names : Word → Bool) (callable : Callable) → P.check ≡ plain → NamesApart P extra v d.routine → NamesGiven P extra d
    → (s : State) (r : Outcome State) → HasOutcome none (step_of P extra v d names callable) s s r ≡ Has (course_of P v d s) r
outcome_is P extra v d names callable e k n s r =
    (λ i. Has (run (unlimited_at (sym e i)) d.label (written_statements P d.routine d.begins.items) (own_scope (sym e i) self (is_own_variable P) (written_scope P extra v)) (exit_to (unlimited_at (sym e i)) d.begins.exit) s) r)
    ∙ sym (λ i. Has (course_named P extra v d k n i s) r)
  where
    unlimited_at : Check → Rules
    unlimited_at c =
        let M = rules_without_macros P v d.routine in
        record { check = c; goto = M.goto; call = M.call; return = M.return; macros = M.macros }

-- ---- states that agree

agree_same : (xs : List Word) (s t : State) → Agree xs s t → SameOn (is_among xs) s t
agree_same [] s t h x m = cc
agree_same (y ∷ ys) s t h x m = by (agree_same ys s t h.1 x) (bytes_eq y x) refl
  where
    by : (is_among ys x ≡ true → s x ≡ t x) → (b : Bool) → bytes_eq y x ≡ b → s x ≡ t x
    by later true q = subst (λ z. s z ≡ t z) ((bytes_eq-Decides y x).0 q) h.0
    by later false q = later (sym (ap (λ b. b || is_among ys x) q) ∙ m)

same_agree : (xs : List Word) (V : Word → Bool) (s t : State) → ((x : Word) → is_among xs x ≡ true → V x ≡ true) → SameOn V s t → Agree xs s t
same_agree [] V s t w h = tt
same_agree (y ∷ ys) V s t w h =
    (h y (w y (or_left (bytes_eq y y) (is_among ys y) ((bytes_eq-Decides y y).1 refl))), same_agree ys V s t (λ x m. w x (or_right (bytes_eq y x) (is_among ys x) m)) h)

-- ---- the theorem for a label

pub goes_steps : (P : Program) (extra : List Definition) (v : Actor) (d : Stand) (names : Word → Bool) (callable : Callable) → P.check ≡ plain → NamesApart P extra v d.routine → NamesGiven P extra d
    → (s t : State) → StepsTo (vars P) (step_of P extra v d names callable) s t → Goes P v d s t
goes_steps P extra v d names callable e k n s t (u, h, a) = (u, subst (λ X. X) (outcome_is P extra v d names callable e k n s (Ok u)) h, same_agree (vars P) (is_among (vars P)) u t (λ x m. m) a)

pub steps_go : (P : Program) (extra : List Definition) (v : Actor) (d : Stand) (names : Word → Bool) (callable : Callable) → P.check ≡ plain → NamesApart P extra v d.routine → NamesGiven P extra d
    → (s t : State) → Goes P v d s t → StepsTo (vars P) (step_of P extra v d names callable) s t
steps_go P extra v d names callable e k n s t (u, h, a) = (u, subst (λ X. X) (sym (outcome_is P extra v d names callable e k n s (Ok u))) h, agree_same (vars P) u t a)

pub no_trouble : (P : Program) (extra : List Definition) (v : Actor) (d : Stand) (names : Word → Bool) (callable : Callable) → P.check ≡ plain → NamesApart P extra v d.routine → NamesGiven P extra d
    → (s : State) → ((q : Trouble) → Has (course_of P v d s) (Err q) → ⊥) → MeetsTrouble (step_of P extra v d names callable) s → ⊥
no_trouble P extra v d names callable e k n s fine (q, h) = fine q (subst (λ X. X) (outcome_is P extra v d names callable e k n s (Err q)) h)

-- where no outcome of the step is trouble, the written action is true exactly where the process goes there, else false
pub label_exactly : (P : Program) (extra : List Definition) (v : Actor) (d : Stand) (names : Word → Bool) (callable : Callable) → P.check ≡ plain → NamesApart P extra v d.routine → NamesGiven P extra d
    → IsPrepared (step_of P extra v d names callable) → (U : Readable) → IsReady U (vars P) (pair_env P extra v) none (step_of P extra v d names callable)
    → (s t : State) → ((q : Trouble) → Has (course_of P v d s) (Err q) → ⊥)
    → TrueExactly (holds_on (vars P) (pair_env P extra v) (action_of (vars P) (step_of P extra v d names callable)) s t) (Goes P v d s t)
label_exactly P extra v d names callable e k n p U r s t fine =
    let x = action_exactly (step_of P extra v d names callable) p U (vars P) (pair_env P extra v) r s t (no_trouble P extra v d names callable e k n s fine) in
    (x.0, x.1, (λ h. goes_steps P extra v d names callable e k n s t (x.2.0 h), λ h. x.2.1 (steps_go P extra v d names callable e k n s t h)))

-- ---- the environments of pairs of states go with the scope

OptionNow : Option Env → Option Env → Type 0
OptionNow (Some e) (Some f) = AgreeNow e f
OptionNow None None = Unit {0}
OptionNow _ _ = ⊥

arguments_now : (xs : List Word) (vs : List Value) (e f : Env) → AgreeNow e f → OptionNow (with_arguments xs vs e) (with_arguments xs vs f)
unfolding OptionNow
arguments_now [] [] e f r = r
arguments_now [] (v ∷ vs) e f r = tt
arguments_now (x ∷ xs) [] e f r = tt
arguments_now (x ∷ xs) (v ∷ vs) e f r = arguments_now xs vs _ _ (bound_now x e f v r)

body_now : (c : Check) (d : Definition) → Every IsUnprimed d.body → (e f : Option Env) → OptionNow e f → (at : Place) → body_sense c d e at ≡ body_sense c d f at
unfolding OptionNow
body_now c d h (Some e) (Some f) r at = λ i. sense_of (at_use d.outside at (eval_alike AgreeNow c d.body (every_weaker _ _ form_unprimed d.body h) e f r i).value)
body_now c d h (Some e) None r at = absurd r
body_now c d h None (Some f) r at = absurd r
body_now c d h None None r at = refl

defined_now : (c : Check) (d : Definition) (ps : List Word) → Every IsUnprimed d.body → (e f : Env) → AgreeNow e f → AgreeNow (defined c d ps e) (defined c d ps f)
unfolding OptionNow
defined_now c d [] h e f r = record { now = λ y at i. cond (bytes_eq d.title y) (body_now c d h (Some e) (Some f) r at i) (r.now y at i); defs = r.defs }
defined_now c d (p ∷ ps) h e f r = record {
  now = r.now;
  defs = λ y i. cond (bytes_eq d.title y) (Some (λ at vs. body_now c d h _ _ (arguments_now (p ∷ ps) vs e f r) at i)) (r.defs y i);
}

definitions_now : (c : Check) (ds : List Definition) → AllUnprimed ds → (e f : Env) → AgreeNow e f → AgreeNow (with_definitions c ds e) (with_definitions c ds f)
definitions_now c [] h e f r = r
definitions_now c (d ∷ ds) h e f r = definitions_now c ds h.1 _ _ (defined_now c d d.params h.0 e f r)

given : (b : Bool) (w : Value) → b ≡ true → Given (cond b (Some w) None)
given true w e = tt
given false w e = cc

mid_value : (b a : Bool) (w z : Value) → cond a (cond b (Some w) None) (cond b (Some z) None) ≡ cond b (Some (cond a w z)) None
mid_value true true w z = refl
mid_value true false w z = refl
mid_value false true w z = refl
mid_value false false w z = refl

module _ (P : Program) (extra : List Definition) (v : Actor) (U : Readable) (settled : AllSettledFor P extra U) (unprimed : AllUnprimed (definitions_of P ++ extra)) (self_free : is_among (vars P) self ≡ false) where
  abbrev ds : List Definition
  ds = definitions_of P ++ extra

  abbrev values : State → Valuation
  values s = values_of (vars P) s

  abbrev pair : State → State → Env
  pair s t = scope_of P.check P.constants ds (values s) (values t)

  abbrev alone : State → Env
  alone s = scope_of P.check P.constants ds (values s) no_state

  half : (A : Names) → IsWithin A (is_among (vars P)) → (s t : State) → Mixed A (In (U A)) (pair s t) (scope_of P.check P.constants ds (mid_values A (values s) (values t)) (values t))
  half A w s t = scope_mixed P.check A (In (U A)) P.constants ds (values s) (values t) (settled A w) (λ x m. given (is_among (vars P) x) (t x) (w x m))

  middle : (A : Names) (s t : State) → AgreeNow (scope_of P.check P.constants ds (mid_values A (values s) (values t)) (values t)) (alone (mid s t A))
  middle A s t = definitions_now P.check ds unprimed _ _ (record {
    now = λ x at i. or_sense (mid_value (is_among (vars P) x) (A x) (t x) (s x) i) ((base P.check P.constants).now x at);
    defs = λ x. refl;
  })

  self_out : (A : Names) → IsWithin A (is_among (vars P)) → A self ≡ false
  self_out A w = by (A self) refl
    where
      by : (b : Bool) → A self ≡ b → b ≡ false
      by true q = absurd (both_ways (is_among (vars P) self) self_free (w self q))
      by false q = refl

  bound_half : (w : Option Value) (A : Names) → A self ≡ false → (e f : Env) → Halfway A (In (U A)) e f → Halfway A (In (U A)) (self_bound w e) (self_bound w f)
  bound_half (Some z) A o e f r = record {
    now = λ x u at. by x u at (bytes_eq self x) refl;
    defs = r.defs;
  }
    where
      by : (x : Word) → In (U A) x → (at : Place) (b : Bool) → bytes_eq self x ≡ b → cond b (just z) (f.now x at) ≡ cond (A x) (e.primed x at) (cond b (just z) (e.now x at))
      by x u at true q = sym (ap (λ b. cond b (e.primed x at) (just z)) (sym (ap A ((bytes_eq-Decides self x).0 q)) ∙ o))
      by x u at false q = r.now x u at
  bound_half None A o e f r = r

  halfway_is : (A : Names) → IsWithin A (is_among (vars P)) → (s t : State) → Halfway A (In (U A)) (pair_env P extra v s t) ((written_scope P extra v).env (mid s t A))
  halfway_is A w s t =
      let m = half A w s t in
      let n = middle A s t in
      bound_half v.self A (self_out A w) (pair s t) (alone (mid s t A)) (record {
        now = λ x u at. sym (n.now x at) ∙ m.now x u at;
        defs = λ x u. m.defs x u ∙ n.defs x;
      })

  -- all that the laws of written actions ask of the scope; PrintT and Assert are always standard names, so no definition has them
  pub scope_stands : (u : Routine) → NamesApart P extra v u
      → ((s t : State) → (pair_env P extra v s t).defs (codes "PrintT") ≡ Some (standard_sense plain printed))
      → ((s t : State) → (pair_env P extra v s t).defs (codes "Assert") ≡ Some (standard_sense plain asserted))
      → Stands U (vars P) (written_scope P extra v) (pair_env P extra v)
  scope_stands u k print assert = record {
    paired = record { halfway = halfway_is; print = print; assert = assert };
    scoped = record {
      part = λ x m at s. ap (λ b. cond b (Ok (part_at x [])) (Err (fault NotFunction nowhere))) m;
      reads = λ x m at s. variable_read P extra v u k x m at s;
    };
  }
