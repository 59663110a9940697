-- The scope of a routine is that of the written names, with written names put in and the variables of a process at its identifier.
use Rattle.std.proofs.Common.{◌≡◌, List, [], ◌∷◌, ◌++◌, Bool, true, false, ◌||◌, not, cond, bytes_eq, Option, Some, None, refl, sym, ◌∙◌, ap, subst, Ok, Err}
use Rattle.std.proofs.lemmas.Bool.{both_ways}
use Rattle.std.proofs.lemmas.Slice.Eq.{bytes_eq-Decides}
use Rattle.tla_token.specs.declared.place.Place.{Place}
use Rattle.tla_token.specs.Signs.{is_among}
use Rattle.tla_tree.specs.Tree.{Word, node, name, no_trees}
use Rattle.tla_value.specs.declared.fault.FaultKind.TheVariants.{NotFunction}
use Rattle.tla_value.specs.Value.{Value, fault}
use Rattle.tla_value.specs.Stops.{Check, sense_of}
use Rattle.tla_value.specs.Meaning.{Env, just}
use Rattle.tla_value.specs.Grafts.{own_part, read_tree}
use Rattle.tla_value.specs.Definitions.{Definition, or_sense, base, in_states, body_sense, defined, with_definitions, scope_of, no_state}
use Rattle.tla_value.specs.laws.FreeNames.{Any, Also, FreeNames, AgreeOn}
use Rattle.module_tree.specs.Formulas.{self}
use Rattle.pcal_tree.specs.Algorithm.{nowhere, declares, Routine, locals}
use Rattle.pcal_tree.specs.Scope.{State, Scope, reach_in, origin_in}
use Rattle.pcal_tree.specs.Program.{Program, Actor, local_index, written, read_at, globals_on, global_env, global_part, routine_scope}
use Rattle.pcal_tree.specs.Processes.{identifier}
use Rattle.pcal_tree.specs.Variables.{vars}
use Rattle.action_builder.specs.WrittenNames.{renames}
use Rattle.action_builder.specs.OwnVariables.{is_own_variable}
use Rattle.action_builder.specs.laws.Scopes.{part_at, own_path, own_scope, Whole, StandsAtPath}
use Rattle.action_builder.specs.laws.Ready.{values_of}
use Rattle.action_builder.proofs.Prepared.{own_stands}
use Rattle.action_builder.specs.laws.WrittenScope.{definitions_of, self_bound, written_scope, titles, common, Common, Seen, AllRead, Aside, NamesApart}
use Rattle.pcal_tree.proofs.GraftRuns.{Meets}
use Rattle.tla_value.proofs.MidState.{arguments_agree, body_agrees}
use Rattle.tla_value.proofs.Untitled.{looked_through, primed_through}

-- ---- definitions, where more variables are there than they read

defined_agree : (c : Check) (N : Word → Type 0) (d : Definition) (ps : List Word) → FreeNames (Also ps N) Any d.body → (e f : Env) → AgreeOn N Any e f → AgreeOn N Any (defined c d ps e) (defined c d ps f)
defined_agree c N d [] h e f r = record {
  now = λ y n at i. cond (bytes_eq d.title y) (body_agrees c N Any d h (Some e) (Some f) r at i) (r.now y n at i);
  primed = r.primed;
  defs = r.defs;
}
defined_agree c N d (p ∷ ps) h e f r = record {
  now = r.now;
  primed = r.primed;
  defs = λ y m i. cond (bytes_eq d.title y) (Some (λ at vs. body_agrees c (Also (p ∷ ps) N) Any d h _ _ (arguments_agree Any (p ∷ ps) vs N e f r) at i)) (r.defs y m i);
}

definitions_agree : (c : Check) (N : Word → Type 0) (ds : List Definition) → AllRead N ds → (e f : Env) → AgreeOn N Any e f → AgreeOn N Any (with_definitions c ds e) (with_definitions c ds f)
definitions_agree c N [] h e f r = r
definitions_agree c N (d ∷ ds) h e f r = definitions_agree c N ds h.1 _ _ (defined_agree c N d d.params h.0 e f r)

one_aside : (c : Check) (N : Word → Type 0) (d : Definition) (ps : List Word) → ps ≡ [] → ((x : Word) → N x → bytes_eq d.title x ≡ false) → (e f : Env) → AgreeOn N Any e f → AgreeOn N Any e (defined c d ps f)
one_aside c N d [] q h e f r = record {
  now = λ y n at. r.now y n at ∙ sym (ap (λ b. cond b (body_sense c d (Some f) at) (f.now y at)) (h y n));
  primed = r.primed;
  defs = r.defs;
}
one_aside c N d (p ∷ ps) q h e f r = cc

aside_agree : (c : Check) (N : Word → Type 0) (es : List Definition) → Aside N es → (e f : Env) → AgreeOn N Any e f → AgreeOn N Any e (with_definitions c es f)
aside_agree c N [] h e f r = r
aside_agree c N (d ∷ es) h e f r = aside_agree c N es h.2 e (defined c d d.params f) (one_aside c N d d.params h.0 h.1 e f r)

with_both : (c : Check) (ds es : List Definition) (e : Env) → with_definitions c (ds ++ es) e ≡ with_definitions c es (with_definitions c ds e)
with_both c [] es e = refl
with_both c (d ∷ ds) es e = with_both c ds es (defined c d d.params e)

-- ---- the two look-ups

or_of_common : (g m t : Bool) → (g ≡ true → m ≡ true) → (g || not (m || t)) ≡ true → g ≡ m
or_of_common true m t h e = sym (h refl)
or_of_common false true t h e = cc
or_of_common false false t h e = refl

module _ (P : Program) (extra : List Definition) (v : Actor) (u : Routine) (k : NamesApart P extra v u) where
  -- a name that is common is a variable where it is a global
  global_is : (x : Word) → Common P extra x → declares P.algorithm.globals x ≡ is_among (vars P) x
  global_is x n = or_of_common (declares P.algorithm.globals x) (is_among (vars P) x) (is_among (titles extra) x) (λ e. (k.global x e).0) n

  states_agree : (s : State) → AgreeOn (Common P extra) Any (in_states (globals_on s P.algorithm.globals) no_state (base P.check P.constants)) (in_states (values_of (vars P) s) no_state (base P.check P.constants))
  states_agree s = record {
    now = λ x n at i. or_sense (cond (global_is x n i) (Some (s x)) None) ((base P.check P.constants).now x at);
    primed = λ x at. refl;
    defs = λ x n. refl;
  }

  -- so it means the same beside the variables of all routines
  pub common_agree : (s : State) → AgreeOn (Common P extra) Any (global_env P s) (scope_of P.check P.constants (definitions_of P ++ extra) (values_of (vars P) s) no_state)
  common_agree s =
      subst (AgreeOn (Common P extra) Any (global_env P s)) (sym (with_both P.check (definitions_of P) extra _))
      (aside_agree P.check (Common P extra) extra k.aside _ _ (definitions_agree P.check (Common P extra) (definitions_of P) k.definitions _ _ (states_agree s)))

  -- ---- in the scope of the written names

  abbrev W : Scope
  W = written_scope P extra v

  abbrev O : Scope
  O = own_scope P.check self (is_own_variable P) W

  abbrev E : State → Env
  E s = scope_of P.check P.constants (definitions_of P ++ extra) (values_of (vars P) s) no_state

  apart_self : (x : Word) → is_among (vars P) x ≡ true → bytes_eq self x ≡ false
  apart_self x m = by (bytes_eq self x) refl
    where
      by : (b : Bool) → bytes_eq self x ≡ b → b ≡ false
      by true q = absurd (both_ways (is_among (vars P) self) k.self_free (ap (is_among (vars P)) ((bytes_eq-Decides self x).0 q) ∙ m))
      by false q = refl

  bound_other : (w : Option Value) (e : Env) (x : Word) (at : Place) → bytes_eq self x ≡ false → (self_bound w e).now x at ≡ e.now x at
  bound_other (Some w) e x at q = ap (λ b. cond b (just w) (e.now x at)) q
  bound_other None e x at q = refl

  bound_self : (w : Option Value) (e : Env) (x : Word) (at : Place) → bytes_eq self x ≡ true → (self_bound w e).now x at ≡ or_sense w (e.now x at)
  bound_self (Some w) e x at q = ap (λ b. cond b (just w) (e.now x at)) q
  bound_self None e x at q = refl

  pub variable_read : (x : Word) → is_among (vars P) x ≡ true → (at : Place) (s : State) → (W.env s).now x at ≡ just (s x)
  variable_read x m at s =
      bound_other v.self (E s) x at (apart_self x m)
      ∙ looked_through P.check (definitions_of P ++ extra) _ x at (k.untitled x m)
      ∙ ap (λ b. or_sense (cond b (Some (s x)) None) ((base P.check P.constants).now x at)) m

  common_read : (x : Word) → Common P extra x → bytes_eq self x ≡ false → (at : Place) (s : State) → (W.env s).now x at ≡ (global_env P s).now x at
  common_read x n q at s = bound_other v.self (E s) x at q ∙ sym ((common_agree s).now x n at)

  self_common : (x : Word) → bytes_eq self x ≡ true → Common P extra x
  self_common x q =
      subst (Common P extra) ((bytes_eq-Decides self x).0 q)
      ((λ i. declares P.algorithm.globals self || not (k.self_free i || k.self_untitled i)) ∙ or_true (declares P.algorithm.globals self))
    where
      or_true : (b : Bool) → (b || true) ≡ true
      or_true true = refl
      or_true false = refl

  self_read : (x : Word) → bytes_eq self x ≡ true → (at : Place) (s : State) → (W.env s).now x at ≡ or_sense v.self ((global_env P s).now x at)
  self_read x q at s = bound_self v.self (E s) x at q ∙ ap (or_sense v.self) (sym ((common_agree s).now x (self_common x q) at))

  not_own : (x : Word) → Common P extra x → is_own_variable P x ≡ false
  not_own x n = by (is_own_variable P x) refl
    where
      by : (b : Bool) → is_own_variable P x ≡ b → b ≡ false
      by true q = absurd (both_ways (is_own_variable P x) ((k.global x (global_is x n ∙ (k.own x q).0)).1) q)
      by false q = refl

  -- ---- name by name

  plain_read : (x : Word) → is_own_variable P x ≡ false → (at : Place) (s : State) → (O.env s).now x at ≡ (W.env s).now x at
  plain_read x q at s = ap (λ b. read_tree P.check (cond b (Some (own_part self x at)) None) x at (W.env s)) q

  whole : Whole (is_among (vars P)) self (identifier v.self) (is_own_variable P) W
  whole = record {
    part = λ x m at s. ap (λ b. cond b (Ok (part_at x [])) (Err (fault NotFunction nowhere))) m;
    identity = λ x o at s. identified ((k.own x o).1.0) ((k.own x o).1.1) at s;
  }
    where
      identified : (w : Value) → v.self ≡ Some w → (at : Place) (s : State) → (W.env s).now self at ≡ just (identifier v.self)
      identified w q at s = (λ i. (self_bound (q i) (E s)).now self at) ∙ ap (λ (o : Option Value). just (identifier o)) (sym q)

  pub stands : (x : Word) → is_among (vars P) x ≡ true → StandsAtPath O (own_path (is_own_variable P x) (identifier v.self)) x
  stands x m = own_stands P.check (is_among (vars P)) self (identifier v.self) (is_own_variable P) W whole x m (variable_read x m)

  seen_common : (x : Word) → Seen P extra u x → declares (locals u) x ≡ false → Common P extra x
  seen_common x n q = sym (ap (λ b. b || common P extra x) q) ∙ n

  now_by : (s : State) (x : Word) (at : Place) → Seen P extra u x → (a b : Bool) → bytes_eq self x ≡ a → declares (locals u) x ≡ b
      → cond a (or_sense v.self ((global_env P s).now x at)) (cond b (sense_of (read_at at (local_index v u) (s (written P u x)))) ((global_env P s).now x at))
      ≡ read_tree P.check (cond b (Some (node (name (written P u x)) at no_trees)) None) x at (O.env s)
  now_by s x at n true true p q = absurd (both_ways (declares (locals u) self) k.self_local (ap (declares (locals u)) ((bytes_eq-Decides self x).0 p) ∙ q))
  now_by s x at n true false p q = sym (self_read x p at s) ∙ sym (plain_read x (not_own x (self_common x p)) at s)
  now_by s x at n false true p q =
      (λ i. sense_of (read_at at (k.path x q i) (s (written P u x)))) ∙ sym ((stands (written P u x) (k.local x q) at s).1)
  now_by s x at n false false p q =
      let c = seen_common x n q in
      sym (common_read x c p at s) ∙ sym (plain_read x (not_own x c) at s)

  part_by : (s : State) (x : Word) (at : Place) → Seen P extra u x → (b : Bool) → declares (locals u) x ≡ b
      → cond b (Ok (record { variable = written P u x; path = local_index v u })) (global_part P x) ≡ reach_in P.check (cond b (Some (node (name (written P u x)) at no_trees)) None) x at O s
  part_by s x at n true q = (λ i. Ok (record { variable = written P u x; path = k.path x q i })) ∙ sym ((stands (written P u x) (k.local x q) at s).0)
  part_by s x at n false q =
      let c = seen_common x n q in
      (λ i. cond (global_is x c i) (Ok (part_at x [])) (Err (fault NotFunction nowhere)))
      ∙ sym (ap (λ b. reach_in P.check (cond b (Some (own_part self x at)) None) x at W s) (not_own x c))

  origin_by : (x : Word) (at : Place) (b a : Bool) → at ≡ origin_in (cond b (Some (node (name (written P u x)) at no_trees)) None) x at O
  origin_by x at true a = own_origin (written P u x) at (is_own_variable P (written P u x))
    where
      own_origin : (y : Word) (at : Place) (b : Bool) → at ≡ origin_in (cond b (Some (own_part self y at)) None) y at W
      own_origin y at true = refl
      own_origin y at false = refl
  origin_by x at false a = own_origin x at (is_own_variable P x)
    where
      own_origin : (y : Word) (at : Place) (b : Bool) → at ≡ origin_in (cond b (Some (own_part self y at)) None) y at W
      own_origin y at true = refl
      own_origin y at false = refl

  free_by : (x : Word) (at p : Place) (s : State) (b : Bool) → is_own_variable P x ≡ b → reach_in P.check (cond b (Some (own_part self x at)) None) x at W s ≡ reach_in P.check (cond b (Some (own_part self x p)) None) x p W s
  free_by x at p s true q =
      let m = (k.own x q).0 in
      let i = (stands x m at s).0 in
      let j = (stands x m p s).0 in
      sym (ap (λ b. reach_in P.check (cond b (Some (own_part self x at)) None) x at W s) q) ∙ i ∙ sym j ∙ ap (λ b. reach_in P.check (cond b (Some (own_part self x p)) None) x p W s) q
  free_by x at p s false q = refl

  -- for the names that are seen in a routine, its scope is that of the written names with these put in
  pub routine_meets : Meets P.check (renames P u) (Seen P extra u) O (routine_scope P v u)
  routine_meets = record {
    env = λ s. record {
      now = λ x n at. now_by s x at n (bytes_eq self x) (declares (locals u) x) refl refl;
      primed = λ x at. bound_primed v.self (E s) x at ∙ primed_through P.check (definitions_of P ++ extra) _ x at ∙ sym (primed_through P.check (definitions_of P) _ x at);
      defs = λ x m. bound_defs v.self (E s) x ∙ sym ((common_agree s).defs x tt);
    };
    part = λ x n at s. part_by s x at n (declares (locals u) x) refl;
    origin = λ x n at. origin_by x at (declares (locals u) x) true;
    free = λ x at p s. free_by x at p s (is_own_variable P x) refl;
  }
    where
      bound_primed : (w : Option Value) (e : Env) (x : Word) (at : Place) → (self_bound w e).primed x at ≡ e.primed x at
      bound_primed (Some w) e x at = refl
      bound_primed None e x at = refl

      bound_defs : (w : Option Value) (e : Env) (x : Word) → (self_bound w e).defs x ≡ e.defs x
      bound_defs (Some w) e x = refl
      bound_defs None e x = refl
