-- What expressions give on two states: the same, where the states have the same values for the names that are read.
use Rattle.std.proofs.Common.{◌≡◌, List, [], ◌∷◌, ◌++◌, Bool, true, false, cond, bytes_eq, codes, map, Some, None, refl, sym, ap, subst}
use Rattle.std.proofs.lemmas.Slice.Eq.{bytes_eq-Decides}
use Rattle.tla_token.specs.declared.place.Place.{Place}
use Rattle.tla_tree.specs.Tree.{Word}
use Rattle.tla_value.specs.Value.{Value}
use Rattle.tla_value.specs.Stops.{Check, sense_of}
use Rattle.tla_value.specs.Meaning.{Env}
use Rattle.tla_value.specs.Definitions.{Valuation, Definition, no_state, or_sense, base, body_sense, with_arguments, defined, with_definitions, scope_of}
use Rattle.tla_value.specs.laws.FreeNames.{Also, Any, FreeNames, AgreeOn}
use Rattle.tla_value.specs.laws.Grafting.{OutOf, AllSettled}
use Rattle.tla_value.proofs.MidState.{body_agrees, arguments_agree}
use Rattle.pcal_tree.specs.Algorithm.{Declaration, declares, Routine, locals}
use Rattle.pcal_tree.specs.Scope.{State}
use Rattle.pcal_tree.specs.Program.{Program, Actor, inner, globals_on, global_env, local_index, read_at, routine_scope, written}
use Rattle.accepted_steps.specs.StartedStates.{HandsOn}
use Rattle.accepted_steps.proofs.Members.{HoldingEnv, made_holding, or_holding, either_holding, scope_holding}

-- ---- definitions that read nothing of A

module _ (c : Check) (A : Word → Bool) (U : Word → Type 0) where
  abbrev Alike : Env → Env → Type 0
  Alike e f = AgreeOn (OutOf A U) U e f

  defined_alike : (d : Definition) (ps : List Word) → (U d.title → FreeNames (Also ps (OutOf A U)) U d.body) → (e f : Env) → Alike e f → Alike (defined c d ps e) (defined c d ps f)
  defined_alike d [] h e f r = record {
    now = λ x m at. by x m at (bytes_eq d.title x) refl;
    primed = r.primed;
    defs = r.defs;
  }
    where
      by : (x : Word) → OutOf A U x → (at : Place) (b : Bool) → bytes_eq d.title x ≡ b → cond b (body_sense c d (Some e) at) (e.now x at) ≡ cond b (body_sense c d (Some f) at) (f.now x at)
      by x m at true q = body_agrees c (OutOf A U) U d (h (subst U (sym ((bytes_eq-Decides d.title x).0 q)) m.0)) (Some e) (Some f) r at
      by x m at false q = r.now x m at
  defined_alike d (p ∷ ps) h e f r = record {
    now = r.now;
    primed = r.primed;
    defs = λ x m. by x m (bytes_eq d.title x) refl;
  }
    where
      by : (x : Word) → U x → (b : Bool) → bytes_eq d.title x ≡ b
          → cond b (Some (λ (at : Place) (vs : List Value). body_sense c d (with_arguments (p ∷ ps) vs e) at)) (e.defs x) ≡ cond b (Some (λ (at : Place) (vs : List Value). body_sense c d (with_arguments (p ∷ ps) vs f) at)) (f.defs x)
      by x m true q =
          let k = h (subst U (sym ((bytes_eq-Decides d.title x).0 q)) m) in
          λ i. Some (λ at vs. body_agrees c (Also (p ∷ ps) (OutOf A U)) U d k _ _ (arguments_agree U (p ∷ ps) vs (OutOf A U) e f r) at i)
      by x m false q = r.defs x m

  definitions_alike : (ds : List Definition) → AllSettled A U ds → (e f : Env) → Alike e f → Alike (with_definitions c ds e) (with_definitions c ds f)
  definitions_alike [] h e f r = r
  definitions_alike (d ∷ ds) h e f r = definitions_alike ds h.1 _ _ (defined_alike d d.params (λ u. (h.0 u).body) e f r)

  pub scope_alike : (k : Valuation) (ds : List Definition) → AllSettled A U ds → (s z : Valuation) → ((x : Word) → A x ≡ false → s x ≡ z x) → Alike (scope_of c k ds s no_state) (scope_of c k ds z no_state)
  scope_alike k ds h s z g = definitions_alike ds h _ _ (record {
    now = λ x m at i. or_sense (g x m.1 i) ((base c k).now x at);
    primed = λ x at. refl;
    defs = λ x m. refl;
  })

-- ---- globals

pub globals_alike : (ds : List Declaration) (s z : State) → ((x : Word) → declares ds x ≡ true → s x ≡ z x) → globals_on s ds ≡ globals_on z ds
globals_alike ds s z g = λ i x. by x (declares ds x) refl i
  where
    by : (x : Word) (b : Bool) → declares ds x ≡ b → cond b (Some (s x)) None ≡ cond b (Some (z x)) None
    by x true q = ap Some (g x q)
    by x false q = refl

module _ (P : Program) where
  pub global_alike : (s z : State) → ((x : Word) → declares P.algorithm.globals x ≡ true → s x ≡ z x) → global_env P s ≡ global_env P z
  global_alike s z g = λ i. scope_of P.check P.constants (P.outside ++ map inner P.algorithm.definitions) (globals_alike P.algorithm.globals s z g i) no_state

  -- ---- a routine's own variables

  module _ (v : Actor) (u : Routine) (s z : State) (same : global_env P s ≡ global_env P z) (N : Word → Type 0) (own : (x : Word) → N x → declares (locals u) x ≡ true → s (written P u x) ≡ z (written P u x)) where
    pub routine_alike : AgreeOn N Any ((routine_scope P v u).env s) ((routine_scope P v u).env z)
    routine_alike = record {
      now = λ x m at. by x m at (declares (locals u) x) refl;
      primed = λ x at i. (same i).primed x at;
      defs = λ x m i. (same i).defs x;
    }
      where
        by : (x : Word) → N x → (at : Place) (b : Bool) → declares (locals u) x ≡ b
            → cond (bytes_eq (codes "self") x) (or_sense v.self ((global_env P s).now x at)) (cond b (sense_of (read_at at (local_index v u) (s (written P u x)))) ((global_env P s).now x at))
            ≡ cond (bytes_eq (codes "self") x) (or_sense v.self ((global_env P z).now x at)) (cond b (sense_of (read_at at (local_index v u) (z (written P u x)))) ((global_env P z).now x at))
        by x m at true q = λ i. cond (bytes_eq (codes "self") x) (or_sense v.self ((same i).now x at)) (sense_of (read_at at (local_index v u) (own x m q i)))
        by x m at false q = λ i. cond (bytes_eq (codes "self") x) (or_sense v.self ((same i).now x at)) ((same i).now x at)

  -- ---- members

  module _ (l : HandsOn P.check) where
    pub global_holding : (s : State) → HoldingEnv (global_env P s)
    global_holding s = scope_holding P.check l P.constants (P.outside ++ map inner P.algorithm.definitions) (globals_on s P.algorithm.globals) no_state

    pub routine_holding : (v : Actor) (u : Routine) (s : State) → HoldingEnv ((routine_scope P v u).env s)
    routine_holding v u s = record {
      now = λ x at. either_holding (bytes_eq (codes "self") x) _ _ (or_holding v.self _ ((global_holding s).now x at))
          (either_holding (declares (locals u) x) _ _ (made_holding (read_at at (local_index v u) (s (written P u x)))) ((global_holding s).now x at));
      primed = (global_holding s).primed;
      defs = (global_holding s).defs;
    }
