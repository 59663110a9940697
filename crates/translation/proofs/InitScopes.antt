-- Where more names have values, an expression that has a value keeps it: from the scope of identifiers of processes, and from that of globals, to the scope of Init.
use Rattle.std.proofs.Common.{◌≡◌, ◌⊎◌, Bool, true, false, cond, bytes_eq, codes, List, [], ◌∷◌, ◌++◌, Option, Some, None, inl, inr, refl, sym, ◌∙◌, ap, subst, Ok, Err}
use Rattle.tla_token.specs.declared.place.Place.{Place}
use Rattle.tla_tree.specs.Tree.{Word, Tree}
use Rattle.tla_value.specs.Value.{Value, Outcome, Sense, Trouble}
use Rattle.tla_value.specs.Stops.{plain, misshapen, sense_of}
use Rattle.tla_value.specs.Standard.{standard_name}
use Rattle.tla_value.specs.Meaning.{Env, bind, just}
use Rattle.tla_value.specs.Definitions.{Valuation, Definition, no_state, or_sense, base, in_states, body_sense, defined, with_definitions, scope_of}
use Rattle.tla_value.specs.laws.Untitled.{Untitled}
use Rattle.tla_value.proofs.Untitled.{looked_through}
use Rattle.tla_value.proofs.Joined.{Kin, Same, Both, none, one, Checks}
use Rattle.tla_value.proofs.JoinedEval.{Senses, senses_of}
use Rattle.tla_value.proofs.JoinedScopes.{Envs, eval_in, same_use, DefinitionsJoin, definitions_both, base_both}
use Rattle.module_tree.specs.ModuleTruth.{process_set_defined}

-- anything may stand for a trouble
abbrev pub grows : Kin
grows = record {
  beside = λ k j. Unit {0};
  free = λ k. Unit {0};
  place = λ p q. Unit {0};
  self = λ p. tt;
  anything = λ k j h. tt;
  faults = λ k p q e. tt;
  moved = λ p q e k j h. tt;
  free_moved = λ p k h. tt;
}

pub no_limits : Checks grows plain plain
no_limits p q at v = refl

-- a result is kept
pub kept : {X : Type 0} (o q : Outcome X) (x : X) → Same grows o q → o ≡ Ok x → q ≡ Ok x
kept (Ok y) (Ok z) x h e = ap (λ w. Ok w) (sym h) ∙ e
kept (Ok y) (Err k) x h e = absurd h
kept (Err j) q x h e = cc

-- ---- names without a value

abbrev pub Lacks : Sense → Type 0
Lacks s = (k : Trouble) × (s ≡ sense_of (Err k))

any_for : {X : Type 0} (k : Trouble) (q : Outcome X) → Same grows (Err k) q
any_for k (Ok x) = tt
any_for k (Err j) = tt

pub lacks_grows : (s t : Sense) → Lacks s → Senses grows s t
lacks_grows s t h = subst (λ z. Senses grows z t) (sym h.1) (record { value = any_for h.0 t.value; test = λ p q e v. any_for h.0 (t.test q v) })

-- ---- scopes

itself : (ds : List Definition) → Both (DefinitionsJoin grows plain plain no_limits) ds ds
itself [] = none
itself (d ∷ ds) = one (record { title = refl; params = refl; body = eval_in grows plain plain no_limits d.body; use_as = same_use grows d.outside }) (itself ds)

-- no constant and no standard set
abbrev pub NoValue : Valuation → Word → Type 0
NoValue k x = (k x ≡ None) × (bytes_eq (codes "Nat") x ≡ false) × (bytes_eq (codes "Int") x ≡ false)

-- the second state says the same of the name, or the first says nothing, and nothing else does
abbrev pub Fits : Valuation → Valuation → Valuation → Word → Type 0
Fits k s t x = (s x ≡ t x) ⊎ ((s x ≡ None) × NoValue k x)

base_lacks : (k : Valuation) (x : Word) (at : Place) → NoValue k x → Lacks ((base plain k).now x at)
base_lacks k x at h = (_, (λ i. or_sense (h.0 i) (standard_name x at)) ∙ (λ i. cond (h.1 i) ((standard_name (codes "Nat") at)) (cond (h.2 i) (standard_name (codes "Int") at) (sense_of (misshapen at)))))

pub states_lack : (k s : Valuation) (x : Word) (at : Place) → s x ≡ None → NoValue k x → Lacks ((in_states s no_state (base plain k)).now x at)
states_lack k s x at e h = let l = base_lacks k x at h in (l.0, ap (λ o. or_sense o ((base plain k).now x at)) e ∙ l.1)

or_grows : (o : Option Value) (s t : Sense) → Senses grows s t → Senses grows (or_sense o s) (or_sense o t)
or_grows (Some v) s t h = senses_of grows _ _ refl
or_grows None s t h = h

states_grow : (k s t : Valuation) → ((x : Word) → Fits k s t x) → Envs grows (in_states s no_state (base plain k)) (in_states t no_state (base plain k))
states_grow k s t f = record {
  now = λ x p q at. by x p q at (f x);
  primed = λ x p q at. b.primed x p q at;
  defs = b.defs;
}
  where
    b : Envs grows (base plain k) (base plain k)
    b = base_both grows plain plain no_limits k

    by : (x : Word) (p q : Place) → Unit {0} → Fits k s t x → Senses grows (or_sense (s x) ((base plain k).now x p)) (or_sense (t x) ((base plain k).now x q))
    by x p q at (inl e) = subst (λ o. Senses grows (or_sense (s x) ((base plain k).now x p)) (or_sense o ((base plain k).now x q))) e (or_grows (s x) _ _ (b.now x p q at))
    by x p q at (inr h) = lacks_grows _ _ (states_lack k s x p h.0 h.1)

pub scope_grows : (k : Valuation) (ds : List Definition) (s t : Valuation) → ((x : Word) → Fits k s t x) → Envs grows (scope_of plain k ds s no_state) (scope_of plain k ds t no_state)
scope_grows k ds s t f = definitions_both grows plain plain no_limits ds ds (itself ds) _ _ (states_grow k s t f)

pub scope_lacks : (k : Valuation) (ds : List Definition) (s : Valuation) (x : Word) (at : Place) → Untitled x ds → s x ≡ None → NoValue k x → Lacks ((scope_of plain k ds s no_state).now x at)
scope_lacks k ds s x at u e h = let l = states_lack k s x at e h in (l.0, looked_through plain ds _ x at u ∙ l.1)

-- ---- one name more

-- what the first scope lacks may be bound in the second
pub bound_grows : (x : Word) (v : Value) (e f : Env) → ((y : Word) (at : Place) → bytes_eq x y ≡ true → Lacks (e.now y at)) → Envs grows e f → Envs grows e (bind x v f)
bound_grows x v e f l r = record {
  now = λ y p q at. by y p q (bytes_eq x y) refl (r.now y p q at);
  primed = r.primed;
  defs = r.defs;
}
  where
    by : (y : Word) (p q : Place) (b : Bool) → bytes_eq x y ≡ b → Senses grows (e.now y p) (f.now y q) → Senses grows (e.now y p) (cond b (just v) (f.now y q))
    by y p q true n h = lacks_grows _ _ (l y p n)
    by y p q false n h = h

pub with_both : (ds es : List Definition) (e : Env) → with_definitions plain (ds ++ es) e ≡ with_definitions plain es (with_definitions plain ds e)
with_both [] es e = refl
with_both (d ∷ ds) es e = with_both ds es (defined plain d d.params e)

-- and so may ProcSet be defined
pub set_grows : (m : Option Tree) (e f : Env) → ((y : Word) (at : Place) → bytes_eq (codes "ProcSet") y ≡ true → Lacks (e.now y at)) → Envs grows e f → Envs grows e (with_definitions plain (process_set_defined m) f)
set_grows None e f l r = r
set_grows (Some t) e f l r = record {
  now = λ y p q at. by y p q (bytes_eq (codes "ProcSet") y) refl (r.now y p q at);
  primed = r.primed;
  defs = r.defs;
}
  where
    d : Definition
    d = record { title = codes "ProcSet"; params = []; body = t; outside = false }

    by : (y : Word) (p q : Place) (b : Bool) → bytes_eq (codes "ProcSet") y ≡ b → Senses grows (e.now y p) (f.now y q) → Senses grows (e.now y p) (cond b (body_sense plain d (Some f) q) (f.now y q))
    by y p q true n h = lacks_grows _ _ (l y p n)
    by y p q false n h = h
