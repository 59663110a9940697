-- In the scope of an algorithm, an expression with the assigned variables primed means what it means in the state half done.
use Rattle.std.proofs.Common.{◌≡◌, List, [], ◌∷◌, Bool, true, false, cond, bytes_eq, Option, Some, None, refl, sym, ◌∙◌, ap, subst}
use Rattle.std.proofs.lemmas.Slice.Eq.{bytes_eq-Decides}
use Rattle.tla_token.specs.declared.place.Place.{Place}
use Rattle.tla_tree.specs.Tree.{Word, Tree, Every, graft}
use Rattle.tla_value.specs.Value.{Value, Sense}
use Rattle.tla_value.specs.Stops.{Check, sense_of}
use Rattle.tla_value.specs.Meaning.{Env, eval}
use Rattle.tla_value.specs.Grafts.{primes}
use Rattle.tla_value.specs.Definitions.{Valuation, Definition, or_sense, base, in_states, at_use, with_arguments, body_sense, defined, with_definitions, scope_of, mid}
use Rattle.tla_value.proofs.Primes.{Mixed, primed_law}
use Rattle.tla_value.specs.laws.Grafting.{AllSettled, BindsNone, Given, OutOf}
use Rattle.tla_value.specs.laws.FreeNames.{Or, Also, FreeNames, AgreeOn}
use Rattle.tla_value.proofs.FreeNames.{free_names, bind_agree}

-- they agree on the names of U that are not in A
mixed_agree : (A : Word → Bool) (U : Word → Type 0) (e f : Env) → Mixed A U e f → AgreeOn (OutOf A U) U e f
mixed_agree A U e f r = record {
  now = λ x u at. sym (r.now x u.0 at ∙ ap (λ b. cond b (e.primed x at) (e.now x at)) u.1);
  primed = r.primed;
  defs = r.defs;
}

-- environments that agree so, or none
abbrev pub OptionAgree : (N M : Word → Type 0) → Option Env → Option Env → Type 0
OptionAgree N M (Some e) (Some f) = AgreeOn N M e f
OptionAgree N M None None = Unit {0}
OptionAgree N M _ _ = ⊥

pub arguments_agree : (M : Word → Type 0) (xs : List Word) (vs : List Value) (N : Word → Type 0) (e f : Env) → AgreeOn N M e f → OptionAgree (Also xs N) M (with_arguments xs vs e) (with_arguments xs vs f)
arguments_agree M [] [] N e f r = r
arguments_agree M [] (v ∷ vs) N e f r = tt
arguments_agree M (x ∷ xs) [] N e f r = tt
arguments_agree M (x ∷ xs) (v ∷ vs) N e f r = arguments_agree M xs vs (Or x N) _ _ (bind_agree N M x v e f r)

pub body_agrees : (c : Check) (N M : Word → Type 0) (d : Definition) → FreeNames N M d.body → (e f : Option Env) → OptionAgree N M e f → (at : Place) → body_sense c d e at ≡ body_sense c d f at
body_agrees c N M d h (Some e) (Some f) r at = λ i. sense_of (at_use d.outside at (free_names c N M d.body h e f r i).value)
body_agrees c N M d h (Some e) None r at = absurd r
body_agrees c N M d h None (Some f) r at = absurd r
body_agrees c N M d h None None r at = refl

-- a definition of U, with the parameters ps
abbrev SettledOver : (Word → Bool) → (Word → Type 0) → Definition → List Word → Type 0
SettledOver A U d ps = (A d.title ≡ false) × FreeNames (Also ps (OutOf A U)) U d.body

defined_name : (c : Check) (A : Word → Bool) (U : Word → Type 0) (d : Definition) → (U d.title → SettledOver A U d []) → (e f : Env) → Mixed A U e f → (y : Word) → U y → (at : Place) (b : Bool) → bytes_eq d.title y ≡ b →
    cond b (body_sense c d (Some f) at) (f.now y at) ≡ cond (A y) (e.primed y at) (cond b (body_sense c d (Some e) at) (e.now y at))
defined_name c A U d h e f r y u at true q =
    let titled : d.title ≡ y = (bytes_eq-Decides d.title y).0 q in
    let settled : SettledOver A U d [] = h (subst U (sym titled) u) in
    sym (body_agrees c (OutOf A U) U d settled.1 (Some e) (Some f) (mixed_agree A U e f r) at)
    ∙ sym (ap (λ b. cond b (e.primed y at) (body_sense c d (Some e) at)) (sym (ap A titled) ∙ settled.0))
defined_name c A U d h e f r y u at false q = r.now y u at

defined_call : (c : Check) (A : Word → Bool) (U : Word → Type 0) (d : Definition) (ps : List Word) → (U d.title → SettledOver A U d ps) → (e f : Env) → Mixed A U e f → (y : Word) → U y → (b : Bool) → bytes_eq d.title y ≡ b →
    cond b (Some (λ (at : Place) (vs : List Value). body_sense c d (with_arguments ps vs e) at)) (e.defs y) ≡ cond b (Some (λ (at : Place) (vs : List Value). body_sense c d (with_arguments ps vs f) at)) (f.defs y)
defined_call c A U d ps h e f r y u true q =
    let settled : SettledOver A U d ps = h (subst U (sym ((bytes_eq-Decides d.title y).0 q)) u) in
    λ i. Some (λ at vs. body_agrees c (Also ps (OutOf A U)) U d settled.1 _ _ (arguments_agree U ps vs (OutOf A U) e f (mixed_agree A U e f r)) at i)
defined_call c A U d ps h e f r y u false q = r.defs y u

defined_mixed : (c : Check) (A : Word → Bool) (U : Word → Type 0) (d : Definition) (ps : List Word) → (U d.title → SettledOver A U d ps) → (e f : Env) → Mixed A U e f → Mixed A U (defined c d ps e) (defined c d ps f)
defined_mixed c A U d [] h e f r = record {
  now = λ y u at. defined_name c A U d h e f r y u at (bytes_eq d.title y) refl;
  primed = r.primed;
  defs = r.defs;
}
defined_mixed c A U d (p ∷ ps) h e f r = record {
  now = r.now;
  primed = r.primed;
  defs = λ y u. defined_call c A U d (p ∷ ps) h e f r y u (bytes_eq d.title y) refl;
}

definitions_mixed : (c : Check) (A : Word → Bool) (U : Word → Type 0) (ds : List Definition) → AllSettled A U ds → (e f : Env) → Mixed A U e f → Mixed A U (with_definitions c ds e) (with_definitions c ds f)
definitions_mixed c A U [] h e f r = r
definitions_mixed c A U (d ∷ ds) h e f r = definitions_mixed c A U ds h.1 _ _ (defined_mixed c A U d d.params (λ u. ((h.0 u).title, (h.0 u).body)) e f r)

or_mixed : (b : Bool) (s t : Option Value) (n p : Sense) → (b ≡ true → Given t) → or_sense (cond b t s) n ≡ cond b (or_sense t p) (or_sense s n)
or_mixed true s (Some v) n p h = refl
or_mixed true s None n p h = absurd (h refl)
or_mixed false s t n p h = refl

states_mixed : (A : Word → Bool) (U : Word → Type 0) (s t : Valuation) (e : Env) → ((x : Word) → A x ≡ true → Given (t x)) → Mixed A U (in_states s t e) (in_states (mid A s t) t e)
states_mixed A U s t e h = record {
  now = λ x u at. or_mixed (A x) (s x) (t x) (e.now x at) (e.primed x at) (h x);
  primed = λ x at. refl;
  defs = λ x u. refl;
}

pub scope_mixed : (c : Check) (A : Word → Bool) (U : Word → Type 0) (k : Valuation) (ds : List Definition) (s t : Valuation) → AllSettled A U ds → ((x : Word) → A x ≡ true → Given (t x)) → Mixed A U (scope_of c k ds s t) (scope_of c k ds (mid A s t) t)
scope_mixed c A U k ds s t h g = definitions_mixed c A U ds h _ _ (states_mixed A U s t (base c k) g)

-- e's free names are of U, its bound names are not in A, and a definition of U reads nothing of A
pub mid_law : (c : Check) (A : Word → Bool) (U : Word → Type 0) (k : Valuation) (ds : List Definition) (s t : Valuation) → AllSettled A U ds → ((x : Word) → A x ≡ true → Given (t x)) →
    (e : Tree) → Every (BindsNone A) e → FreeNames U U e → eval c (graft (primes A) e) (scope_of c k ds s t) ≡ eval c e (scope_of c k ds (mid A s t) t)
mid_law c A U k ds s t h g e b o = primed_law c A U e b o _ _ (scope_mixed c A U k ds s t h g)
