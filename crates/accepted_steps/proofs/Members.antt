-- A member of the set that an expression gives is one by the test for membership, whatever its values are, where limits change no value.
use Rattle.std.proofs.Common.{◌≡◌, Bool, true, false, ◌&&◌, ◌||◌, cond, bytes_eq, codes, List, [], ◌∷◌, ◌++◌, map, Option, Some, None, refl, sym, ◌∙◌, ap, Ok, Err}
use Rattle.std.specs.List.{AllByRecursion}
use Rattle.std.proofs.lemmas.Bool.{or_right}
use Rattle.tla_token.specs.declared.place.Place.{Place}
use Rattle.tla_tree.specs.declared.op.Op.{Op}
use Rattle.tla_tree.specs.declared.op.Op.TheVariants.{Subset}
use Rattle.tla_tree.specs.Tree.{Word, Strict, operator, functions, records, name, next, strings, strict, operator_call, Tree, node}
use Rattle.tla_value.specs.declared.fault.FaultKind.TheVariants.{NotSet}
use Rattle.tla_value.specs.Value.{Value, Values, Trouble, fault, set, no_values, and, values_in, Outcome, ◌>>=◌, Sense}
use Rattle.tla_value.specs.Order.{same, holds}
use Rattle.tla_value.specs.OrderLaws.{same_is, same_self}
use Rattle.tla_value.specs.Sets.{all_in, sublists, subsets, functions_over, is_function_over, is_subset}
use Rattle.tla_value.specs.Stops.{Check, members_at, one_of, tested, sense_of, misshapen}
use Rattle.tla_value.specs.Strict.{strict_value, strict_test, space_of, made}
use Rattle.tla_value.specs.Standard.{Standard, sequences, standard_of, is_int, is_natural, standard_value, standard_sense, standard_called, standard_name}
use Rattle.tla_value.specs.Meaning.{Env, part_values, only_tested, is_text, called, value_of, eval, evals}
use Rattle.tla_value.specs.Definitions.{Valuation, Definition, or_sense, base, in_states, at_use, with_arguments, body_sense, defined, with_definitions, scope_of}
use Rattle.tla_value.proofs.OrderSets.{holds_set_from}
use Rattle.tla_value.proofs.Outcomes.{bound_ok}
use Rattle.tla_value.proofs.Untested.{functions_tested}
use Rattle.accepted_steps.specs.StartedStates.{HandsOn}

-- ---- senses

abbrev pub Holding : Sense → Type 0
Holding s = (ws : Values) → s.value ≡ Ok (set ws) → (p : Place) (v : Value) → holds v ws ≡ true → s.test p v ≡ Ok true

pub made_holding : (o : Outcome Value) → Holding (sense_of o)
made_holding o ws q p v h = ap (tested p v) q ∙ ap Ok h

no_result : {X : Type 0} {k : Trouble} {x : X} → ◌≡◌ {A = Outcome X} (Err k) (Ok x) → ⊥
no_result q = cc

unlisted : (s : Sense) (k : Trouble) → s.value ≡ Err k → Holding s
unlisted s k e ws q p v h = absurd (no_result (sym e ∙ q))

pub either_holding : (b : Bool) (s t : Sense) → Holding s → Holding t → Holding (cond b s t)
either_holding true s t h k = h
either_holding false s t h k = k

pub or_holding : (o : Option Value) (s : Sense) → Holding s → Holding (or_sense o s)
or_holding (Some w) s h = made_holding (Ok w)
or_holding None s h = h

-- what goes on with a result
then_holding : {X : Type 0} (o : Outcome X) (go : X → Sense) → ((x : X) → Holding (go x)) → Holding (record { value = o >>= (λ x. (go x).value); test = λ p v. o >>= (λ x. (go x).test p v) })
then_holding (Ok x) go h = h x
then_holding (Err j) go h = λ ws q p v k. absurd (no_result q)

-- ---- sets of sets

in_more : (v : Value) (ws vs : Values) → all_in ws vs ≡ true → all_in ws (and v vs) ≡ true
in_more v no_values vs h = refl
in_more v (and w ws) vs h = (let k = both (holds w vs) (all_in ws vs) h in λ i. or_right (same w v) (holds w vs) k.0 i && in_more v ws vs k.1 i)
  where
    both : (a b : Bool) → (a && b) ≡ true → (a ≡ true) × (b ≡ true)
    both true b e = (refl, e)
    both false b e = cc

abbrev AllIn : Values → List Values → Type 0
AllIn vs ts = AllByRecursion (λ t. all_in t vs ≡ true) ts

fronts_in : (v : Value) (vs : Values) (ts : List Values) → AllIn vs ts → AllIn (and v vs) (map (and v) ts)
fronts_in v vs [] h = tt
fronts_in v vs (t ∷ ts) h = ((λ i. (same_self v i || holds v vs) && in_more v t vs h.0 i), fronts_in v vs ts h.1)

more_in : (v : Value) (vs : Values) (ts ss : List Values) → AllIn vs ts → AllIn (and v vs) ss → AllIn (and v vs) (ts ++ ss)
more_in v vs [] ss h k = k
more_in v vs (t ∷ ts) ss h k = (in_more v t vs h.0, more_in v vs ts ss h.1 k)

sublists_in : (vs : Values) → AllIn vs (sublists vs)
sublists_in no_values = (refl, tt)
sublists_in (and v vs) = more_in v vs (sublists vs) (map (and v) (sublists vs)) (sublists_in vs) (fronts_in v vs (sublists vs) (sublists_in vs))

one_subset : (v : Value) (vs : Values) (ts : List Values) → AllIn vs ts → holds v (values_in (map set ts)) ≡ true → is_subset v vs ≡ true
one_subset v vs [] a h = cc
one_subset v vs (t ∷ ts) a h = by (same v (set t)) refl h (one_subset v vs ts a.1)
  where
    by : (b : Bool) → same v (set t) ≡ b → (b || holds v (values_in (map set ts))) ≡ true → (holds v (values_in (map set ts)) ≡ true → is_subset v vs ≡ true) → is_subset v vs ≡ true
    by true q k f = ap (λ (w : Value). is_subset w vs) (same_is v (set t) q) ∙ a.0
    by false q k f = f k

held_subset : (v : Value) (vs : Values) → holds v (subsets vs) ≡ true → is_subset v vs ≡ true
held_subset v vs h = one_subset v vs (sublists vs) (sublists_in vs) (sym (holds_set_from v (map set (sublists vs))) ∙ h)

-- names and operators that have a set for their value hold its members
pub record HoldingEnv (e : Env) : Type 0 where
  pub now : (x : Word) (at : Place) → Holding (e.now x at)
  pub primed : (x : Word) (at : Place) → Holding (e.primed x at)
  pub defs : (x : Word) (at : Place) (vs : List Value) → Holding (called at (e.defs x) vs)

-- ---- forms

module _ (c : Check) (l : HandsOn c) where
  handed : (at : Place) (o : Outcome Value) (w : Value) → (o >>= c at) ≡ Ok w → o ≡ Ok w
  handed at o w q = (let (u, e, k) = bound_ok o (c at) w q in e ∙ ap Ok (sym (l at u w k)))

  set_is : {ss ts : Values} → ◌≡◌ {A = Outcome Value} (Ok (set ss)) (Ok (set ts)) → ss ≡ ts
  set_is e = cc

  space_holding : (o : Outcome (Values × Values)) (ws : Values) (v : Value) → (o >>= (λ (ds, ss). Ok (set (functions_over ds ss)))) ≡ Ok (set ws) → holds v ws ≡ true → (o >>= (λ (ds, ss). Ok (is_function_over v ds ss))) ≡ Ok true
  space_holding (Ok x) ws v q h = ap Ok (sym (functions_tested v x.0 x.1) ∙ ap (holds v) (set_is q) ∙ h)
  space_holding (Err k) ws v q h = cc

  subsets_holding : (at : Place) (o : Outcome Value) (ws : Values) (v : Value) → (o >>= (λ a. members_at at a >>= (λ ss. Ok (set (subsets ss))))) ≡ Ok (set ws) → holds v ws ≡ true
      → (o >>= (λ a. members_at at a >>= (λ ss. Ok (is_subset v ss)))) ≡ Ok true
  subsets_holding at (Ok a) ws v q h = by (members_at at a) q
    where
      by : (o : Outcome Values) → (o >>= (λ ss. Ok (set (subsets ss)))) ≡ Ok (set ws) → (o >>= (λ ss. Ok (is_subset v ss))) ≡ Ok true
      by (Ok ss) k = ap Ok (held_subset v ss (ap (holds v) (set_is k) ∙ h))
      by (Err j) k = cc
  subsets_holding at (Err k) ws v q h = cc

  abbrev strict_sense : Strict → Place → List Value → Sense
  strict_sense o at vs = record { value = strict_value c o at vs; test = λ p v. strict_test c o at p v vs }

  operator_holding : (o : Op) (at : Place) (vs : List Value) → Holding (strict_sense (operator o) at vs)
  operator_holding Subset at vs ws q p v h = subsets_holding at (one_of at vs) ws v (handed at (made (operator Subset) at vs) (set ws) q) h
  operator_holding o at vs ws q p v h = made_holding (strict_value c (operator o) at vs) ws q p v h

  strict_holding : (o : Strict) (at : Place) (vs : List Value) → Holding (strict_sense o at vs)
  strict_holding (operator o) at vs ws q p v h = operator_holding o at vs ws q p v h
  strict_holding functions at vs ws q p v h = space_holding (space_of functions at vs) ws v (handed at (made functions at vs) (set ws) q) h
  strict_holding (records xs) at vs ws q p v h = space_holding (space_of (records xs) at vs) ws v (handed at (made (records xs) at vs) (set ws) q) h
  strict_holding o at vs ws q p v h = made_holding (strict_value c o at vs) ws q p v h

  pub eval_holding : (t : Tree) (e : Env) → HoldingEnv e → Holding (eval c t e)
  eval_holding (node (name x) at ts) e k = k.now x at
  eval_holding (node (next x) at ts) e k = k.primed x at
  eval_holding (node strings at ts) e k = unlisted (only_tested at is_text) (fault NotSet at) refl
  eval_holding (node (strict o) at ts) e k = then_holding (part_values (evals c ts) e) (strict_sense o at) (strict_holding o at)
  eval_holding (node (operator_call g) at ts) e k = then_holding (part_values (evals c ts) e) (called at (e.defs g)) (k.defs g at)
  eval_holding (node m at ts) e k = made_holding (value_of c m at (evals c ts) e)

  -- ---- scopes

  name_holding : (x : Word) (at : Place) → Holding (standard_name x at)
  name_holding x at =
      either_holding (bytes_eq (codes "Nat") x) _ _ (unlisted (only_tested at is_natural) (fault NotSet at) refl)
      (either_holding (bytes_eq (codes "Int") x) _ _ (unlisted (only_tested at is_int) (fault NotSet at) refl) (made_holding (misshapen at)))

  sense_holding : (o : Standard) (at : Place) (vs : List Value) → Holding (standard_sense c o at vs)
  sense_holding sequences at vs = unlisted (standard_sense c sequences at vs) (fault NotSet at) refl
  sense_holding o at vs = made_holding (standard_value c o at vs)

  called_holding : (o : Option Standard) (at : Place) (vs : List Value) → Holding (called at (standard_called c o) vs)
  called_holding None at vs = made_holding (misshapen at)
  called_holding (Some o) at vs = sense_holding o at vs

  body_holding : (d : Definition) (e : Option Env) (at : Place) → Holding (body_sense c d e at)
  body_holding d (Some e) at = made_holding (at_use d.outside at (eval c d.body e).value)
  body_holding d None at = made_holding (misshapen at)

  defined_holding : (d : Definition) (ps : List Word) (e : Env) → HoldingEnv e → HoldingEnv (defined c d ps e)
  defined_holding d [] e h = record {
    now = λ x at. either_holding (bytes_eq d.title x) (body_sense c d (Some e) at) (e.now x at) (body_holding d (Some e) at) (h.now x at);
    primed = h.primed;
    defs = h.defs;
  }
  defined_holding d (p ∷ ps) e h = record {
    now = h.now;
    primed = h.primed;
    defs = λ x at vs. by x at vs (bytes_eq d.title x);
  }
    where
      by : (x : Word) (at : Place) (vs : List Value) (b : Bool) → Holding (called at (cond b (Some (λ (q : Place) (us : List Value). body_sense c d (with_arguments (p ∷ ps) us e) q)) (e.defs x)) vs)
      by x at vs true = body_holding d (with_arguments (p ∷ ps) vs e) at
      by x at vs false = h.defs x at vs

  definitions_holding : (ds : List Definition) (e : Env) → HoldingEnv e → HoldingEnv (with_definitions c ds e)
  definitions_holding [] e h = h
  definitions_holding (d ∷ ds) e h = definitions_holding ds (defined c d d.params e) (defined_holding d d.params e h)

  pub scope_holding : (constants : Valuation) (ds : List Definition) (s t : Valuation) → HoldingEnv (scope_of c constants ds s t)
  scope_holding constants ds s t = definitions_holding ds (in_states s t (base c constants)) (record {
    now = λ x at. or_holding (s x) _ (or_holding (constants x) (standard_name x at) (name_holding x at));
    primed = λ x at. or_holding (t x) _ (made_holding (misshapen at));
    defs = λ f at vs. called_holding (standard_of f) at vs;
  })
