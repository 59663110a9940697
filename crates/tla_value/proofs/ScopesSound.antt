-- In the scope of definitions names stand for canonical values where constants and states have such, and what has a value is tested by it.
use Rattle.std.proofs.Common.{◌≡◌, suc, ℤ, pos, ◌+ℤ◌, ◌-ℤ◌, Bool, true, false, cond, bytes_eq, codes, List, [], ◌∷◌, ◌++◌, Option, Some, None, refl, sym, ap, ◌∙◌, Ok, Err}
use Rattle.tla_token.specs.declared.place.Place.{Place}
use Rattle.tla_tree.specs.Tree.{Word}
use Rattle.tla_value.specs.declared.fault.FaultKind.TheVariants.{AssertFailed}
use Rattle.tla_value.specs.Value.{Value, truth, int, set, Outcome, Sense, fault, values_in, in_order}
use Rattle.tla_value.specs.Order.{IsCanonical, AreCanonical, count, listed}
use Rattle.tla_value.specs.Stops.{Check, truth_at, int_at, members_at, sequence_at, one_of, two_of, three_of, misshapen}
use Rattle.tla_value.specs.Sets.{range, natural}
use Rattle.tla_value.specs.Standard.{Standard, length_of, appended, first_of, rest_of, part_of, sequences, size_of, is_finite, printed, asserted, standard_of, headed, tailed, element, part_between, standard_value, standard_sense, standard_called, is_int, is_natural, standard_name}
use Rattle.tla_value.specs.Meaning.{Env, just, bind, called, only_tested, eval}
use Rattle.tla_value.specs.Definitions.{Valuation, Definition, or_sense, base, in_states, at_use, with_arguments, body_sense, defined, with_definitions, scope_of}
use Rattle.tla_value.specs.laws.CanonicalNames.{Has, Proper, Keeping, Sound, MeansAlike, TestsByValue}
use Rattle.tla_value.proofs.OrderFuns.{seq_from_canonical, values_listed}
use Rattle.tla_value.proofs.Canonical.{then_has, any_has, has_cond, IsSet, append_canonical, integers_canonical}
use Rattle.tla_value.proofs.CanonicalForms.{AreBoth, AreAll, one_proper, two_proper, set_proper, sequence_proper, applied_proper}
use Rattle.tla_value.proofs.CanonicalEval.{sound_bind, eval_canonical, proper_either}
use Rattle.tla_value.proofs.CanonicalTests.{made_means}

-- ---- what has a value is tested by it

abbrev ByValue : Sense → Type 0
ByValue s = (v : Value) → s.value ≡ Ok v → MeansAlike s (just v)

either_by : (b : Bool) (s t : Sense) → ByValue s → ByValue t → ByValue (cond b s t)
either_by true s t h k = h
either_by false s t h k = k

or_by : (o : Option Value) (s : Sense) → ByValue s → ByValue (or_sense o s)
or_by (Some w) s h = λ v q. made_means (Ok w) v q
or_by None s h = h

unlisted_by : (at : Place) (holds : Value → Bool) → ByValue (only_tested at holds)
unlisted_by at holds = λ v q. cc

standard_by : (x : Word) (at : Place) → ByValue (standard_name x at)
standard_by x at =
    either_by (bytes_eq (codes "Nat") x) _ _ (unlisted_by at is_natural)
    (either_by (bytes_eq (codes "Int") x) _ _ (unlisted_by at is_int) (λ v q. made_means (misshapen at) v q))

sense_by : (c : Check) (o : Standard) (at : Place) (vs : List Value) → ByValue (standard_sense c o at vs)
sense_by c sequences at vs = λ v q. cc
sense_by c o at vs = λ v q. made_means (standard_value c o at vs) v q

called_by : (c : Check) (o : Option Standard) (at : Place) (vs : List Value) → ByValue (called at (standard_called c o) vs)
called_by c None at vs = λ v q. made_means (misshapen at) v q
called_by c (Some o) at vs = sense_by c o at vs

body_by : (c : Check) (d : Definition) (e : Option Env) (at : Place) → ByValue (body_sense c d e at)
body_by c d (Some e) at = λ v q. made_means (at_use d.outside at (eval c d.body e).value) v q
body_by c d None at = λ v q. made_means (misshapen at) v q

defined_by : (c : Check) (d : Definition) (ps : List Word) (e : Env) → TestsByValue e → TestsByValue (defined c d ps e)
defined_by c d [] e h = record {
  now = λ x at. either_by (bytes_eq d.title x) (body_sense c d (Some e) at) (e.now x at) (body_by c d (Some e) at) (h.now x at);
  primed = h.primed;
  defs = h.defs;
}
defined_by c d (p ∷ ps) e h = record {
  now = h.now;
  primed = h.primed;
  defs = λ x at vs k. by x at vs k (bytes_eq d.title x);
}
  where
    by : (x : Word) (at : Place) (vs : List Value) → AreCanonical (values_in vs) → (b : Bool) → ByValue (called at (cond b (Some (λ (q : Place) (us : List Value). body_sense c d (with_arguments (p ∷ ps) us e) q)) (e.defs x)) vs)
    by x at vs k true = body_by c d (with_arguments (p ∷ ps) vs e) at
    by x at vs k false = h.defs x at vs k

definitions_by : (c : Check) (ds : List Definition) (e : Env) → TestsByValue e → TestsByValue (with_definitions c ds e)
definitions_by c [] e h = h
definitions_by c (d ∷ ds) e h = definitions_by c ds (defined c d d.params e) (defined_by c d d.params e h)

pub scope_tests_by_value : (c : Check) (constants : Valuation) (ds : List Definition) (s t : Valuation) → TestsByValue (scope_of c constants ds s t)
scope_tests_by_value c constants ds s t = definitions_by c ds (in_states s t (base c constants)) (record {
  now = λ x at. or_by (s x) _ (or_by (constants x) (standard_name x at) (standard_by x at));
  primed = λ x at. or_by (t x) _ (λ v q. made_means (misshapen at) v q);
  defs = λ f at vs k. called_by c (standard_of f) at vs;
})

-- ---- canonical values

abbrev pub AreCanonicalIn : Valuation → Type 0
AreCanonicalIn s = (x : Word) (v : Value) → s x ≡ Some v → IsCanonical v

or_proper : (o : Option Value) (s : Sense) → ((v : Value) → o ≡ Some v → IsCanonical v) → Proper s.value → Proper (or_sense o s).value
or_proper (Some w) s h k = h w refl
or_proper None s h k = k

name_proper : (x : Word) (at : Place) → Proper (standard_name x at).value
name_proper x at = proper_either (bytes_eq (codes "Nat") x) _ _ tt (proper_either (bytes_eq (codes "Int") x) _ _ tt tt)

head_proper : (at : Place) (vs : List Value) → AreAll vs → Proper (headed at vs)
head_proper at [] h = tt
head_proper at (v ∷ vs) h = h.0

tail_proper : (c : Check) → Keeping c → (at : Place) (vs : List Value) → AreAll vs → Proper (tailed c at vs)
tail_proper c l at [] h = tt
tail_proper c l at (v ∷ vs) h = l at _ (seq_from_canonical vs h.1)

abbrev AsMany : List Value → List Value → Type 0
AsMany xs vs = AreAll vs × (count (values_in xs) ≡ count (values_in vs))

elements_proper : (c : Check) (at : Place) (s : Value) (m : ℤ) → IsCanonical s → (is : List Value) → Has (AsMany is) (in_order (element c at s m) is)
elements_proper c at s m h [] = (tt, refl)
elements_proper c at s m h (i ∷ is) =
    then_has IsCanonical (AsMany (i ∷ is)) (element c at s m i) _
    (any_has IsCanonical (int_at at i) _ (λ n. any_has IsCanonical (c at (int (m -ℤ pos 1))) _ (λ j. any_has IsCanonical (c at (int (n +ℤ (m -ℤ pos 1)))) _ (λ k. applied_proper at s k h)))) (λ v k.
    then_has (AsMany is) (AsMany (i ∷ is)) (in_order (element c at s m) is) _ (elements_proper c at s m h is) (λ vs q. ((k, q.0), ap suc q.1)))

part_proper : (c : Check) → Keeping c → (at : Place) (s : Value) (m n : ℤ) → IsCanonical s → Proper (part_between c at s m n)
part_proper c l at s m n h =
    any_has IsCanonical (c at (int (n -ℤ m))) _ (λ i. any_has IsCanonical (c at (int ((n -ℤ m) +ℤ pos 1))) _ (λ j.
    then_has IsCanonical IsCanonical (c at (set (range (pos 1) ((n -ℤ m) +ℤ pos 1)))) _ (l at _ (integers_canonical (natural ((((n -ℤ m) +ℤ pos 1) +ℤ pos 1) -ℤ pos 1)) (pos 1))) (λ domain d.
    then_has IsSet IsCanonical (members_at at domain) _ (set_proper at domain d) (λ is k.
    then_has (AsMany (listed is)) IsCanonical (in_order (element c at s m) (listed is)) _ (elements_proper c at s m h (listed is)) (λ vs q.
    l at _ (k.0, k.1, q.0, ap count (sym (values_listed is)) ∙ q.1))))))

abbrev FirstProper : Value × Value × Value → Type 0
FirstProper vs = IsCanonical vs.0

three_proper : (at : Place) (vs : List Value) → AreAll vs → Has FirstProper (three_of at vs)
three_proper at [] h = tt
three_proper at (a ∷ []) h = tt
three_proper at (a ∷ b ∷ []) h = tt
three_proper at (a ∷ b ∷ d ∷ []) h = h.0
three_proper at (a ∷ b ∷ d ∷ e ∷ vs) h = tt

standard_proper : (c : Check) → Keeping c → (o : Standard) (at : Place) (vs : List Value) → AreAll vs → Proper (standard_value c o at vs)
standard_proper c l length_of at vs h = any_has IsCanonical (one_of at vs) _ (λ s. any_has IsCanonical (sequence_at at s) _ (λ es. l at _ tt))
standard_proper c l appended at vs h =
    then_has AreBoth IsCanonical (two_of at vs) _ (two_proper at vs h) (λ (s, e) k. then_has AreAll IsCanonical (sequence_at at s) _ (sequence_proper at s k.0) (λ es q.
    l at _ (seq_from_canonical (es ++ e ∷ []) (append_canonical es (e ∷ []) q (k.1, tt)))))
standard_proper c l first_of at vs h =
    then_has IsCanonical IsCanonical (one_of at vs) _ (one_proper at vs h) (λ s k. then_has AreAll IsCanonical (sequence_at at s) _ (sequence_proper at s k) (λ es q. head_proper at es q))
standard_proper c l rest_of at vs h =
    then_has IsCanonical IsCanonical (one_of at vs) _ (one_proper at vs h) (λ s k. then_has AreAll IsCanonical (sequence_at at s) _ (sequence_proper at s k) (λ es q. tail_proper c l at es q))
standard_proper c l part_of at vs h =
    then_has FirstProper IsCanonical (three_of at vs) _ (three_proper at vs h) (λ (s, a, b) k. any_has IsCanonical (sequence_at at s) _ (λ es.
    any_has IsCanonical (int_at at a) _ (λ m. any_has IsCanonical (int_at at b) _ (λ n. part_proper c l at s m n k))))
standard_proper c l sequences at vs h = tt
standard_proper c l size_of at vs h = any_has IsCanonical (one_of at vs) _ (λ a. any_has IsCanonical (members_at at a) _ (λ ss. l at _ tt))
standard_proper c l is_finite at vs h = any_has IsCanonical (one_of at vs) _ (λ a. any_has IsCanonical (members_at at a) _ (λ ss. tt))
standard_proper c l printed at vs h = any_has IsCanonical (one_of at vs) _ (λ v. tt)
standard_proper c l asserted at vs h =
    any_has IsCanonical (two_of at vs) _ (λ (v, m). any_has IsCanonical (truth_at at v) _ (λ b. has_cond IsCanonical b (Ok (truth true)) (Err (fault AssertFailed at)) tt tt))

meant_proper : (c : Check) → Keeping c → (o : Standard) (at : Place) (vs : List Value) → AreAll vs → Proper (standard_sense c o at vs).value
meant_proper c l sequences at vs h = tt
meant_proper c l length_of at vs h = standard_proper c l length_of at vs h
meant_proper c l appended at vs h = standard_proper c l appended at vs h
meant_proper c l first_of at vs h = standard_proper c l first_of at vs h
meant_proper c l rest_of at vs h = standard_proper c l rest_of at vs h
meant_proper c l part_of at vs h = standard_proper c l part_of at vs h
meant_proper c l size_of at vs h = standard_proper c l size_of at vs h
meant_proper c l is_finite at vs h = standard_proper c l is_finite at vs h
meant_proper c l printed at vs h = standard_proper c l printed at vs h
meant_proper c l asserted at vs h = standard_proper c l asserted at vs h

called_proper : (c : Check) → Keeping c → (o : Option Standard) (at : Place) (vs : List Value) → AreAll vs → Proper (called at (standard_called c o) vs).value
called_proper c l None at vs h = tt
called_proper c l (Some o) at vs h = meant_proper c l o at vs h

-- environments that are so, or none
abbrev SoundIf : Option Env → Type 0
SoundIf (Some e) = Sound e
SoundIf None = Unit {0}

arguments_sound : (xs : List Word) (vs : List Value) (e : Env) → AreAll vs → Sound e → SoundIf (with_arguments xs vs e)
arguments_sound [] [] e h k = k
arguments_sound [] (v ∷ vs) e h k = tt
arguments_sound (x ∷ xs) [] e h k = tt
arguments_sound (x ∷ xs) (v ∷ vs) e h k = arguments_sound xs vs (bind x v e) h.1 (sound_bind x v e h.0 k)

used_proper : (outside : Bool) (at : Place) (o : Outcome Value) → Proper o → Proper (at_use outside at o)
used_proper outside at (Ok v) h = h
used_proper outside at (Err k) h = tt

body_proper : (c : Check) → Keeping c → (d : Definition) (e : Option Env) → SoundIf e → (at : Place) → Proper (body_sense c d e at).value
body_proper c l d (Some e) h at = used_proper d.outside at (eval c d.body e).value (eval_canonical c l d.body e h)
body_proper c l d None h at = tt

defined_sound : (c : Check) → Keeping c → (d : Definition) (ps : List Word) (e : Env) → Sound e → Sound (defined c d ps e)
defined_sound c l d [] e h = record {
  now = λ x at. proper_either (bytes_eq d.title x) (body_sense c d (Some e) at) (e.now x at) (body_proper c l d (Some e) h at) (h.now x at);
  primed = h.primed;
  defs = h.defs;
}
defined_sound c l d (p ∷ ps) e h = record {
  now = h.now;
  primed = h.primed;
  defs = λ x at vs k. by x at vs k (bytes_eq d.title x);
}
  where
    by : (x : Word) (at : Place) (vs : List Value) → AreAll vs → (b : Bool) → Proper (called at (cond b (Some (λ (q : Place) (us : List Value). body_sense c d (with_arguments (p ∷ ps) us e) q)) (e.defs x)) vs).value
    by x at vs k true = body_proper c l d (with_arguments (p ∷ ps) vs e) (arguments_sound (p ∷ ps) vs e k h) at
    by x at vs k false = h.defs x at vs k

definitions_sound : (c : Check) → Keeping c → (ds : List Definition) (e : Env) → Sound e → Sound (with_definitions c ds e)
definitions_sound c l [] e h = h
definitions_sound c l (d ∷ ds) e h = definitions_sound c l ds (defined c d d.params e) (defined_sound c l d d.params e h)

pub scope_sound : (c : Check) → Keeping c → (constants : Valuation) (ds : List Definition) (s t : Valuation) → AreCanonicalIn constants → AreCanonicalIn s → AreCanonicalIn t → Sound (scope_of c constants ds s t)
scope_sound c l constants ds s t h k m = definitions_sound c l ds (in_states s t (base c constants)) (record {
  now = λ x at. or_proper (s x) _ (k x) (or_proper (constants x) (standard_name x at) (h x) (name_proper x at));
  primed = λ x at. or_proper (t x) _ (m x) tt;
  defs = λ f at vs q. called_proper c l (standard_of f) at vs q;
})
