-- Names whose senses differ only in how values out of order are tested give an expression one value, and such a sense again.
use Rattle.std.proofs.Common.{◌≡◌, Bool, true, false, cond, bytes_eq, List, [], ◌∷◌, ◌++◌, map, refl, ap, ◌∙◌, Ok, Err}
use Rattle.tla_token.specs.declared.place.Place.{Place}
use Rattle.tla_tree.specs.declared.op.Binder.{Binder}
use Rattle.tla_tree.specs.Tree.{Word, Name, Strict, Form, number, string, truth as literal, booleans, strings, name, next, strict, operator_call, conjunction, disjunction, implication, member, if_then_else, cases, binding, local, Tree, node, Trees, no_trees, tree}
use Rattle.tla_value.specs.Value.{Value, Values, truth, no_values, and, Outcome, Sense, ◌>>=◌, in_order}
use Rattle.tla_value.specs.Order.{IsCanonical, AreCanonical}
use Rattle.tla_value.specs.Stops.{Check, plain, truth_at, members_at, tested, misshapen, one_of, sense_of}
use Rattle.tla_value.specs.Strict.{strict_value, strict_test, same_truth}
use Rattle.tla_value.specs.Meaning.{Env, Denotation, bind, just, part_values, test, Row, with_first, at_members, at_group, at_choices, suited, at_body, gathered, sources, bound_value, local_value, first_arm, called, meaning_of, eval, evals}
use Rattle.tla_value.specs.laws.CanonicalNames.{Has, Keeping, Sound, MeansAlike, TestsByValue}
use Rattle.tla_value.proofs.Canonical.{then_has, EachList, IsSet}
use Rattle.tla_value.proofs.CanonicalForms.{AreAll, sets_proper}
use Rattle.tla_value.proofs.CanonicalEval.{SoundDen, SoundDens, sound_bind, eval_canonical, evals_canonical, sound_values}
use Rattle.tla_value.proofs.UntestedSets.{strict_tested}

pub record EnvsMeanAlike (e f : Env) : Type 0 where
  pub now : (x : Word) (at : Place) → MeansAlike (e.now x at) (f.now x at)
  pub primed : (x : Word) (at : Place) → MeansAlike (e.primed x at) (f.primed x at)
  pub defs : (x : Word) → e.defs x ≡ f.defs x
  pub sound : Sound e

means_itself : (s : Sense) → MeansAlike s s
means_itself s = record { value = refl; test = λ p v k. refl }

means_either : (b : Bool) (s t u : Sense) → MeansAlike t u → MeansAlike (cond b s t) (cond b s u)
means_either true s t u h = means_itself s
means_either false s t u h = h

-- of a form that makes a value
sense_alike : (o q : Outcome Value) → o ≡ q → MeansAlike (sense_of o) (sense_of q)
sense_alike o q e = record { value = e; test = λ p v k i. tested p v (e i) }

pub bind_alike : (x : Word) (v : Value) (e f : Env) → IsCanonical v → EnvsMeanAlike e f → EnvsMeanAlike (bind x v e) (bind x v f)
bind_alike x v e f c r = record {
  now = λ y at. means_either (bytes_eq x y) (just v) (e.now y at) (f.now y at) (r.now y at);
  primed = r.primed;
  defs = r.defs;
  sound = sound_bind x v e c r.sound;
}

-- what goes on with a result that has the property
pub then_equal : {X Y : Type 0} (P : X → Type 0) (o : Outcome X) (go on : X → Outcome Y) → Has P o → ((x : X) → P x → go x ≡ on x) → o >>= go ≡ o >>= on
then_equal P (Ok x) go on h k = k x h
then_equal P (Err j) go on h k = refl

-- ---- denotations

abbrev pub Steady : Denotation → Type 0
Steady d = (e f : Env) → EnvsMeanAlike e f → MeansAlike (d e) (d f)

-- it gives canonical values, too
abbrev Fine : Denotation → Type 0
Fine d = SoundDen d × Steady d

abbrev AllFine : List Denotation → Type 0
AllFine [] = Unit {0}
AllFine (d ∷ ds) = Fine d × AllFine ds

all_sound : (ds : List Denotation) → AllFine ds → SoundDens ds
all_sound [] h = tt
all_sound (d ∷ ds) h = (h.0.0, all_sound ds h.1)

module _ (e f : Env) (r : EnvsMeanAlike e f) where
  same_values : (ds : List Denotation) → AllFine ds → part_values ds e ≡ part_values ds f
  same_values [] h = refl
  same_values (d ∷ ds) h = λ i. ((h.0.1 e f r).value i) >>= (λ v. (same_values ds h.1 i) >>= (λ vs. Ok (v ∷ vs)))

  same_test : (at : Place) (d : Denotation) → Fine d → test at d e ≡ test at d f
  same_test at d h = λ i. ((h.1 e f r).value i) >>= (truth_at at)

  same_arms : (other : Bool) (at : Place) (ds : List Denotation) → AllFine ds → first_arm other at ds e ≡ first_arm other at ds f
  same_arms other at [] h = refl
  same_arms other at (a ∷ []) h = λ i. cond other ((h.0.1 e f r).value i) (misshapen at)
  same_arms other at (p ∷ a ∷ ds) h = λ i. (same_test at p h.0 i) >>= (λ first. cond first ((h.1.0.1 e f r).value i) (same_arms other at ds h.1.1 i))

-- ---- binders

abbrev SameVisits : (Env → Outcome (List Row)) → Type 0
SameVisits go = (e f : Env) → EnvsMeanAlike e f → go e ≡ go f

same_members : (x : Word) (vs : Values) (go : Env → Outcome (List Row)) → AreCanonical vs → SameVisits go → SameVisits (at_members x vs go)
same_members x no_values go c h e f r = refl
same_members x (and v vs) go c h e f r =
    λ i. (h (bind x v e) (bind x v f) (bind_alike x v e f c.0 r) i) >>= (λ rows. (same_members x vs go c.1 h e f r i) >>= (λ more. Ok (map (with_first v) rows ++ more)))

same_group : (xs : List Name) (s : Values) (go : Env → Outcome (List Row)) → AreCanonical s → SameVisits go → SameVisits (at_group xs s go)
same_group [] s go c h = h
same_group (x ∷ xs) s go c h = same_members x.word s (at_group xs s go) c (same_group xs s go c h)

same_choices : (groups : List (List Name)) (ss : List Values) (go : Env → Outcome (List Row)) → EachList IsSet ss → SameVisits go → SameVisits (at_choices groups ss go)
same_choices [] ss go c h = h
same_choices (xs ∷ groups) [] go c h = h
same_choices (xs ∷ groups) (s ∷ ss) go c h = same_group xs s (at_choices groups ss go) c.0.1 (same_choices groups ss go c.1 h)

same_body : (b : Binder) (at : Place) (d : Denotation) → Fine d → SameVisits (at_body b at d)
same_body b at d h e f r = λ i. ((h.1 e f r).value i) >>= (λ v. (suited b at v) >>= (λ w. Ok (([], w) ∷ [])))

abbrev FineSources : List Value × Denotation → Type 0
FineSources s = AreAll s.0 × Fine s.1

fine_one : (at : Place) (ds : List Denotation) → AllFine ds → Has Fine (one_of at ds)
fine_one at [] h = tt
fine_one at (a ∷ []) h = h.0
fine_one at (a ∷ b ∷ ds) h = tt

fine_sources : (at : Place) (groups : List (List Name)) (ds : List Denotation) (e : Env) → AllFine ds → Sound e → Has FineSources (sources at groups ds e)
fine_sources at [] ds e h r = then_has Fine FineSources (one_of at ds) _ (fine_one at ds h) (λ body i. (tt, i))
fine_sources at (xs ∷ groups) [] e h r = tt
fine_sources at (xs ∷ groups) (d ∷ ds) e h r =
    then_has IsCanonical FineSources (d e).value _ (h.0.0 e r) (λ v c. then_has FineSources FineSources (sources at groups ds e) _ (fine_sources at groups ds e h.1 r) (λ s i. ((c, i.0), i.1)))

module _ (e f : Env) (r : EnvsMeanAlike e f) where
  same_sources : (at : Place) (groups : List (List Name)) (ds : List Denotation) → AllFine ds → sources at groups ds e ≡ sources at groups ds f
  same_sources at [] ds h = refl
  same_sources at (xs ∷ groups) [] h = refl
  same_sources at (xs ∷ groups) (d ∷ ds) h = λ i. ((h.0.1 e f r).value i) >>= (λ v. (same_sources at groups ds h.1 i) >>= (λ s. Ok (v ∷ s.0, s.1)))

  same_bound : (c : Check) (b : Binder) (groups : List (List Name)) (at : Place) (ds : List Denotation) → AllFine ds → bound_value c b groups at ds e ≡ bound_value c b groups at ds f
  same_bound c b groups at ds h =
      then_equal FineSources (sources at groups ds e) _ (go f) (fine_sources at groups ds e h r.sound) (λ s k.
      then_equal (EachList IsSet) (in_order (members_at at) s.0) _ (on f s.1) (sets_proper at s.0 k.0) (λ ss j.
      λ i. (same_choices groups ss (at_body b at s.1) j (same_body b at s.1 k.1) e f r i) >>= (λ rows. c at (gathered b rows))))
      ∙ ap (λ o. o >>= (go f)) (same_sources at groups ds h)
    where
      on : Env → Denotation → List Values → Outcome Value
      on env body ss = (at_choices groups ss (at_body b at body) env) >>= (λ rows. c at (gathered b rows))

      go : Env → List Value × Denotation → Outcome Value
      go env s = (in_order (members_at at) s.0) >>= (on env s.1)

same_local : (at : Place) (xs : List Name) (ds : List Denotation) → AllFine ds → (e f : Env) → EnvsMeanAlike e f → local_value at xs ds e ≡ local_value at xs ds f
same_local at [] ds h e f r = then_equal Fine (one_of at ds) _ _ (fine_one at ds h) (λ body k. (k.1 e f r).value)
same_local at (x ∷ xs) [] h e f r = refl
same_local at (x ∷ xs) (d ∷ ds) h e f r =
    then_equal IsCanonical (d e).value _ (λ v. local_value at xs ds (bind x.word v f)) (h.0.0 e r.sound) (λ v c. same_local at xs ds h.1 (bind x.word v e) (bind x.word v f) (bind_alike x.word v e f c r))
    ∙ ap (λ o. o >>= (λ v. local_value at xs ds (bind x.word v f))) (h.0.1 e f r).value

-- ---- forms

form_steady : (c : Check) (m : Form) (at : Place) (ds : List Denotation) → AllFine ds → Steady (meaning_of c m at ds)
form_steady c (number n) at ds h e f r = means_itself _
form_steady c (string w) at ds h e f r = means_itself _
form_steady c (literal b) at ds h e f r = means_itself _
form_steady c booleans at ds h e f r = means_itself _
form_steady c strings at ds h e f r = means_itself _
form_steady c (name x) at ds h e f r = r.now x at
form_steady c (next x) at ds h e f r = r.primed x at
form_steady c (strict o) at ds h e f r = record {
  value = λ i. (same_values e f r ds h i) >>= (strict_value c o at);
  test = λ p v k i. (same_values e f r ds h i) >>= (strict_test c o at p v);
}
form_steady c (operator_call g) at ds h e f r = record {
  value = λ i. (same_values e f r ds h i) >>= (λ vs. (called at (r.defs g i) vs).value);
  test = λ p v k i. (same_values e f r ds h i) >>= (λ vs. (called at (r.defs g i) vs).test p v);
}
form_steady c conjunction at (a ∷ b ∷ []) h e f r =
    sense_alike _ _ (λ i. (same_test e f r at a h.0 i) >>= (λ p. (cond p (same_test e f r at b h.1.0 i) (Ok false)) >>= (λ q. Ok (truth q))))
form_steady c conjunction at ds h e f r = means_itself _
form_steady c disjunction at (a ∷ b ∷ []) h e f r =
    sense_alike _ _ (λ i. (same_test e f r at a h.0 i) >>= (λ p. (cond p (Ok true) (same_test e f r at b h.1.0 i)) >>= (λ q. Ok (truth q))))
form_steady c disjunction at ds h e f r = means_itself _
form_steady c implication at (a ∷ b ∷ []) h e f r =
    sense_alike _ _ (λ i. (same_test e f r at a h.0 i) >>= (λ p. (cond p (same_test e f r at b h.1.0 i) (Ok true)) >>= (λ q. Ok (truth q))))
form_steady c implication at ds h e f r = means_itself _
form_steady c (member sense) at (a ∷ b ∷ []) h e f r =
    sense_alike _ _ (then_equal IsCanonical (a e).value _ (go f) (h.0.0 e r.sound) (λ v k i. ((h.1.0.1 e f r).test at v k i) >>= (λ is_in. Ok (truth (same_truth sense is_in)))) ∙ ap (λ o. o >>= (go f)) (h.0.1 e f r).value)
  where
    go : Env → Value → Outcome Value
    go env v = ((b env).test at v) >>= (λ is_in. Ok (truth (same_truth sense is_in)))
form_steady c (member sense) at ds h e f r = means_itself _
form_steady c if_then_else at (p ∷ a ∷ b ∷ []) h e f r =
    sense_alike _ _ (λ i. (same_test e f r at p h.0 i) >>= (λ first. cond first ((h.1.0.1 e f r).value i) ((h.1.1.0.1 e f r).value i)))
form_steady c if_then_else at ds h e f r = means_itself _
form_steady c (cases other) at ds h e f r = sense_alike _ _ (same_arms e f r other at ds h)
form_steady c (binding b groups) at ds h e f r = sense_alike _ _ (same_bound e f r c b groups at ds h)
form_steady c (local xs) at ds h e f r = sense_alike _ _ (same_local at xs ds h e f r)

mutual
  eval_fine : (c : Check) → Keeping c → (t : Tree) → Fine (eval c t)
  eval_fine c l (node m at ts) = (eval_canonical c l (node m at ts), form_steady c m at (evals c ts) (evals_fine c l ts))

  evals_fine : (c : Check) → Keeping c → (ts : Trees) → AllFine (evals c ts)
  evals_fine c l no_trees = tt
  evals_fine c l (tree t ts) = (eval_fine c l t, evals_fine c l ts)

pub eval_steady : (c : Check) → Keeping c → (t : Tree) → Steady (eval c t)
eval_steady c l t = (eval_fine c l t).1

-- ---- an expression means its value

pub value_kept : Keeping plain
value_kept at v c = c

of_values : {X : Type 0} (P : X → Type 0) (o : Outcome X) (go : X → Sense) (v : Value) → Has P o → ((x : X) → P x → (go x).value ≡ Ok v → MeansAlike (go x) (just v))
    → (o >>= (λ x. (go x).value)) ≡ Ok v → MeansAlike (record { value = o >>= (λ x. (go x).value); test = λ p w. o >>= (λ x. (go x).test p w) }) (just v)
of_values P (Ok x) go v h k q = k x h q
of_values P (Err j) go v h k q = absurd cc

strict_means : (o : Strict) (at : Place) (v : Value) (vs : List Value) → AreAll vs → strict_value plain o at vs ≡ Ok v
    → MeansAlike (record { value = strict_value plain o at vs; test = λ p w. strict_test plain o at p w vs }) (just v)
strict_means o at v vs c q = record { value = q; test = λ p w k. strict_tested o at p w vs k c ∙ ap (tested p w) q }

pub made_means : (o : Outcome Value) (v : Value) → o ≡ Ok v → MeansAlike (sense_of o) (just v)
made_means o v q = sense_alike o (Ok v) q

-- without limits, where its names and operators do and are canonical
pub means_its_value : (t : Tree) (e : Env) → Sound e → TestsByValue e → (v : Value) → (eval plain t e).value ≡ Ok v → MeansAlike (eval plain t e) (just v)
means_its_value (node (name x) at ts) e r k v q = k.now x at v q
means_its_value (node (next x) at ts) e r k v q = k.primed x at v q
means_its_value (node strings at ts) e r k v q = absurd cc
means_its_value (node (strict o) at ts) e r k v q =
    of_values AreAll (part_values (evals plain ts) e) (λ vs. record { value = strict_value plain o at vs; test = λ p w. strict_test plain o at p w vs }) v
    (sound_values (evals plain ts) e (evals_canonical plain value_kept ts) r) (λ vs c. strict_means o at v vs c) q
means_its_value (node (operator_call g) at ts) e r k v q =
    of_values AreAll (part_values (evals plain ts) e) (λ vs. called at (e.defs g) vs) v
    (sound_values (evals plain ts) e (evals_canonical plain value_kept ts) r) (λ vs c. k.defs g at vs c v) q
means_its_value (node m at ts) e r k v q = made_means _ v q
