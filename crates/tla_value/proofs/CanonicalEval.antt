-- The value of a tree is canonical where its names stand for canonical values.
use Rattle.std.proofs.Common.{Bool, true, false, cond, bytes_eq, List, [], ◌∷◌, ◌++◌, map, refl, Ok}
use Rattle.tla_token.specs.declared.place.Place.{Place}
use Rattle.tla_tree.specs.declared.op.Binder.{Binder}
use Rattle.tla_tree.specs.declared.op.Binder.TheVariants.{ForAll, Exists, Filter, Image, Function}
use Rattle.tla_tree.specs.Tree.{Word, Name, Form, number, string, truth as literal, booleans, strings, name, next, strict, operator_call, conjunction, disjunction, implication, member, if_then_else, cases, binding, local, Tree, node, Trees, no_trees, tree}
use Rattle.tla_value.specs.Value.{Value, Values, no_values, and, Outcome, Sense, values_in, in_order}
use Rattle.tla_value.specs.Order.{IsCanonical, AreCanonical, ArePairsCanonical}
use Rattle.tla_value.specs.Stops.{Check, truth_at, members_at, one_of, two_of, three_of}
use Rattle.tla_value.specs.Meaning.{Env, Denotation, bind, just, part_values, test, Row, with_first, at_members, at_group, at_choices, suited, at_body, key, is_true, where_true, results, table, gathered, sources, local_value, first_arm, meaning_of, eval, evals}
use Rattle.tla_value.specs.laws.CanonicalNames.{Has, Proper, Keeping, Sound}
use Rattle.tla_value.proofs.OrderFuns.{fun_from_canonical, seq_from_canonical}
use Rattle.tla_value.proofs.Canonical.{then_has, any_has, has_cond, EachList, IsSet, set_canonical}
use Rattle.tla_value.proofs.CanonicalForms.{AreAll, sets_proper, strict_proper}

abbrev pub SoundDen : Denotation → Type 0
SoundDen d = (e : Env) → Sound e → Proper (d e).value

abbrev pub SoundDens : List Denotation → Type 0
SoundDens [] = Unit {0}
SoundDens (d ∷ ds) = SoundDen d × SoundDens ds

pub proper_either : (b : Bool) (s t : Sense) → Proper s.value → Proper t.value → Proper (cond b s t).value
proper_either true s t h k = h
proper_either false s t h k = k

pub sound_bind : (x : Word) (v : Value) (e : Env) → IsCanonical v → Sound e → Sound (bind x v e)
sound_bind x v e c r = record {
  now = λ y at. proper_either (bytes_eq x y) (just v) (e.now y at) c (r.now y at);
  primed = r.primed;
  defs = r.defs;
}

pub sound_values : (ds : List Denotation) (e : Env) → SoundDens ds → Sound e → Has AreAll (part_values ds e)
sound_values [] e h r = tt
sound_values (d ∷ ds) e h r =
    then_has IsCanonical AreAll (d e).value _ (h.0 e r) (λ v c. then_has AreAll AreAll (part_values ds e) _ (sound_values ds e h.1 r) (λ vs cs. (c, cs)))

abbrev SoundTwo : Denotation × Denotation → Type 0
SoundTwo ab = SoundDen ab.0 × SoundDen ab.1

sound_two : (at : Place) (ds : List Denotation) → SoundDens ds → Has SoundTwo (two_of at ds)
sound_two at [] h = tt
sound_two at (a ∷ []) h = tt
sound_two at (a ∷ b ∷ []) h = (h.0, h.1.0)
sound_two at (a ∷ b ∷ d ∷ ds) h = tt

abbrev SoundThree : Denotation × Denotation × Denotation → Type 0
SoundThree abd = SoundDen abd.0 × SoundDen abd.1 × SoundDen abd.2

sound_three : (at : Place) (ds : List Denotation) → SoundDens ds → Has SoundThree (three_of at ds)
sound_three at [] h = tt
sound_three at (a ∷ []) h = tt
sound_three at (a ∷ b ∷ []) h = tt
sound_three at (a ∷ b ∷ d ∷ []) h = (h.0, h.1.0, h.1.1.0)
sound_three at (a ∷ b ∷ d ∷ f ∷ ds) h = tt

sound_one : (at : Place) (ds : List Denotation) → SoundDens ds → Has SoundDen (one_of at ds)
sound_one at [] h = tt
sound_one at (a ∷ []) h = h.0
sound_one at (a ∷ b ∷ ds) h = tt

sound_arms : (other : Bool) (at : Place) (ds : List Denotation) (e : Env) → SoundDens ds → Sound e → Proper (first_arm other at ds e)
sound_arms true at [] e h r = tt
sound_arms false at [] e h r = tt
sound_arms true at (a ∷ []) e h r = h.0 e r
sound_arms false at (a ∷ []) e h r = tt
sound_arms other at (p ∷ a ∷ ds) e h r =
    any_has IsCanonical (test at p e) _ (λ first. has_cond IsCanonical first (a e).value (first_arm other at ds e) (h.1.0 e r) (sound_arms other at ds e h.1.1 r))

-- ---- binders

abbrev SoundRows : List Row → Type 0
SoundRows [] = Unit {0}
SoundRows (r ∷ rs) = (AreCanonical (values_in r.0) × IsCanonical r.1) × SoundRows rs

abbrev SoundVisit : (Env → Outcome (List Row)) → Type 0
SoundVisit go = (e : Env) → Sound e → Has SoundRows (go e)

fronted_rows : (v : Value) (rs more : List Row) → IsCanonical v → SoundRows rs → SoundRows more → SoundRows (map (with_first v) rs ++ more)
fronted_rows v [] more c h k = k
fronted_rows v (r ∷ rs) more c h k = (((c, h.0.0), h.0.1), fronted_rows v rs more c h.1 k)

sound_members : (x : Word) (vs : Values) (go : Env → Outcome (List Row)) → AreCanonical vs → SoundVisit go → SoundVisit (at_members x vs go)
sound_members x no_values go c h e r = tt
sound_members x (and v vs) go c h e r =
    then_has SoundRows SoundRows (go (bind x v e)) _ (h (bind x v e) (sound_bind x v e c.0 r)) (λ rows i.
    then_has SoundRows SoundRows (at_members x vs go e) _ (sound_members x vs go c.1 h e r) (λ more j. fronted_rows v rows more c.0 i j))

sound_group : (xs : List Name) (s : Values) (go : Env → Outcome (List Row)) → AreCanonical s → SoundVisit go → SoundVisit (at_group xs s go)
sound_group [] s go c h = h
sound_group (x ∷ xs) s go c h = sound_members x.word s (at_group xs s go) c (sound_group xs s go c h)

sound_choices : (groups : List (List Name)) (ss : List Values) (go : Env → Outcome (List Row)) → EachList IsSet ss → SoundVisit go → SoundVisit (at_choices groups ss go)
sound_choices [] ss go c h = h
sound_choices (xs ∷ groups) [] go c h = h
sound_choices (xs ∷ groups) (s ∷ ss) go c h = sound_group xs s (at_choices groups ss go) c.0.1 (sound_choices groups ss go c.1 h)

sound_suited : (b : Binder) (at : Place) (v : Value) → IsCanonical v → Proper (suited b at v)
sound_suited Image at v c = c
sound_suited Function at v c = c
sound_suited ForAll at v c = any_has IsCanonical (truth_at at v) _ (λ t. tt)
sound_suited Exists at v c = any_has IsCanonical (truth_at at v) _ (λ t. tt)
sound_suited Filter at v c = any_has IsCanonical (truth_at at v) _ (λ t. tt)

sound_body : (b : Binder) (at : Place) (body : Denotation) → SoundDen body → SoundVisit (at_body b at body)
sound_body b at body h e r =
    then_has IsCanonical SoundRows (body e).value _ (h e r) (λ v c. then_has IsCanonical SoundRows (suited b at v) _ (sound_suited b at v c) (λ w i. ((tt, i), tt)))

abbrev SoundSources : List Value × Denotation → Type 0
SoundSources s = AreAll s.0 × SoundDen s.1

sound_sources : (at : Place) (groups : List (List Name)) (ds : List Denotation) (e : Env) → SoundDens ds → Sound e → Has SoundSources (sources at groups ds e)
sound_sources at [] ds e h r = then_has SoundDen SoundSources (one_of at ds) _ (sound_one at ds h) (λ body i. (tt, i))
sound_sources at (xs ∷ groups) [] e h r = tt
sound_sources at (xs ∷ groups) (d ∷ ds) e h r =
    then_has IsCanonical SoundSources (d e).value _ (h.0 e r) (λ v c. then_has SoundSources SoundSources (sources at groups ds e) _ (sound_sources at groups ds e h.1 r) (λ s i. ((c, i.0), i.1)))

sound_local : (at : Place) (xs : List Name) (ds : List Denotation) (e : Env) → SoundDens ds → Sound e → Proper (local_value at xs ds e)
sound_local at [] ds e h r = then_has SoundDen IsCanonical (one_of at ds) _ (sound_one at ds h) (λ body i. i e r)
sound_local at (x ∷ xs) [] e h r = tt
sound_local at (x ∷ xs) (d ∷ ds) e h r = then_has IsCanonical IsCanonical (d e).value _ (h.0 e r) (λ v c. sound_local at xs ds (bind x.word v e) h.1 (sound_bind x.word v e c r))

key_canonical : (vs : List Value) → AreCanonical (values_in vs) → IsCanonical (key vs)
key_canonical [] h = seq_from_canonical [] h
key_canonical (v ∷ []) h = h.0
key_canonical (v ∷ w ∷ vs) h = seq_from_canonical (v ∷ w ∷ vs) h

picked_row : (b : Bool) (v : Value) (vs : List Value) → IsCanonical v → AreCanonical (values_in vs) → AreCanonical (values_in (cond b (v ∷ vs) vs))
picked_row true v vs c h = (c, h)
picked_row false v vs c h = h

where_canonical : (rs : List Row) → SoundRows rs → AreCanonical (values_in (where_true rs))
where_canonical [] h = tt
where_canonical (r ∷ rs) h = picked_row (is_true r.1) (key r.0) (where_true rs) (key_canonical r.0 h.0.0) (where_canonical rs h.1)

results_canonical : (rs : List Row) → SoundRows rs → AreCanonical (values_in (results rs))
results_canonical [] h = tt
results_canonical (r ∷ rs) h = (h.0.1, results_canonical rs h.1)

table_canonical : (rs : List Row) → SoundRows rs → ArePairsCanonical (table rs)
table_canonical [] h = tt
table_canonical (r ∷ rs) h = ((key_canonical r.0 h.0.0, h.0.1), table_canonical rs h.1)

gathered_canonical : (b : Binder) (rs : List Row) → SoundRows rs → IsCanonical (gathered b rs)
gathered_canonical ForAll rs h = tt
gathered_canonical Exists rs h = tt
gathered_canonical Filter rs h = set_canonical (where_true rs) (where_canonical rs h)
gathered_canonical Image rs h = set_canonical (results rs) (results_canonical rs h)
gathered_canonical Function rs h = fun_from_canonical (table rs) (table_canonical rs h)

-- ---- forms

sound_form : (c : Check) → Keeping c → (m : Form) (at : Place) (ds : List Denotation) → SoundDens ds → SoundDen (meaning_of c m at ds)
sound_form c l (number n) at ds h e r = l at _ tt
sound_form c l (string w) at ds h e r = tt
sound_form c l (literal b) at ds h e r = tt
sound_form c l booleans at ds h e r = ((refl, (tt, tt)), (tt, (tt, tt)))
sound_form c l strings at ds h e r = tt
sound_form c l (name x) at ds h e r = r.now x at
sound_form c l (next x) at ds h e r = r.primed x at
sound_form c l (strict o) at ds h e r = then_has AreAll IsCanonical (part_values ds e) _ (sound_values ds e h r) (strict_proper c l o at)
sound_form c l (operator_call g) at ds h e r = then_has AreAll IsCanonical (part_values ds e) _ (sound_values ds e h r) (r.defs g at)
sound_form c l conjunction at ds h e r = any_has IsCanonical (two_of at ds) _ (λ (a, b). any_has IsCanonical (test at a e) _ (λ p. any_has IsCanonical (cond p (test at b e) (Ok false)) _ (λ q. tt)))
sound_form c l disjunction at ds h e r = any_has IsCanonical (two_of at ds) _ (λ (a, b). any_has IsCanonical (test at a e) _ (λ p. any_has IsCanonical (cond p (Ok true) (test at b e)) _ (λ q. tt)))
sound_form c l implication at ds h e r = any_has IsCanonical (two_of at ds) _ (λ (a, b). any_has IsCanonical (test at a e) _ (λ p. any_has IsCanonical (cond p (test at b e) (Ok true)) _ (λ q. tt)))
sound_form c l (member sense) at ds h e r = any_has IsCanonical (two_of at ds) _ (λ (a, b). any_has IsCanonical (a e).value _ (λ v. any_has IsCanonical ((b e).test at v) _ (λ t. tt)))
sound_form c l if_then_else at ds h e r =
    then_has SoundThree IsCanonical (three_of at ds) _ (sound_three at ds h) (λ (p, a, b) k. any_has IsCanonical (test at p e) _ (λ first. has_cond IsCanonical first (a e).value (b e).value (k.1 e r) (k.2 e r)))
sound_form c l (cases other) at ds h e r = sound_arms other at ds e h r
sound_form c l (binding b groups) at ds h e r =
    then_has SoundSources IsCanonical (sources at groups ds e) _ (sound_sources at groups ds e h r) (λ (vs, body) k.
    then_has (EachList IsSet) IsCanonical (in_order (members_at at) vs) _ (sets_proper at vs k.0) (λ ss j.
    then_has SoundRows IsCanonical (at_choices groups ss (at_body b at body) e) _ (sound_choices groups ss (at_body b at body) j (sound_body b at body k.1) e r) (λ rows i. l at (gathered b rows) (gathered_canonical b rows i))))
sound_form c l (local xs) at ds h e r = sound_local at xs ds e h r

mutual
  pub eval_canonical : (c : Check) → Keeping c → (t : Tree) → SoundDen (eval c t)
  eval_canonical c l (node m at ts) = sound_form c l m at (evals c ts) (evals_canonical c l ts)

  pub evals_canonical : (c : Check) → Keeping c → (ts : Trees) → SoundDens (evals c ts)
  evals_canonical c l no_trees = tt
  evals_canonical c l (tree t ts) = (eval_canonical c l t, evals_canonical c l ts)
