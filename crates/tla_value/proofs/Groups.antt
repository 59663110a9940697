-- A group's set, taken once for each name of the group, gives the same outcome.
use Rattle.std.proofs.Common.{◌≡◌, List, [], ◌∷◌, ◌++◌, map, refl, sym, ◌∙◌, ap, Ok, Err}
use Rattle.tla_token.specs.declared.place.Place.{Place}
use Rattle.tla_tree.specs.declared.op.Binder.{Binder}
use Rattle.tla_tree.specs.Tree.{Name, binding, Tree, node, Trees, no_trees, tree}
use Rattle.tla_value.specs.Value.{Value, Values, Outcome, ◌>>=◌, in_order}
use Rattle.tla_value.specs.Stops.{Check, members_at, sense_of}
use Rattle.tla_value.specs.Meaning.{Env, Denotation, Row, at_members, at_group, at_choices, at_body, gathered, sources, eval, evals}
use Rattle.tla_value.specs.laws.Groups.{each_alone, ungrouped, for_each_name, sets_for_names, HaveSets}
use Rattle.tla_value.proofs.Outcomes.{then_ok, then_then}

abbrev copies : {X : Type 0} → List Name → X → List X
copies xs v = map (λ (x : Name). v) xs

-- what is given once for each group, once for each name
abbrev spread : {X : Type 0} → List (List Name) → List X → List X
spread (xs ∷ groups) (v ∷ vs) = copies xs v ++ spread groups vs
spread _ vs = vs

-- ---- the sets are evaluated

abbrev after : List Name → Value → List Value × Denotation → Outcome (List Value × Denotation)
after xs v s = Ok (copies xs v ++ s.0, s.1)

set_copies : (c : Check) (at : Place) (xs : List Name) (groups : List (List Name)) (s : Tree) (ts : Trees) (env : Env) (v : Value) → (eval c s env).value ≡ Ok v →
    sources at (each_alone xs ++ groups) (evals c (for_each_name xs s ts)) env ≡ (sources at groups (evals c ts) env >>= after xs v)
set_copies c at [] groups s ts env v e = sym (then_ok (sources at groups (evals c ts) env))
set_copies c at (x ∷ xs) groups s ts env v e =
    (λ i. e i >>= λ w. set_copies c at xs groups s ts env v e i >>= λ (vs, body). Ok (w ∷ vs, body))
    ∙ then_then (sources at groups (evals c ts) env) (after xs v) (λ (vs, body). Ok (v ∷ vs, body))

abbrev spread_out : List (List Name) → List Value × Denotation → Outcome (List Value × Denotation)
spread_out groups s = Ok (spread groups s.0, s.1)

set_by : (c : Check) (at : Place) (x : Name) (xs : List Name) (groups : List (List Name)) (s : Tree) (ts us : Trees) (env : Env) (o : Outcome Value) → (eval c s env).value ≡ o →
    sources at (ungrouped groups) (evals c us) env ≡ (sources at groups (evals c ts) env >>= spread_out groups) →
    sources at (each_alone (x ∷ xs) ++ ungrouped groups) (evals c (for_each_name (x ∷ xs) s us)) env ≡ (sources at ((x ∷ xs) ∷ groups) (evals c (tree s ts)) env >>= spread_out ((x ∷ xs) ∷ groups))
set_by c at x xs groups s ts us env (Ok v) e h =
    set_copies c at (x ∷ xs) (ungrouped groups) s us env v e
    ∙ (λ i. h i >>= after (x ∷ xs) v)
    ∙ then_then (sources at groups (evals c ts) env) (spread_out groups) (after (x ∷ xs) v)
    ∙ sym (then_then (sources at groups (evals c ts) env) (λ (vs, body). Ok (v ∷ vs, body)) (spread_out ((x ∷ xs) ∷ groups)))
    ∙ (λ i. (sym e i >>= λ w. sources at groups (evals c ts) env >>= λ (vs, body). Ok (w ∷ vs, body)) >>= spread_out ((x ∷ xs) ∷ groups))
set_by c at x xs groups s ts us env (Err k) e h =
    (λ i. e i >>= λ w. sources at (each_alone xs ++ ungrouped groups) (evals c (for_each_name xs s us)) env >>= λ (vs, body). Ok (w ∷ vs, body))
    ∙ (λ i. (sym e i >>= λ w. sources at groups (evals c ts) env >>= λ (vs, body). Ok (w ∷ vs, body)) >>= spread_out ((x ∷ xs) ∷ groups))

all_sets : (c : Check) (at : Place) (groups : List (List Name)) (ts : Trees) → HaveSets groups ts → (env : Env) →
    sources at (ungrouped groups) (evals c (sets_for_names groups ts)) env ≡ (sources at groups (evals c ts) env >>= spread_out groups)
all_sets c at [] no_trees h env = absurd h
all_sets c at [] (tree body no_trees) h env = refl
all_sets c at [] (tree body (tree t ts)) h env = absurd h
all_sets c at ([] ∷ groups) no_trees h env = absurd h
all_sets c at ([] ∷ groups) (tree s ts) h env = absurd h
all_sets c at ((x ∷ xs) ∷ groups) no_trees h env = absurd h
all_sets c at ((x ∷ xs) ∷ groups) (tree s ts) h env = set_by c at x xs groups s ts (sets_for_names groups ts) env (eval c s env).value refl (all_sets c at groups ts h env)

-- ---- they are sets

abbrev Named : List (List Name) → Type 0
Named [] = Unit {0}
Named ([] ∷ groups) = ⊥
Named ((x ∷ xs) ∷ groups) = Named groups

named : (groups : List (List Name)) (ts : Trees) → HaveSets groups ts → Named groups
named [] ts h = tt
named ([] ∷ groups) no_trees h = h
named ([] ∷ groups) (tree s ts) h = h
named ((x ∷ xs) ∷ groups) no_trees h = absurd h
named ((x ∷ xs) ∷ groups) (tree s ts) h = named groups ts h

module _ {X Y : Type 0} (go : X → Outcome Y) where
  order_copies : (xs : List Name) (v : X) (w : Y) (vs : List X) → go v ≡ Ok w → in_order go (copies xs v ++ vs) ≡ (in_order go vs >>= λ ws. Ok (copies xs w ++ ws))
  order_copies [] v w vs e = sym (then_ok (in_order go vs))
  order_copies (x ∷ xs) v w vs e =
      (λ i. e i >>= λ u. order_copies xs v w vs e i >>= λ ws. Ok (u ∷ ws))
      ∙ then_then (in_order go vs) (λ ws. Ok (copies xs w ++ ws)) (λ ws. Ok (w ∷ ws))

  order_by : (x : Name) (xs : List Name) (groups : List (List Name)) (v : X) (vs : List X) (o : Outcome Y) → go v ≡ o → in_order go (spread groups vs) ≡ (in_order go vs >>= λ ws. Ok (spread groups ws)) →
      in_order go (copies (x ∷ xs) v ++ spread groups vs) ≡ (in_order go (v ∷ vs) >>= λ ws. Ok (spread ((x ∷ xs) ∷ groups) ws))
  order_by x xs groups v vs (Ok w) e h =
      order_copies (x ∷ xs) v w (spread groups vs) e
      ∙ (λ i. h i >>= λ ws. Ok (copies (x ∷ xs) w ++ ws))
      ∙ then_then (in_order go vs) (λ ws. Ok (spread groups ws)) (λ ws. Ok (copies (x ∷ xs) w ++ ws))
      ∙ sym (then_then (in_order go vs) (λ ws. Ok (w ∷ ws)) (λ ws. Ok (spread ((x ∷ xs) ∷ groups) ws)))
      ∙ (λ i. (sym e i >>= λ u. in_order go vs >>= λ ws. Ok (u ∷ ws)) >>= λ ws. Ok (spread ((x ∷ xs) ∷ groups) ws))
  order_by x xs groups v vs (Err k) e h =
      (λ i. e i >>= λ u. in_order go (copies xs v ++ spread groups vs) >>= λ ws. Ok (u ∷ ws))
      ∙ (λ i. (sym e i >>= λ u. in_order go vs >>= λ ws. Ok (u ∷ ws)) >>= λ ws. Ok (spread ((x ∷ xs) ∷ groups) ws))

  order_spread : (groups : List (List Name)) (vs : List X) → Named groups → in_order go (spread groups vs) ≡ (in_order go vs >>= λ ws. Ok (spread groups ws))
  order_spread [] vs h = sym (then_ok (in_order go vs))
  order_spread (xs ∷ groups) [] h = refl
  order_spread ([] ∷ groups) (v ∷ vs) h = absurd h
  order_spread ((x ∷ xs) ∷ groups) (v ∷ vs) h = order_by x xs groups v vs (go v) refl (order_spread groups vs h)

-- ---- the names stand for their members

group_apart : (xs : List Name) (s : Values) (groups : List (List Name)) (ss : List Values) (go : Env → Outcome (List Row)) → at_choices (each_alone xs ++ groups) (copies xs s ++ ss) go ≡ at_group xs s (at_choices groups ss go)
group_apart [] s groups ss go = refl
group_apart (x ∷ xs) s groups ss go = ap (at_members x.word s) (group_apart xs s groups ss go)

choices_apart : (groups : List (List Name)) (ss : List Values) (go : Env → Outcome (List Row)) → Named groups → at_choices (ungrouped groups) (spread groups ss) go ≡ at_choices groups ss go
choices_apart [] ss go h = refl
choices_apart ([] ∷ groups) ss go h = absurd h
choices_apart ((x ∷ xs) ∷ groups) [] go h = refl
choices_apart ((x ∷ xs) ∷ groups) (s ∷ ss) go h = group_apart (x ∷ xs) s (ungrouped groups) (spread groups ss) go ∙ ap (at_group (x ∷ xs) s) (choices_apart groups ss go h)

-- ----

members_apart : (c : Check) (b : Binder) (groups : List (List Name)) (at : Place) (env : Env) → Named groups → (s : List Value × Denotation) →
    (in_order (members_at at) (spread groups s.0) >>= λ ss. at_choices (ungrouped groups) ss (at_body b at s.1) env >>= λ rows. c at (gathered b rows))
    ≡ (in_order (members_at at) s.0 >>= λ ss. at_choices groups ss (at_body b at s.1) env >>= λ rows. c at (gathered b rows))
members_apart c b groups at env h (vs, body) =
    (λ i. order_spread (members_at at) groups vs h i >>= λ ss. at_choices (ungrouped groups) ss (at_body b at body) env >>= λ rows. c at (gathered b rows))
    ∙ then_then (in_order (members_at at) vs) (λ ss. Ok (spread groups ss)) (λ ss. at_choices (ungrouped groups) ss (at_body b at body) env >>= λ rows. c at (gathered b rows))
    ∙ (λ i. in_order (members_at at) vs >>= λ ss. choices_apart groups ss (at_body b at body) h i env >>= λ rows. c at (gathered b rows))

pub groups_apart : (c : Check) (b : Binder) (groups : List (List Name)) (at : Place) (ts : Trees) → HaveSets groups ts → (env : Env) →
    eval c (node (binding b groups) at ts) env ≡ eval c (node (binding b (ungrouped groups)) at (sets_for_names groups ts)) env
groups_apart c b groups at ts h env = ap sense_of (sym (
    (λ i. all_sets c at groups ts h env i >>= λ (vs, body). in_order (members_at at) vs >>= λ ss. at_choices (ungrouped groups) ss (at_body b at body) env >>= λ rows. c at (gathered b rows))
    ∙ then_then (sources at groups (evals c ts) env) (spread_out groups) (λ (vs, body). in_order (members_at at) vs >>= λ ss. at_choices (ungrouped groups) ss (at_body b at body) env >>= λ rows. c at (gathered b rows))
    ∙ (λ i. sources at groups (evals c ts) env >>= λ s. members_apart c b groups at env (named groups ts h) s i)))
