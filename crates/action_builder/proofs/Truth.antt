-- The written items have the truth of what their statements mean.
use Rattle.std.proofs.Common.{◌≡◌, List, [], ◌∷◌, Bool, true, false, cond, ◌||◌, bytes_eq, codes, Some, None, refl, sym, ◌∙◌, ap, subst, ⊎_elim, Ok, Err}
use Rattle.std.proofs.lemmas.Bool.{or_cases, or_left, or_right}
use Rattle.tla_token.specs.Signs.{is_among}
use Rattle.tla_token.specs.declared.place.Place.{Place}
use Rattle.tla_tree.specs.Tree.{Word, name, Tree, node, no_trees, root_place}
use Rattle.tla_value.specs.Value.{Value, no_values, and, Outcome, IsBad, ◌>>=◌, and_then}
use Rattle.tla_value.specs.laws.Places.{AgreeButPlaces}
use Rattle.tla_value.specs.Order.{same}
use Rattle.tla_value.specs.Stops.{plain, truth_at, members_at}
use Rattle.tla_value.specs.Standard.{printed, asserted, standard_value}
use Rattle.tla_value.specs.Meaning.{Env, just, called, part_values, eval}
use Rattle.tla_value.specs.Definitions.{Valuation}
use Rattle.module_tree.specs.Module as Line
use Rattle.module_tree.specs.Module.{Items, no_items, item}
use Rattle.module_tree.specs.ActionTruth.{Verdict, is_value, items_hold, some_branch}
use Rattle.module_tree.specs.ActionTruth as Module
use Rattle.pcal_tree.specs.Algorithm.{Assignments, Binds, no_binds, one_of, is, Statement, assign, await, print, assert, skip, branch, either, with, Statements, done, then, mark, Branches, no_branches, or}
use Rattle.pcal_tree.specs.Scope.{State, Scope, bound, place_of}
use Rattle.action_builder.specs.Assigned.{Names, more, heads, assigned, assigned_in, assigned_by}
use Rattle.action_builder.proofs.Names.{append_none, heads_same, one_names, all_names, some_names, one_in, all_in, some_in}
use Rattle.action_builder.specs.laws.States.{mid}
use Rattle.action_builder.proofs.Effects.{one_member, effect_names, effects_names, ways_names, Effects, parts_of, effect_of, effects_of, ways_of, nested}
use Rattle.action_builder.proofs.Actions.{minus, all_same, hold, hold_some, holds, hold_sets, build, build_one, build_some, ended, value_for}
use Rattle.action_builder.specs.laws.Ready.{SettledOne, Settled, SettledSome, Readable, IsWithin, Stands, FineTree, FineAssignments, FineBinds, KeptValue, Needs, FineOne, Fine, FineSome, values_of, holds_on}
use Rattle.action_builder.proofs.Matching.{Matches, match_and, match_or, match_value, match_test, match_some, match_once, match_one, match_true, match_told, match_print, match_assert, exp_law, bound_env, paired_bound, scoped_bound, side_fine, unchanged_same}
use Rattle.action_builder.proofs.Actions as Action
use Rattle.action_builder.specs.Written.{own, side_of, primed, left_of, unchanged_of, onto, filled, settings_of, old_stack, put_in, nested_items, branch_items, write_one, write, write_some}
use Rattle.action_builder.specs.SingleProcess.{in_place_of}
use Rattle.action_builder.specs.laws.Grafts.{ClearItems}
use Rattle.action_builder.proofs.SingleProcess.{single_law, means_value}
use Rattle.action_builder.proofs.Equal.{eq-name}
use Rattle.action_builder.proofs.Main.{and_then_assoc, Within}
use Rattle.action_builder.proofs.Main as Main
use Rattle.action_builder.proofs.Except.{value_law}

stands_bound : (U : Readable) (vs : List Word) (sc : Scope) (env : State → State → Env) (x : Word) (v : Value) → is_among vs x ≡ false → Stands U vs sc env → Stands U vs (bound x v sc) (bound_env x v env)
stands_bound U vs sc env x v out k = record { paired = paired_bound U vs sc env x v out k.paired; scoped = scoped_bound vs sc x v out k.scoped }

-- ---- lists of items

pub hold_onto : (s t : Valuation) (e : Env) (xs ys : Items) → items_hold plain s t e (onto xs ys) ≡ and_then (items_hold plain s t e xs) (items_hold plain s t e ys)
hold_onto s t e no_items ys = refl
hold_onto s t e (item x xs) ys = ap (and_then (Module.item_holds plain s t e x)) (hold_onto s t e xs ys) ∙ assoc (Module.item_holds plain s t e x) (items_hold plain s t e xs) (items_hold plain s t e ys)
  where
    assoc : (p q r : Verdict) → and_then p (and_then q r) ≡ and_then (and_then p q) r
    assoc (Ok true) q r = refl
    assoc (Ok false) q r = refl
    assoc (Err k) q r = refl

match_filled : (s t : Valuation) (e : Env) (at : Place) (xs : Items) (v : Outcome Bool) → Matches (items_hold plain s t e xs) v → Matches (items_hold plain s t e (filled at xs)) v
match_filled s t e at no_items v h = h
match_filled s t e at (item x xs) v h = h

pub match_unchanged : (vs all own : List Word) (s t : State) (e : Env) → Within all vs → Matches (items_hold plain (values_of vs s) (values_of vs t) e (unchanged_of (left_of vs all own))) (and_then (Ok (all_same (minus all own) s t)) (Ok true))
match_unchanged vs all own s t e w = by (left_of vs all own) (unchanged_same vs all own s t w)
  where
    by : (xs : List Word) → Module.are_unchanged (values_of vs s) (values_of vs t) xs ≡ all_same (minus all own) s t → Matches (items_hold plain (values_of vs s) (values_of vs t) e (unchanged_of xs)) (and_then (Ok (all_same (minus all own) s t)) (Ok true))
    by [] q = subst (λ b. Matches (Ok true) (and_then (Ok b) (Ok true))) q refl
    by (x ∷ xs) q = subst (λ b. Matches (and_then (Ok b) (Ok true)) (and_then (Ok (all_same (minus all own) s t)) (Ok true))) (sym q) (match_true (Ok (all_same (minus all own) s t)) (Ok (all_same (minus all own) s t)) refl)

-- a branch with its UNCHANGED
match_branch : (vs all own : List Word) (s t : State) (e : Env) (at : Place) (xs : Items) (is' : Action.Items) (sc : Scope) → Within all vs → Matches (items_hold plain (values_of vs s) (values_of vs t) e xs) (hold is' sc s t) → Matches (items_hold plain (values_of vs s) (values_of vs t) e (branch_items vs at xs all own)) (hold (ended is' (Action.unchanged (minus all own))) sc s t)
match_branch vs all own s t e at xs is' sc w h =
    match_filled (values_of vs s) (values_of vs t) e at (onto xs (unchanged_of (left_of vs all own))) _
    (subst (Matches (items_hold plain (values_of vs s) (values_of vs t) e (onto xs (unchanged_of (left_of vs all own))))) (sym (Main.hold_ended is' (Action.unchanged (minus all own)) sc s t))
    (subst (λ p. Matches p (and_then (hold is' sc s t) (and_then (Ok (all_same (minus all own) s t)) (Ok true)))) (sym (hold_onto (values_of vs s) (values_of vs t) e xs (unchanged_of (left_of vs all own))))
    (match_and (items_hold plain (values_of vs s) (values_of vs t) e xs) (items_hold plain (values_of vs s) (values_of vs t) e (unchanged_of (left_of vs all own))) (hold is' sc s t) (and_then (Ok (all_same (minus all own) s t)) (Ok true)) h (match_unchanged vs all own s t e w))))

-- the lists of names are given twice
match_lists_same : (vs all own all' own' : List Word) → all' ≡ all → own' ≡ own → (s t : State) (e : Env) (at : Place) (xs : Items) (is' : Action.Items) (sc : Scope) → Within all vs → Matches (items_hold plain (values_of vs s) (values_of vs t) e xs) (hold is' sc s t) → Matches (items_hold plain (values_of vs s) (values_of vs t) e (branch_items vs at xs all own)) (hold (ended is' (Action.unchanged (minus all' own'))) sc s t)
match_lists_same vs all own all' own' p q s t e at xs is' sc w h =
    subst (λ ys. Matches (items_hold plain (values_of vs s) (values_of vs t) e (branch_items vs at xs all own)) (hold (ended is' (Action.unchanged ys)) sc s t)) (λ i. minus (sym p i) (sym q i)) (match_branch vs all own s t e at xs is' sc w h)

-- ---- assignments

match_setting : (U : Readable) (vs : List Word) (A : Names) (ms : Assignments) → FineAssignments U vs A ms → (sc : Scope) (env : State → State → Env) → Stands U vs sc env → IsWithin A (is_among vs) → (s t : State) (y : Word) → is_among (heads ms) y ≡ true → is_among vs y ≡ true → Matches ((eval plain (primed A (side_of y (own y ms))) (env s t)).value >>= (λ v. Ok (is_value (values_of vs t y) v))) ((value_for y (parts_of plain ms) sc (mid s t A)) >>= (λ v. Ok (same (t y) v)))
match_setting U vs A ms f sc env k w s t y m in_vs =
    let e : Tree = side_of y (own y ms) in
    subst (λ o. Matches (o.value >>= (λ v. Ok (is_value (values_of vs t y) v))) ((value_for y (parts_of plain ms) sc (mid s t A)) >>= (λ v. Ok (same (t y) v)))) (sym (exp_law U vs A sc env k.paired w (side_of y (own y ms)) (side_fine U A (is_among vs) y ms (f.readable y m) f.left f.sides) s t))
    (subst (λ z. Matches ((eval plain (side_of y (own y ms)) (sc.env (mid s t A))).value >>= (λ v. Ok (is_value (values_of vs t y) v))) (z >>= (λ v. Ok (same (t y) v)))) (value_law (is_among vs) y ms f.left sc k.scoped.part (mid s t A) (λ at. k.scoped.reads y in_vs at (mid s t A)))
    (match_value (eval plain (side_of y (own y ms)) (sc.env (mid s t A))).value (λ v. Ok (is_value (values_of vs t y) v)) (λ v. Ok (same (t y) v)) (λ v. ap (λ b. is_value (cond b (Some (t y)) None) v) in_vs)))

match_sets : (U : Readable) (vs : List Word) (A : Names) (ms : Assignments) → FineAssignments U vs A ms → (sc : Scope) (env : State → State → Env) → Stands U vs sc env → IsWithin A (is_among vs) → (s t : State) (ys : List Word) → Within ys (heads ms) → Within ys vs → (rest : Items) (r : Outcome Bool) → Matches (holds_on vs env rest s t) r → Matches (holds_on vs env (settings_of A ms ys rest) s t) (and_then (hold_sets (Action.settings_of A (parts_of plain ms) ys) sc s t) r)
match_sets U vs A ms f sc env k w s t [] i j rest r h = h
match_sets U vs A ms f sc env k w s t (y ∷ ys) i j rest r h =
    subst (Matches (holds_on vs env (settings_of A ms (y ∷ ys) rest) s t)) (sym (and_then_assoc ((value_for y (parts_of plain ms) sc (mid s t A)) >>= (λ v. Ok (same (t y) v))) (hold_sets (Action.settings_of A (parts_of plain ms) ys) sc s t) r))
    (match_and _ (holds_on vs env (settings_of A ms ys rest) s t) _ (and_then (hold_sets (Action.settings_of A (parts_of plain ms) ys) sc s t) r)
    (match_setting U vs A ms f sc env k w s t y (i y here) (j y here))
    (match_sets U vs A ms f sc env k w s t ys (λ x m. i x (or_right (bytes_eq y x) (is_among ys x) m)) (λ x m. j x (or_right (bytes_eq y x) (is_among ys x) m)) rest r h))
  where
    here : (bytes_eq y y || is_among ys y) ≡ true
    here = or_left (bytes_eq y y) (is_among ys y) (eq-name y y refl)

-- ---- an old value

agree_matches : (p q : Verdict) (v : Outcome Bool) → AgreeButPlaces p q → Matches q v → Matches p v
agree_matches (Ok a) (Ok b) v h m = subst (λ z. Matches (Ok z) v) (sym h) m
agree_matches (Ok a) (Err k) v h m = absurd h
agree_matches (Err j) (Ok b) v h m = absurd h
agree_matches (Err j) (Err k) (Ok b) h m = m
agree_matches (Err j) (Err k) (Err l) h m = tt

bad_matches : (p : Verdict) (v : Outcome Bool) → IsBad p → IsBad v → Matches p v
bad_matches (Ok a) v h k = absurd h
bad_matches (Err j) (Ok b) h k = absurd k
bad_matches (Err j) (Err k) h l = tt

-- a variable has its value in the state, and a listed form the one that it makes
kept_value : (U : Readable) (vs : List Word) (sc : Scope) (env : State → State → Env) → Stands U vs sc env → (e : Tree) → KeptValue vs e → (s : State) (v : Value) → (eval plain e (sc.env s)).value ≡ Ok v → eval plain e (sc.env s) ≡ just v
kept_value U vs sc env k (node (name x) at ts) h s v q = k.scoped.reads x h at s ∙ ap just (got (s x) v (sym (ap (λ z. z.value) (k.scoped.reads x h at s)) ∙ q))
  where
    got : (x y : Value) → ◌≡◌ {A = Outcome Value} (Ok x) (Ok y) → x ≡ y
    got x y e = cc
kept_value U vs sc env k (node m at ts) h s v q = means_value plain (node m at ts) h (sc.env s) v q

-- ---- `with`

-- the body's list matches in all scopes
abbrev Bodies : Readable → List Word → Names → State → State → Items → Effects → Type 0
Bodies U vs A s t body es = (sc : Scope) (env : State → State → Env) → Stands U vs sc env → Matches (holds_on vs env body s t) (hold (build A es) sc s t)

match_nested : (U : Readable) (vs : List Word) (A : Names) → IsWithin A (is_among vs) → (s t : State) (bs : Binds) → FineBinds U vs A bs → (body : Items) (es : Effects) → Bodies U vs A s t body es → Bodies U vs A s t (nested_items A bs body) (nested plain bs es)
match_nested U vs A w s t no_binds f body es h sc env k = h sc env k
match_nested U vs A w s t (one_of x e bs) f body es h sc env k = match_true _ _ (
    subst (λ o. Matches ((o.value >>= members_at (root_place (primed A e))) >>= (λ us. Module.some_member us (λ u. holds_on vs (bound_env x.word u env) (nested_items A bs body) s t))) (holds (Action.some x.word (Action.primed A (Rattle.pcal_tree.specs.Scope.members plain e)) (build A (nested plain bs es))) sc s t)) (sym (exp_law U vs A sc env k.paired w e f.0 s t))
    (match_some (eval plain e (sc.env (mid s t A))).value (root_place (primed A e)) (place_of e sc) (λ u. holds_on vs (bound_env x.word u env) (nested_items A bs body) s t) (λ u. hold (build A (nested plain bs es)) (bound x.word u sc) s t)
    (λ u. match_nested U vs A w s t bs f.2 body es h (bound x.word u sc) (bound_env x.word u env) (stands_bound U vs sc env x.word u f.1 k))))
match_nested U vs A w s t (is x e bs) f body es h sc env k = match_true _ _ (
    subst (λ o. Matches (o.value >>= (λ u. holds_on vs (bound_env x.word u env) (nested_items A bs body) s t)) (holds (Action.some x.word (Action.primed A (Rattle.action_builder.proofs.Effects.one_member plain e)) (build A (nested plain bs es))) sc s t)) (sym (exp_law U vs A sc env k.paired w e f.0 s t))
    (match_one (eval plain e (sc.env (mid s t A))).value (λ u. holds_on vs (bound_env x.word u env) (nested_items A bs body) s t) (λ u. hold (build A (nested plain bs es)) (bound x.word u sc) s t)
    (λ u. match_nested U vs A w s t bs f.2 body es h (bound x.word u sc) (bound_env x.word u env) (stands_bound U vs sc env x.word u f.1 k))))

-- ---- statements

pub within_more : (A : Names) (xs vs : List Word) → IsWithin A (is_among vs) → Within xs vs → IsWithin (more A xs) (is_among vs)
within_more A xs vs w k x e = ⊎_elim (λ a. w x a) (λ b. k x b) (or_cases (A x) (is_among xs x) e)

match_cond : (b : Bool) (p q : Verdict) (v u : Outcome Bool) → Matches p v → Matches q u → Matches (cond b p q) (cond b v u)
match_cond true p q v u m n = m
match_cond false p q v u m n = n

-- the items with the expression in place of the name, where the body's items match in the scope that has the name
match_kept : (U : Readable) (vs : List Word) (A : Names) → IsWithin A (is_among vs) → (sc : Scope) (env : State → State → Env) → Stands U vs sc env → (s t : State) (x : Word) (e : Tree) → FineTree U A e → (b : Items) (es : Effects)
    → KeptValue vs e × ClearItems plain (in_place_of x (primed A e)) b × Needs (primed A e) (put_in A x e b) → ((v : Value) → Matches (holds_on vs (bound_env x v env) b s t) (hold (build A es) (bound x v sc) s t))
    → Matches (holds_on vs env (put_in A x e b) s t) (holds (Action.some x (Action.primed A (one_member plain e)) (build A es)) sc s t)
match_kept U vs A w sc env k s t x e f b es g h = by (eval plain e (sc.env (mid s t A))).value refl
  where
    same : eval plain (primed A e) (env s t) ≡ eval plain e (sc.env (mid s t A))
    same = exp_law U vs A sc env k.paired w e f s t

    by : (o : Outcome Value) → (eval plain e (sc.env (mid s t A))).value ≡ o → Matches (holds_on vs env (put_in A x e b) s t) ((o >>= (λ v. Ok (and v no_values))) >>= (λ us. Action.some_member us (λ u. hold (build A es) (bound x u sc) s t)))
    by (Ok v) p =
        agree_matches (holds_on vs env (put_in A x e b) s t) (holds_on vs (bound_env x v env) b s t) _
        (single_law plain x (primed A e) v b g.1 (values_of vs s) (values_of vs t) (env s t) (same ∙ kept_value U vs sc env k e g.0 (mid s t A) v p))
        (match_once (holds_on vs (bound_env x v env) b s t) (hold (build A es) (bound x v sc) s t) (h v))
    by (Err j) p = bad_matches (holds_on vs env (put_in A x e b) s t) _ (g.2 (values_of vs s) (values_of vs t) (env s t) (subst IsBad (sym (ap (λ z. z.value) same ∙ p)) tt)) tt

mutual
  match_item : (U : Readable) (vs : List Word) (A : Names) (at : Place) (st : Statement) → SettledOne (is_among vs) st → FineOne U vs A st → IsWithin A (is_among vs) → (sc : Scope) (env : State → State → Env) → Stands U vs sc env → (s t : State) (rest : Items) (r : Outcome Bool) → Matches (holds_on vs env rest s t) r → Matches (holds_on vs env (write_one vs A at st rest) s t) (and_then (holds (build_one A (effect_of plain at st)) sc s t) r)
  match_item U vs A at (assign ms) z f w sc env k s t rest r h =
      subst (λ xs. Matches (holds_on vs env (settings_of A ms (heads ms) rest) s t) (and_then (hold_sets (Action.settings_of A (parts_of plain ms) xs) sc s t) r)) (sym (heads_same plain ms))
      (match_sets U vs A ms f sc env k w s t (heads ms) (λ x m. m) (one_in (is_among vs) (assign ms) z) rest r h)
  match_item U vs A at (await e) z f w sc env k s t rest r h = match_and _ (holds_on vs env rest s t) _ r (
      subst (λ o. Matches (o.value >>= truth_at (root_place (primed A e))) (holds (build_one A (effect_of plain at (await e))) sc s t)) (sym (exp_law U vs A sc env k.paired w e f s t))
      (match_told (eval plain e (sc.env (mid s t A))).value (root_place (primed A e)) (place_of e sc))) h
  match_item U vs A at (print e) z f w sc env k s t rest r h = match_and _ (holds_on vs env rest s t) _ r (
      subst (λ d. Matches ((part_values (eval plain (primed A e) ∷ []) (env s t) >>= (λ us. (called at d us).value)) >>= truth_at at) (holds (build_one A (effect_of plain at (print e))) sc s t)) (sym (k.paired.print s t))
      (subst (λ o. Matches (((o.value >>= (λ v. Ok (v ∷ []))) >>= standard_value plain printed at) >>= truth_at at) (holds (build_one A (effect_of plain at (print e))) sc s t)) (sym (exp_law U vs A sc env k.paired w e f s t))
      (match_print (eval plain e (sc.env (mid s t A))).value at))) h
  match_item U vs A at (assert e) z f w sc env k s t rest r h = match_and _ (holds_on vs env rest s t) _ r (
      subst (λ d. Matches ((part_values (eval plain (primed A e) ∷ eval plain (Rattle.tla_tree.specs.Tree.node (Rattle.tla_tree.specs.Tree.string (codes "Failure of assertion.")) at no_trees) ∷ []) (env s t) >>= (λ us. (called at d us).value)) >>= truth_at at) (holds (build_one A (effect_of plain at (assert e))) sc s t)) (sym (k.paired.assert s t))
      (subst (λ o. Matches (((o.value >>= (λ v. Ok (v ∷ Rattle.tla_value.specs.Value.text (codes "Failure of assertion.") ∷ []))) >>= standard_value plain asserted at) >>= truth_at at) (holds (build_one A (effect_of plain at (assert e))) sc s t)) (sym (exp_law U vs A sc env k.paired w e f s t))
      (match_assert (eval plain e (sc.env (mid s t A))).value (Rattle.tla_value.specs.Value.text (codes "Failure of assertion.")) at (place_of e sc) at))) h
  match_item U vs A at skip z f w sc env k s t rest r h = h
  match_item U vs A at (branch e x y) z f w sc env k s t rest r h =
      let xs = assigned_in x in
      let ys = assigned_in y in
      match_and _ (holds_on vs env rest s t) _ r (
      subst (λ o. Matches ((o.value >>= truth_at (root_place (primed A e))) >>= (λ b. cond b (holds_on vs env (branch_items vs at (write vs A x) ys xs) s t) (holds_on vs env (branch_items vs at (write vs A y) xs ys) s t))) (holds (build_one A (effect_of plain at (branch e x y))) sc s t)) (sym (exp_law U vs A sc env k.paired w e f.0 s t))
      (match_test (eval plain e (sc.env (mid s t A))).value (root_place (primed A e)) (place_of e sc) _ (λ b. cond b (hold (ended (build A (effects_of plain x)) (Action.unchanged (minus (effects_names (effects_of plain y)) (effects_names (effects_of plain x))))) sc s t) (hold (ended (build A (effects_of plain y)) (Action.unchanged (minus (effects_names (effects_of plain x)) (effects_names (effects_of plain y))))) sc s t)) (λ b. match_cond b _ _ _ _
      (match_lists_same vs ys xs _ _ (all_names plain y) (all_names plain x) s t (env s t) at (write vs A x) (build A (effects_of plain x)) sc (all_in (is_among vs) y z.1) (match_all U vs A x z.0 f.1 w sc env k s t))
      (match_lists_same vs xs ys _ _ (all_names plain x) (all_names plain y) s t (env s t) at (write vs A y) (build A (effects_of plain y)) sc (all_in (is_among vs) x z.0) (match_all U vs A y z.1 f.2 w sc env k s t))))) h
  match_item U vs A at (either bs) z f w sc env k s t rest r h =
      match_and _ (holds_on vs env rest s t) _ r (match_lists U vs A at (assigned_by bs) (ways_names (ways_of plain bs)) (some_names plain bs) bs z f (some_in (is_among vs) bs z) w sc env k s t) h
  match_item U vs A at (with no_binds b) z f w sc env k s t rest r h =
      match_and _ (holds_on vs env rest s t) _ r (
      match_or _ (Ok false) _ (Ok false)
      (match_lists_same vs (assigned_in b) (assigned_in b) _ _ (append_none (effects_names (effects_of plain b)) ∙ all_names plain b) (all_names plain b) s t (env s t) at (write vs A b) (build A (effects_of plain b)) sc (all_in (is_among vs) b z) (match_all U vs A b z f.1 w sc env k s t)) refl) h
  match_item U vs A at (with (one_of x e bs) b) z f w sc env k s t rest r h = match_and _ (holds_on vs env rest s t) _ r (
      subst (λ o. Matches ((o.value >>= members_at (root_place (primed A e))) >>= (λ us. Module.some_member us (λ u. holds_on vs (bound_env x.word u env) (nested_items A bs (filled at (write vs A b))) s t))) (holds (build_one A (effect_of plain at (with (one_of x e bs) b))) sc s t)) (sym (exp_law U vs A sc env k.paired w e f.0.0 s t))
      (match_some (eval plain e (sc.env (mid s t A))).value (root_place (primed A e)) (place_of e sc) (λ u. holds_on vs (bound_env x.word u env) (nested_items A bs (filled at (write vs A b))) s t) (λ u. hold (build A (nested plain bs (effects_of plain b))) (bound x.word u sc) s t)
      (λ u. match_nested U vs A w s t bs f.0.2 (filled at (write vs A b)) (effects_of plain b) (λ sc' env' k'. match_filled _ _ _ at (write vs A b) _ (match_all U vs A b z f.1 w sc' env' k' s t)) (bound x.word u sc) (bound_env x.word u env) (stands_bound U vs sc env x.word u f.0.1 k)))) h
  match_item U vs A at (with (is x e no_binds) b) z f w sc env k s t rest r h =
      elim (bytes_eq old_stack x.word) as (λ c. (c ≡ true → KeptValue vs e × ClearItems plain (in_place_of x.word (primed A e)) (write vs A b) × Needs (primed A e) (put_in A x.word e (write vs A b)))
      → Matches (holds_on vs env (cond c (onto (put_in A x.word e (write vs A b)) rest) (item (Line.local x.word (primed A e) (filled at (write vs A b))) rest)) s t) (and_then (holds (build_one A (effect_of plain at (with (is x e no_binds) b))) sc s t) r)) [
        | true ↦ λ g.
            subst (λ p. Matches p (and_then (holds (build_one A (effect_of plain at (with (is x e no_binds) b))) sc s t) r)) (sym (hold_onto (values_of vs s) (values_of vs t) (env s t) (put_in A x.word e (write vs A b)) rest))
            (match_and (holds_on vs env (put_in A x.word e (write vs A b)) s t) (holds_on vs env rest s t) (holds (build_one A (effect_of plain at (with (is x e no_binds) b))) sc s t) r
            (match_kept U vs A w sc env k s t x.word e f.0.0 (write vs A b) (effects_of plain b) (g refl)
            (λ v. match_all U vs A b z f.1 w (bound x.word v sc) (bound_env x.word v env) (stands_bound U vs sc env x.word v f.0.1 k) s t)) h)
        | false ↦ λ g. match_and _ (holds_on vs env rest s t) _ r (
            subst (λ o. Matches (o.value >>= (λ u. holds_on vs (bound_env x.word u env) (nested_items A no_binds (filled at (write vs A b))) s t)) (holds (build_one A (effect_of plain at (with (is x e no_binds) b))) sc s t)) (sym (exp_law U vs A sc env k.paired w e f.0.0 s t))
            (match_one (eval plain e (sc.env (mid s t A))).value (λ u. holds_on vs (bound_env x.word u env) (nested_items A no_binds (filled at (write vs A b))) s t) (λ u. hold (build A (nested plain no_binds (effects_of plain b))) (bound x.word u sc) s t)
            (λ u. match_nested U vs A w s t no_binds f.0.2 (filled at (write vs A b)) (effects_of plain b) (λ sc' env' k'. match_filled _ _ _ at (write vs A b) _ (match_all U vs A b z f.1 w sc' env' k' s t)) (bound x.word u sc) (bound_env x.word u env) (stands_bound U vs sc env x.word u f.0.1 k)))) h
      ] f.2
  match_item U vs A at (with (is x e (one_of y l bs)) b) z f w sc env k s t rest r h = match_and _ (holds_on vs env rest s t) _ r (
      subst (λ o. Matches (o.value >>= (λ u. holds_on vs (bound_env x.word u env) (nested_items A (one_of y l bs) (filled at (write vs A b))) s t)) (holds (build_one A (effect_of plain at (with (is x e (one_of y l bs)) b))) sc s t)) (sym (exp_law U vs A sc env k.paired w e f.0.0 s t))
      (match_one (eval plain e (sc.env (mid s t A))).value (λ u. holds_on vs (bound_env x.word u env) (nested_items A (one_of y l bs) (filled at (write vs A b))) s t) (λ u. hold (build A (nested plain (one_of y l bs) (effects_of plain b))) (bound x.word u sc) s t)
      (λ u. match_nested U vs A w s t (one_of y l bs) f.0.2 (filled at (write vs A b)) (effects_of plain b) (λ sc' env' k'. match_filled _ _ _ at (write vs A b) _ (match_all U vs A b z f.1 w sc' env' k' s t)) (bound x.word u sc) (bound_env x.word u env) (stands_bound U vs sc env x.word u f.0.1 k)))) h
  match_item U vs A at (with (is x e (is y l bs)) b) z f w sc env k s t rest r h = match_and _ (holds_on vs env rest s t) _ r (
      subst (λ o. Matches (o.value >>= (λ u. holds_on vs (bound_env x.word u env) (nested_items A (is y l bs) (filled at (write vs A b))) s t)) (holds (build_one A (effect_of plain at (with (is x e (is y l bs)) b))) sc s t)) (sym (exp_law U vs A sc env k.paired w e f.0.0 s t))
      (match_one (eval plain e (sc.env (mid s t A))).value (λ u. holds_on vs (bound_env x.word u env) (nested_items A (is y l bs) (filled at (write vs A b))) s t) (λ u. hold (build A (nested plain (is y l bs) (effects_of plain b))) (bound x.word u sc) s t)
      (λ u. match_nested U vs A w s t (is y l bs) f.0.2 (filled at (write vs A b)) (effects_of plain b) (λ sc' env' k'. match_filled _ _ _ at (write vs A b) _ (match_all U vs A b z f.1 w sc' env' k' s t)) (bound x.word u sc) (bound_env x.word u env) (stands_bound U vs sc env x.word u f.0.1 k)))) h
  match_item U vs A at _ z f w sc env k s t rest r h = absurd f

  pub match_all : (U : Readable) (vs : List Word) (A : Names) (ss : Statements) → Settled (is_among vs) ss → Fine U vs A ss → IsWithin A (is_among vs) → (sc : Scope) (env : State → State → Env) → Stands U vs sc env → (s t : State) → Matches (holds_on vs env (write vs A ss) s t) (hold (build A (effects_of plain ss)) sc s t)
  match_all U vs A done z f w sc env k s t = refl
  match_all U vs A (then at st rest) z f w sc env k s t =
      match_item U vs A at.first st z.0 f.0 w sc env k s t (write vs (more A (assigned st)) rest) (hold (build (more A (effect_names (effect_of plain at.first st))) (effects_of plain rest)) sc s t)
      (subst (λ xs. Matches (holds_on vs env (write vs (more A (assigned st)) rest) s t) (hold (build (more A xs) (effects_of plain rest)) sc s t)) (sym (one_names plain at.first st))
      (match_all U vs (more A (assigned st)) rest z.1 f.1 (within_more A (assigned st) vs w (one_in (is_among vs) st z.0)) sc env k s t))
  match_all U vs A (mark l j rest) z f w sc env k s t = absurd f

  match_lists : (U : Readable) (vs : List Word) (A : Names) (at : Place) (all all' : List Word) → all' ≡ all → (bs : Branches) → SettledSome (is_among vs) bs → FineSome U vs A bs → Within all vs → IsWithin A (is_among vs) → (sc : Scope) (env : State → State → Env) → Stands U vs sc env → (s t : State) → Matches (some_branch plain (values_of vs s) (values_of vs t) (env s t) (write_some vs A at all bs)) (hold_some (build_some A all' (ways_of plain bs)) sc s t)
  match_lists U vs A at all all' e no_branches z f a w sc env k s t = refl
  match_lists U vs A at all all' e (or b bs) z f a w sc env k s t =
      match_or _ (some_branch plain (values_of vs s) (values_of vs t) (env s t) (write_some vs A at all bs)) _ (hold_some (build_some A all' (ways_of plain bs)) sc s t)
      (match_lists_same vs all (assigned_in b) all' _ e (all_names plain b) s t (env s t) at (write vs A b) (build A (effects_of plain b)) sc a (match_all U vs A b z.0 f.0 w sc env k s t)) (match_lists U vs A at all all' e bs z.1 f.1 a w sc env k s t)
