-- Items with trees put in for names have the truth that they have where the names stand for the trees, and troubles of the same kinds.
use Rattle.std.proofs.Common.{◌≡◌, List, ◌∙◌, ap, Bool, true, false, cond, bytes_eq, Some, None, refl, sym, subst, Ok}
use Rattle.tla_token.specs.declared.place.Place.{Place}
use Rattle.tla_tree.specs.Tree.{Word, Strict, operator, functions, records, name, next, operator_call, strings, strict, Tree, node, Every, Graft, graft, root_place}
use Rattle.tla_value.specs.Value.{Value, Values, no_values, and, Outcome, ◌>>=◌, and_then, or_all}
use Rattle.tla_value.specs.Order.{holds, IsCanonical, AreCanonical}
use Rattle.tla_value.specs.Strict.{strict_value, strict_test}
use Rattle.tla_value.proofs.Outcomes.{then_then}
use Rattle.tla_tree.specs.declared.op.Op.{Op}
use Rattle.tla_tree.specs.declared.op.Op.TheVariants.{Subset}
use Rattle.tla_value.specs.Stops.{Check, truth_at, members_at, tested, sense_of}
use Rattle.tla_value.specs.Meaning.{Env, just, bind, part_values, eval, evals}
use Rattle.tla_value.specs.Grafts.{read_tree}
use Rattle.tla_value.specs.laws.Grafting.{BindsClear}
use Rattle.tla_value.specs.Definitions.{Valuation}
use Rattle.tla_value.proofs.Graft.{GraftedOn, bound_grafted, grafted_law}
use Rattle.module_tree.specs.Module.{Item, test, setting, unchanged, exists, local, if_then_else, either, Items, no_items, item, Branches, no_branches, branch}
use Rattle.module_tree.specs.ActionTruth.{Verdict, value_in, truth_in, members_in, is_value, some_member, item_holds, items_hold, some_branch}
use Rattle.action_builder.specs.SingleProcess.{in_place_of, graft_item, graft_items, graft_branches}
use Rattle.tla_value.specs.laws.Places.{AgreeButPlaces}
use Rattle.tla_value.specs.laws.CanonicalNames.{Has, Proper, Keeping, Sound, MeansAlike}
use Rattle.tla_value.proofs.Canonical.{then_has, IsSet}
use Rattle.tla_value.proofs.CanonicalForms.{set_proper}
use Rattle.tla_value.proofs.CanonicalEval.{eval_canonical}
use Rattle.tla_value.proofs.CanonicalTests.{EnvsMeanAlike, bind_alike, then_equal, eval_steady}
use Rattle.action_builder.specs.laws.Grafts.{ClearItem, ClearItems, ClearBranches, StrictListed, IsListed}
use Rattle.module_tree.proofs.OutcomesAlike.{same_refl, then_same, and_same, or_same, cond_same, truth_same, members_same, each_same}
use Rattle.tla_value.specs.laws.FreeNames.{Any}

-- an expression with trees put in, and what goes on with its value
value_same : {X : Type 0} (c : Check) (g : Graft) (e : Tree) → Every (BindsClear c g) e → (n m : Env) → GraftedOn c g Any Any n m → (f h : Value → Outcome X) → ((v : Value) → AgreeButPlaces (f v) (h v)) → AgreeButPlaces ((eval c (graft g e) n).value >>= f) ((eval c e m).value >>= h)
value_same c g e k n m r f h q =
    subst (λ o. AgreeButPlaces (o.value >>= f) ((eval c e m).value >>= h)) (sym (grafted_law c g e k n m r)) (then_same (eval c e m).value (eval c e m).value f h (same_refl (eval c e m).value) q)

-- a test with trees put in
test_same : (c : Check) (g : Graft) (e : Tree) → Every (BindsClear c g) e → (n m : Env) → GraftedOn c g Any Any n m → AgreeButPlaces (truth_in c n (graft g e)) (truth_in c m e)
test_same c g e k n m r = value_same c g e k n m r (truth_at (root_place (graft g e))) (truth_at (root_place e)) (truth_same (root_place (graft g e)) (root_place e))

mutual
  item_same : (c : Check) (g : Graft) (s t : Valuation) (i : Item) → ClearItem c g i → (n m : Env) → GraftedOn c g Any Any n m → AgreeButPlaces (item_holds c s t n (graft_item g i)) (item_holds c s t m i)
  item_same c g s t (test e) k n m r = test_same c g e k n m r
  item_same c g s t (setting x e) k n m r = value_same c g e k n m r _ _ (λ v. refl)
  item_same c g s t (unchanged xs) k n m r = refl
  item_same c g s t (exists x e is) k n m r =
      then_same (members_in c n (graft g e)) (members_in c m e) _ _
      (value_same c g e k.0 n m r (members_at (root_place (graft g e))) (members_at (root_place e)) (members_same (root_place (graft g e)) (root_place e)))
      (λ vs. each_same vs _ _ (λ w. items_same c g s t is k.2 (bind x w n) (bind x w m) (bound_grafted c g Any Any x k.1 n m w r)))
  item_same c g s t (local x e is) k n m r =
      value_same c g e k.0 n m r _ _ (λ w. items_same c g s t is k.2 (bind x w n) (bind x w m) (bound_grafted c g Any Any x k.1 n m w r))
  item_same c g s t (if_then_else e a b) k n m r =
      then_same (truth_in c n (graft g e)) (truth_in c m e) _ _ (test_same c g e k.0 n m r)
      (λ p. cond_same p _ _ _ _ (items_same c g s t a k.1 n m r) (items_same c g s t b k.2 n m r))
  item_same c g s t (either bs) k n m r = branches_same c g s t bs k n m r

  pub items_same : (c : Check) (g : Graft) (s t : Valuation) (is : Items) → ClearItems c g is → (n m : Env) → GraftedOn c g Any Any n m → AgreeButPlaces (items_hold c s t n (graft_items g is)) (items_hold c s t m is)
  items_same c g s t no_items k n m r = refl
  items_same c g s t (item i is) k n m r = and_same _ _ _ _ (item_same c g s t i k.0 n m r) (items_same c g s t is k.1 n m r)

  branches_same : (c : Check) (g : Graft) (s t : Valuation) (bs : Branches) → ClearBranches c g bs → (n m : Env) → GraftedOn c g Any Any n m → AgreeButPlaces (some_branch c s t n (graft_branches g bs)) (some_branch c s t m bs)
  branches_same c g s t no_branches k n m r = refl
  branches_same c g s t (branch is bs) k n m r = or_same _ _ _ _ (items_same c g s t is k.0 n m r) (branches_same c g s t bs k.1 n m r)

put_for : (c : Check) (self : Word) (e : Tree) (v : Value) (env : Env) → eval c e env ≡ just v → GraftedOn c (in_place_of self e) Any Any env (bind self v env)
put_for c self e v env q = record { now = λ x u at. by x at (bytes_eq self x); primed = λ x at. refl; defs = λ x u. refl }
  where
    by : (x : Word) (at : Place) (b : Bool) → cond b (just v) (env.now x at) ≡ read_tree c (cond b (Some e) None) x at env
    by x at true = sym q
    by x at false = refl

pub single_law : (c : Check) (self : Word) (e : Tree) (v : Value) (is : Items) → ClearItems c (in_place_of self e) is → (s t : Valuation) (env : Env) → eval c e env ≡ just v → AgreeButPlaces (items_hold c s t env (graft_items (in_place_of self e) is)) (items_hold c s t (bind self v env) is)
single_law c self e v is k s t env q = items_same c (in_place_of self e) s t is k env (bind self v env) (put_for c self e v env q)

-- ---- an expression that means its value

operator_listed : (c : Check) (o : Op) → StrictListed (operator o) → (at p : Place) (w : Value) (vs : List Value) → strict_test c (operator o) at p w vs ≡ tested p w (strict_value c (operator o) at vs)
operator_listed c Subset h at p w vs = absurd h
operator_listed c o h at p w vs = refl

strict_listed : (c : Check) (o : Strict) → StrictListed o → (at p : Place) (w : Value) (vs : List Value) → strict_test c o at p w vs ≡ tested p w (strict_value c o at vs)
strict_listed c (operator o) h at p w vs = operator_listed c o h at p w vs
strict_listed c functions h at p w vs = absurd h
strict_listed c (records xs) h at p w vs = absurd h
strict_listed c o h at p w vs = refl

pub means_value : (c : Check) (e : Tree) → IsListed e → (env : Env) (v : Value) → (eval c e env).value ≡ Ok v → eval c e env ≡ just v
means_value c (node (name x) at ts) h env v q = absurd h
means_value c (node (next x) at ts) h env v q = absurd h
means_value c (node (operator_call f) at ts) h env v q = absurd h
means_value c (node strings at ts) h env v q = absurd h
means_value c (node (strict o) at ts) h env v q =
    (λ i. record {
      value = part_values (evals c ts) env >>= strict_value c o at;
      test = λ p w. part_values (evals c ts) env >>= (λ vs. strict_listed c o h at p w vs i);
    })
    ∙ (λ i. record {
      value = part_values (evals c ts) env >>= strict_value c o at;
      test = λ p w. sym (then_then (part_values (evals c ts) env) (strict_value c o at) (λ s. members_at p s >>= (λ ws. Ok (holds w ws)))) i;
    })
    ∙ ap sense_of q
means_value c (node m at ts) h env v q = ap sense_of q

-- ---- where names give canonical values, and the expression a value

-- self stands for what the expression means
abbrev pub put_env : Check → Word → Tree → Env → Env
put_env c self e env = record env { now = λ x at. cond (bytes_eq self x) (eval c e env) (env.now x at) }

pub put_there : (c : Check) (self : Word) (e : Tree) (env : Env) → GraftedOn c (in_place_of self e) Any Any env (put_env c self e env)
put_there c self e env = record { now = λ x u at. by x at (bytes_eq self x); primed = λ x at. refl; defs = λ x u. refl }
  where
    by : (x : Word) (at : Place) (b : Bool) → cond b (eval c e env) (env.now x at) ≡ read_tree c (cond b (Some e) None) x at env
    by x at true = refl
    by x at false = refl

pub put_means : (c : Check) → Keeping c → (self : Word) (e : Tree) (v : Value) (env : Env) → Sound env → MeansAlike (eval c e env) (just v) → EnvsMeanAlike (put_env c self e env) (bind self v env)
put_means c l self e v env r h = record {
  now = λ x at. by x at (bytes_eq self x);
  primed = λ x at. record { value = refl; test = λ p w k. refl };
  defs = λ x. refl;
  sound = record { now = λ x at. sound x at (bytes_eq self x); primed = r.primed; defs = r.defs };
}
  where
    by : (x : Word) (at : Place) (b : Bool) → MeansAlike (cond b (eval c e env) (env.now x at)) (cond b (just v) (env.now x at))
    by x at true = h
    by x at false = record { value = refl; test = λ p w k. refl }

    sound : (x : Word) (at : Place) (b : Bool) → Proper (cond b (eval c e env) (env.now x at)).value
    sound x at true = eval_canonical c l e env r
    sound x at false = r.now x at

each_alike : (vs : Values) (f g : Value → Verdict) → AreCanonical vs → ((v : Value) → IsCanonical v → f v ≡ g v) → some_member vs f ≡ some_member vs g
each_alike no_values f g k h = refl
each_alike (and v vs) f g k h = λ i. or_all (h v k.0 i) (each_alike vs f g k.1 h i)

module _ (c : Check) (l : Keeping c) (s t : Valuation) where
  members_proper : (e : Tree) (n : Env) → Sound n → Has IsSet (members_in c n e)
  members_proper e n r = then_has IsCanonical IsSet (eval c e n).value _ (eval_canonical c l e n r) (λ v k. set_proper (root_place e) v k)

  mutual
    item_alike : (i : Item) (n m : Env) → EnvsMeanAlike n m → item_holds c s t n i ≡ item_holds c s t m i
    item_alike (test e) n m r = λ i. ((eval_steady c l e n m r).value i) >>= (truth_at (root_place e))
    item_alike (setting x e) n m r = λ i. ((eval_steady c l e n m r).value i) >>= (λ v. Ok (is_value (t x) v))
    item_alike (unchanged xs) n m r = refl
    item_alike (exists x e is) n m r =
        then_equal IsSet (members_in c n e) _ (λ vs. some_member vs (λ v. items_hold c s t (bind x v m) is)) (members_proper e n r.sound)
        (λ vs k. each_alike vs _ _ k.1 (λ v q. items_alike is (bind x v n) (bind x v m) (bind_alike x v n m q r)))
        ∙ ap (λ o. (o >>= (members_at (root_place e))) >>= (λ vs. some_member vs (λ v. items_hold c s t (bind x v m) is))) (eval_steady c l e n m r).value
    item_alike (local x e is) n m r =
        then_equal IsCanonical (value_in c n e) _ (λ v. items_hold c s t (bind x v m) is) (eval_canonical c l e n r.sound) (λ v k. items_alike is (bind x v n) (bind x v m) (bind_alike x v n m k r))
        ∙ ap (λ o. o >>= (λ v. items_hold c s t (bind x v m) is)) (eval_steady c l e n m r).value
    item_alike (if_then_else e a b) n m r =
        λ i. (((eval_steady c l e n m r).value i) >>= (truth_at (root_place e))) >>= (λ first. cond first (items_alike a n m r i) (items_alike b n m r i))
    item_alike (either bs) n m r = branches_alike bs n m r

    items_alike : (is : Items) (n m : Env) → EnvsMeanAlike n m → items_hold c s t n is ≡ items_hold c s t m is
    items_alike no_items n m r = refl
    items_alike (item i is) n m r = λ j. and_then (item_alike i n m r j) (items_alike is n m r j)

    branches_alike : (bs : Branches) (n m : Env) → EnvsMeanAlike n m → some_branch c s t n bs ≡ some_branch c s t m bs
    branches_alike no_branches n m r = refl
    branches_alike (branch is bs) n m r = λ j. or_all (items_alike is n m r j) (branches_alike bs n m r j)

pub meant_law : (c : Check) → Keeping c → (self : Word) (e : Tree) (v : Value) (is : Items) → ClearItems c (in_place_of self e) is → (s t : Valuation) (env : Env) → Sound env → MeansAlike (eval c e env) (just v)
    → AgreeButPlaces (items_hold c s t env (graft_items (in_place_of self e) is)) (items_hold c s t (bind self v env) is)
meant_law c l self e v is k s t env r h =
    subst (AgreeButPlaces (items_hold c s t env (graft_items (in_place_of self e) is))) (items_alike c l s t is (put_env c self e env) (bind self v env) (put_means c l self e v env r h))
    (items_same c (in_place_of self e) s t is k env (put_env c self e env) (put_there c self e env))
