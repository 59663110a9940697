-- Places in items don't matter to their truth but for where a fault is.
use Rattle.std.proofs.Common.{◌≡◌, refl, ap, subst}
use Rattle.tla_tree.specs.Tree.{Word, Tree, root_place}
use Rattle.tla_value.specs.Value.{Value, Outcome, ◌>>=◌}
use Rattle.tla_value.specs.Stops.{Check, truth_at, members_at}
use Rattle.tla_value.specs.Meaning.{Env, bind, eval}
use Rattle.tla_value.specs.Definitions.{Valuation}
use Rattle.tla_value.specs.laws.Places.{AgreeButPlaces, EnvsButPlaces, ChecksButPlaces, TreesButPlaces}
use Rattle.tla_value.proofs.Places.{eval_places, bind_places}
use Rattle.module_tree.specs.ActionTruth.{is_value, are_unchanged, truth_in, members_in, item_holds, items_hold, some_branch}
use Rattle.module_tree.specs.Module.{Item, test, setting, unchanged, exists, local, if_then_else, either, Items, no_items, item, Branches, no_branches, branch}
use Rattle.module_tree.specs.laws.ItemPlaces.{ItemButPlaces, ItemsButPlaces, BranchesButPlaces}
use Rattle.module_tree.proofs.OutcomesAlike.{then_same, and_same, or_same, cond_same, truth_same, members_same, each_same}

value_same : {X : Type 0} (c k : Check) → ChecksButPlaces c k → (t u : Tree) → TreesButPlaces t u → (e f : Env) → EnvsButPlaces e f → (g h : Value → Outcome X) → ((v : Value) → AgreeButPlaces (g v) (h v)) → AgreeButPlaces ((eval c t e).value >>= g) ((eval k u f).value >>= h)
value_same c k l t u p e f r g h q = then_same _ _ g h (eval_places c k l t u p e f r).value q

test_same : (c k : Check) → ChecksButPlaces c k → (t u : Tree) → TreesButPlaces t u → (e f : Env) → EnvsButPlaces e f → AgreeButPlaces (truth_in c e t) (truth_in k f u)
test_same c k l t u p e f r = value_same c k l t u p e f r (truth_at (root_place t)) (truth_at (root_place u)) (truth_same (root_place t) (root_place u))

bound_same : (x y : Word) → x ≡ y → (v : Value) (e f : Env) → EnvsButPlaces e f → EnvsButPlaces (bind x v e) (bind y v f)
bound_same x y q v e f r = subst (λ z. EnvsButPlaces (bind x v e) (bind z v f)) q (bind_places x v e f r)

mutual
  item_agrees : (c k : Check) → ChecksButPlaces c k → (s t : Valuation) (i j : Item) → ItemButPlaces i j → (e f : Env) → EnvsButPlaces e f → AgreeButPlaces (item_holds c s t e i) (item_holds k s t f j)
  item_agrees c k l s t (test a) (test b) p e f r = test_same c k l a b p e f r
  item_agrees c k l s t (setting x a) (setting y b) p e f r = value_same c k l a b p.1 e f r _ _ (λ v. ap (λ z. is_value (t z) v) p.0)
  item_agrees c k l s t (unchanged xs) (unchanged ys) p e f r = ap (are_unchanged s t) p
  item_agrees c k l s t (exists x a is) (exists y b js) p e f r =
      then_same (members_in c e a) (members_in k f b) _ _
      (value_same c k l a b p.1 e f r (members_at (root_place a)) (members_at (root_place b)) (members_same (root_place a) (root_place b)))
      (λ vs. each_same vs _ _ (λ w. items_agree c k l s t is js p.2 (bind x w e) (bind y w f) (bound_same x y p.0 w e f r)))
  item_agrees c k l s t (local x a is) (local y b js) p e f r =
      value_same c k l a b p.1 e f r _ _ (λ w. items_agree c k l s t is js p.2 (bind x w e) (bind y w f) (bound_same x y p.0 w e f r))
  item_agrees c k l s t (if_then_else a is js) (if_then_else b us vs) p e f r =
      then_same (truth_in c e a) (truth_in k f b) _ _ (test_same c k l a b p.0 e f r)
      (λ w. cond_same w _ _ _ _ (items_agree c k l s t is us p.1 e f r) (items_agree c k l s t js vs p.2 e f r))
  item_agrees c k l s t (either bs) (either ds) p e f r = branches_agree c k l s t bs ds p e f r
  item_agrees c k l s t _ _ p e f r = absurd p

  pub items_agree : (c k : Check) → ChecksButPlaces c k → (s t : Valuation) (is js : Items) → ItemsButPlaces is js → (e f : Env) → EnvsButPlaces e f → AgreeButPlaces (items_hold c s t e is) (items_hold k s t f js)
  items_agree c k l s t no_items no_items p e f r = refl
  items_agree c k l s t (item i is) (item j js) p e f r = and_same _ _ _ _ (item_agrees c k l s t i j p.0 e f r) (items_agree c k l s t is js p.1 e f r)
  items_agree c k l s t no_items (item j js) p e f r = absurd p
  items_agree c k l s t (item i is) no_items p e f r = absurd p

  branches_agree : (c k : Check) → ChecksButPlaces c k → (s t : Valuation) (bs ds : Branches) → BranchesButPlaces bs ds → (e f : Env) → EnvsButPlaces e f → AgreeButPlaces (some_branch c s t e bs) (some_branch k s t f ds)
  branches_agree c k l s t no_branches no_branches p e f r = refl
  branches_agree c k l s t (branch is bs) (branch js ds) p e f r = or_same _ _ _ _ (items_agree c k l s t is js p.0 e f r) (branches_agree c k l s t bs ds p.1 e f r)
  branches_agree c k l s t no_branches (branch js ds) p e f r = absurd p
  branches_agree c k l s t (branch is bs) no_branches p e f r = absurd p
