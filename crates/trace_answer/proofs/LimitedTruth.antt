-- What a formula of a module is under the limits of a run is what it is without them, or a limit was passed.
use Rattle.std.proofs.Common.{◌≡◌, List, [], ◌∷◌, ◌++◌, Bool, true, false, cond, bytes_eq, Option, Some, None, refl, ap, sym, ◌∙◌, subst, Ok, Err}
use Rattle.tla_tree.specs.Tree.{Word, Tree, root_place}
use Rattle.tla_value.specs.Value.{Value, Values, no_values, and, fault, over, ◌>>=◌, and_then, or_all}
use Rattle.tla_value.specs.Limits.{bounded}
use Rattle.tla_value.specs.Stops.{plain, truth_at, members_at}
use Rattle.tla_value.specs.Meaning.{Env, bind}
use Rattle.tla_value.specs.Definitions.{Valuation, no_state}
use Rattle.tla_value.specs.laws.UnderLimits.{Below, EnvsBelow}
use Rattle.tla_value.proofs.Below.{eval_below, bind_below, scope_below}
use Rattle.module_tree.specs.Module.{Item, test, setting, unchanged, exists, local, if_then_else, either, Items, no_items, item, Branches, no_branches, branch, Call, call, call_with, Way, one_way, some_way, Body, all_of, some_of, Action, Module}
use Rattle.module_tree.specs.ActionTruth.{Verdict, value_in, truth_in, members_in, some_member, item_holds, items_hold, some_branch, Acts, acted, call_holds, way_holds, some_way_holds, body_holds, with_argument, action_of, acts_of, no_acts}
use Rattle.module_tree.specs.ModuleTruth.{definitions_in, scope, terminating, acts_in, next_holds, all_hold, init_holds}
use Rattle.run_answer.proofs.Outcomes.{below_same, below_then}

-- ---- outcomes

and_below : (p q v w : Verdict) → Below p v → Below q w → Below (and_then p q) (and_then v w)
and_below (Ok true) q v w h k = subst (λ (o : Verdict). Below q (and_then o w)) h k
and_below (Ok false) q v w h k = ap (λ (o : Verdict). and_then o w) h
and_below (Err (fault j p)) q v w h k = ap (λ (o : Verdict). and_then o w) h
and_below (Err (over p)) q v w h k = tt

or_below : (p q v w : Verdict) → Below p v → Below q w → Below (or_all p q) (or_all v w)
or_below p q v w h k = below_then p v _ _ h (λ a. below_then q w _ _ k (λ b. refl))

cond_below : (b : Bool) (p q v w : Verdict) → Below p v → Below q w → Below (cond b p q) (cond b v w)
cond_below true p q v w h k = h
cond_below false p q v w h k = k

each_below : (vs : Values) (f g : Value → Verdict) → ((v : Value) → Below (f v) (g v)) → Below (some_member vs f) (some_member vs g)
each_below no_values f g h = refl
each_below (and v vs) f g h = or_below (f v) (some_member vs f) (g v) (some_member vs g) (h v) (each_below vs f g h)

-- ---- expressions

value_below : (t : Tree) (e f : Env) → EnvsBelow e f → Below (value_in bounded e t) (value_in plain f t)
value_below t e f r = (eval_below t e f r).value

truth_below : (t : Tree) (e f : Env) → EnvsBelow e f → Below (truth_in bounded e t) (truth_in plain f t)
truth_below t e f r = below_then (value_in bounded e t) (value_in plain f t) _ _ (value_below t e f r) (λ v. below_same (truth_at (root_place t) v))

members_below : (t : Tree) (e f : Env) → EnvsBelow e f → Below (members_in bounded e t) (members_in plain f t)
members_below t e f r = below_then (value_in bounded e t) (value_in plain f t) _ _ (value_below t e f r) (λ v. below_same (members_at (root_place t) v))

-- ---- items, from a state to the next one

module _ (s t : Valuation) where
  mutual
    item_below : (i : Item) (e f : Env) → EnvsBelow e f → Below (item_holds bounded s t e i) (item_holds plain s t f i)
    item_below (test d) e f r = truth_below d e f r
    item_below (setting x d) e f r = below_then (value_in bounded e d) (value_in plain f d) _ _ (value_below d e f r) (λ v. refl)
    item_below (unchanged xs) e f r = refl
    item_below (exists x d is) e f r =
        below_then (members_in bounded e d) (members_in plain f d) _ _ (members_below d e f r)
        (λ vs. each_below vs _ _ (λ v. items_below is (bind x v e) (bind x v f) (bind_below x v e f r)))
    item_below (local x d is) e f r =
        below_then (value_in bounded e d) (value_in plain f d) _ _ (value_below d e f r) (λ v. items_below is (bind x v e) (bind x v f) (bind_below x v e f r))
    item_below (if_then_else p a b) e f r =
        below_then (truth_in bounded e p) (truth_in plain f p) _ _ (truth_below p e f r) (λ d. cond_below d _ _ _ _ (items_below a e f r) (items_below b e f r))
    item_below (either bs) e f r = branches_below bs e f r

    items_below : (is : Items) (e f : Env) → EnvsBelow e f → Below (items_hold bounded s t e is) (items_hold plain s t f is)
    items_below no_items e f r = refl
    items_below (item i is) e f r = and_below _ _ _ _ (item_below i e f r) (items_below is e f r)

    branches_below : (bs : Branches) (e f : Env) → EnvsBelow e f → Below (some_branch bounded s t e bs) (some_branch plain s t f bs)
    branches_below no_branches e f r = refl
    branches_below (branch is bs) e f r = or_below _ _ _ _ (items_below is e f r) (branches_below bs e f r)

-- ---- actions by their names

abbrev ActBelow : Option (Option Value → Verdict) → Option (Option Value → Verdict) → Type 0
ActBelow None None = Unit {0}
ActBelow (Some f) (Some g) = (v : Option Value) → Below (f v) (g v)
ActBelow _ _ = ⊥

abbrev ActsBelow : Acts → Acts → Type 0
ActsBelow acts others = (x : Word) → ActBelow (acts x) (others x)

acted_below : (o q : Option (Option Value → Verdict)) → ActBelow o q → (v : Option Value) → Below (acted o v) (acted q v)
acted_below None None h v = refl
acted_below (Some f) (Some g) h v = h v
acted_below None (Some g) h v = absurd h
acted_below (Some f) None h v = absurd h

call_below : (e f : Env) → EnvsBelow e f → (acts others : Acts) → ActsBelow acts others → (u : Call) → Below (call_holds bounded e acts u) (call_holds plain f others u)
call_below e f r acts others h (call a) = acted_below (acts a) (others a) (h a) None
call_below e f r acts others h (call_with a t) =
    below_then (value_in bounded e t) (value_in plain f t) _ _ (value_below t e f r) (λ v. acted_below (acts a) (others a) (h a) (Some v))

way_below : (e f : Env) → EnvsBelow e f → (acts others : Acts) → ActsBelow acts others → (y : Way) → Below (way_holds bounded e acts y) (way_holds plain f others y)
way_below e f r acts others h (one_way u) = call_below e f r acts others h u
way_below e f r acts others h (some_way x d u) =
    below_then (members_in bounded e d) (members_in plain f d) _ _ (members_below d e f r)
    (λ vs. each_below vs _ _ (λ v. call_below (bind x v e) (bind x v f) (bind_below x v e f r) acts others h u))

ways_below : (e f : Env) → EnvsBelow e f → (acts others : Acts) → ActsBelow acts others → (ys : List Way) → Below (some_way_holds bounded e acts ys) (some_way_holds plain f others ys)
ways_below e f r acts others h [] = refl
ways_below e f r acts others h (y ∷ ys) = or_below _ _ _ _ (way_below e f r acts others h y) (ways_below e f r acts others h ys)

module _ (s t : Valuation) (e f : Env) (r : EnvsBelow e f) where
  body_below : (i j : Env) → EnvsBelow i j → (acts others : Acts) → ActsBelow acts others → (b : Body) → Below (body_holds bounded s t i acts b) (body_holds plain s t j others b)
  body_below i j k acts others h (all_of is) = items_below s t is i j k
  body_below i j k acts others h (some_of ys) = ways_below i j k acts others h ys

  action_below : (acts others : Acts) → ActsBelow acts others → (a : Action) (v : Option Value) → Below (action_of bounded s t e acts a v) (action_of plain s t f others a v)
  action_below acts others h a v = by a.parameter v
    where
      by : (x : Option Word) (v : Option Value) → Below (with_argument x v e >>= (λ i. body_holds bounded s t i acts a.body)) (with_argument x v f >>= (λ i. body_holds plain s t i others a.body))
      by None None = body_below e f r acts others h a.body
      by (Some x) (Some w) = body_below (bind x w e) (bind x w f) (bind_below x w e f r) acts others h a.body
      by None (Some w) = refl
      by (Some x) None = refl

  acts_below : (bs : List Action) (acts others : Acts) → ActsBelow acts others → ActsBelow (acts_of bounded s t e bs acts) (acts_of plain s t f bs others)
  acts_below [] acts others h = h
  acts_below (a ∷ more) acts others h = acts_below more _ _ (λ x. by x (bytes_eq a.title x))
    where
      by : (x : Word) (b : Bool) → ActBelow (cond b (Some (action_of bounded s t e acts a)) (acts x)) (cond b (Some (action_of plain s t f others a)) (others x))
      by x true = λ v. action_below acts others h a v
      by x false = h x

-- ---- a module

pub next_below : (m : Module) (values s t : Valuation) → Below (next_holds bounded m values s t) (next_holds plain m values s t)
next_below m values s t =
    let e = scope bounded m values s t in
    let f = scope plain m values s t in
    let r = scope_below values (definitions_in m) s t in
    ways_below e f r (acts_in bounded m values s t) (acts_in plain m values s t)
    (acts_below s t e f r (m.region.actions ++ terminating m.region.vars m.region.ended) no_acts no_acts (λ x. tt)) m.region.next

all_below : (e f : Env) → EnvsBelow e f → (ts : List Tree) → Below (all_hold bounded e ts) (all_hold plain f ts)
all_below e f r [] = refl
all_below e f r (t ∷ ts) = and_below _ _ _ _ (truth_below t e f r) (all_below e f r ts)

pub init_below : (m : Module) (values s : Valuation) → Below (init_holds bounded m values s) (init_holds plain m values s)
init_below m values s = all_below (scope bounded m values s no_state) (scope plain m values s no_state) (scope_below values (definitions_in m) s no_state) m.region.init

-- what is true under the limits is true

pub true_below : (o q : Verdict) → Below o q → o ≡ Ok true → q ≡ Ok true
true_below (Ok b) q h e = sym h ∙ e
true_below (Err k) q h e = (let f : ◌≡◌ {A = Verdict} (Err k) (Ok true) = e in absurd cc)
