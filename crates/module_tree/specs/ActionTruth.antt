-- The truth of actions: what they say of a pair of states ("Specifying Systems", sections 2.3 and 16.2.3). A conjunction stops at the first conjunct
-- that isn't true. A disjunction and \E visit all, in order, and the first fault or value past the limits wins.
use Rattle.std.specs.Prelude.{List, [], ◌∷◌, Bool, true, false, ◌&&◌, cond, bytes_eq, Option, Some, None, Ok, Err}
use Rattle.tla_token.specs.Places.{start}
use Rattle.tla_tree.specs.Tree.{Word, Tree, root_place}
use Rattle.tla_value.specs.declared.fault.FaultKind.TheVariants.{NotFunction}
use Rattle.tla_value.specs.Value.{Value, Values, no_values, and, Outcome, fault, and_then, or_all, ◌>>=◌}
use Rattle.tla_value.specs.Order.{same}
use Rattle.tla_value.specs.Stops.{Check, truth_at, members_at}
use Rattle.tla_value.specs.Meaning.{Env, bind, eval}
use Rattle.tla_value.specs.Definitions.{Valuation}
use Rattle.module_tree.specs.Module.{Item, test, setting, unchanged, exists, local, if_then_else, either, Items, no_items, item, Branches, no_branches, branch, Call, call, call_with, Way, one_way, some_way, Body, all_of, some_of, Action}

-- what an action is of a pair of states
abbrev pub Verdict : Type 0
Verdict = Outcome Bool

-- ---- expressions of items: their faults have the place of the expression

abbrev pub value_in : Check → Env → Tree → Outcome Value
value_in c env e = (eval c e env).value

abbrev pub truth_in : Check → Env → Tree → Verdict
truth_in c env e = value_in c env e >>= truth_at (root_place e)

abbrev pub members_in : Check → Env → Tree → Outcome Values
members_in c env e = value_in c env e >>= members_at (root_place e)

-- of one of these values
abbrev pub some_member : Values → (Value → Verdict) → Verdict
some_member no_values holds = Ok false
some_member (and v vs) holds = or_all (holds v) (some_member vs holds)

abbrev pub is_value : Option Value → Value → Bool
is_value (Some w) v = same w v
is_value None v = false

-- nothing is unchanged that has no value
abbrev pub is_unchanged : Option Value → Option Value → Bool
is_unchanged (Some v) w = is_value w v
is_unchanged None w = false

abbrev pub are_unchanged : Valuation → Valuation → List Word → Bool
are_unchanged s t [] = true
are_unchanged s t (x ∷ xs) = is_unchanged (s x) (t x) && are_unchanged s t xs

-- ---- actions from s to t; env has the values of s, those of t under primed names, and bound names

abbrev mutual
  pub item_holds : Check → Valuation → Valuation → Env → Item → Verdict
  item_holds c s t env (test e) = truth_in c env e
  item_holds c s t env (setting x e) = do
    v ← value_in c env e
    Ok (is_value (t x) v)
  item_holds c s t env (unchanged xs) = Ok (are_unchanged s t xs)
  item_holds c s t env (exists x e is) = do
    vs ← members_in c env e
    some_member vs (λ v. items_hold c s t (bind x v env) is)
  item_holds c s t env (local x e is) = do
    v ← value_in c env e
    items_hold c s t (bind x v env) is
  item_holds c s t env (if_then_else p a b) = do
    first ← truth_in c env p
    cond first (items_hold c s t env a) (items_hold c s t env b)
  item_holds c s t env (either bs) = some_branch c s t env bs

  pub items_hold : Check → Valuation → Valuation → Env → Items → Verdict
  items_hold c s t env no_items = Ok true
  items_hold c s t env (item i is) = and_then (item_holds c s t env i) (items_hold c s t env is)

  pub some_branch : Check → Valuation → Valuation → Env → Branches → Verdict
  some_branch c s t env no_branches = Ok false
  some_branch c s t env (branch is bs) = or_all (items_hold c s t env is) (some_branch c s t env bs)

-- ---- actions by their names

-- what a name is as an action, for its argument
abbrev pub Acts : Type 0
Acts = Word → Option (Option Value → Verdict)

-- no module of a program calls what it doesn't define, or with another number of arguments
abbrev pub unknown : {X : Type 0} → Outcome X
unknown = Err (fault NotFunction start)

abbrev pub acted : Option (Option Value → Verdict) → Option Value → Verdict
acted None v = unknown
acted (Some f) v = f v

abbrev pub call_holds : Check → Env → Acts → Call → Verdict
call_holds c env acts (call a) = acted (acts a) None
call_holds c env acts (call_with a e) = do
  v ← value_in c env e
  acted (acts a) (Some v)

abbrev pub way_holds : Check → Env → Acts → Way → Verdict
way_holds c env acts (one_way u) = call_holds c env acts u
way_holds c env acts (some_way x e u) = do
  vs ← members_in c env e
  some_member vs (λ v. call_holds c (bind x v env) acts u)

abbrev pub some_way_holds : Check → Env → Acts → List Way → Verdict
some_way_holds c env acts [] = Ok false
some_way_holds c env acts (y ∷ ys) = or_all (way_holds c env acts y) (some_way_holds c env acts ys)

abbrev pub body_holds : Check → Valuation → Valuation → Env → Acts → Body → Verdict
body_holds c s t env acts (all_of is) = items_hold c s t env is
body_holds c s t env acts (some_of ys) = some_way_holds c env acts ys

abbrev pub with_argument : Option Word → Option Value → Env → Outcome Env
with_argument None None env = Ok env
with_argument (Some x) (Some v) env = Ok (bind x v env)
with_argument _ _ env = unknown

-- an action that calls these
abbrev pub action_of : Check → Valuation → Valuation → Env → Acts → Action → Option Value → Verdict
action_of c s t env acts a v = do
  inner ← with_argument a.parameter v env
  body_holds c s t inner acts a.body

-- each action calls only those before it
abbrev pub acts_of : Check → Valuation → Valuation → Env → List Action → Acts → Acts
acts_of c s t env [] acts = acts
acts_of c s t env (a ∷ more) acts = acts_of c s t env more (λ x. cond (bytes_eq a.title x) (Some (action_of c s t env acts a)) (acts x))

abbrev pub no_acts : Acts
no_acts x = None
