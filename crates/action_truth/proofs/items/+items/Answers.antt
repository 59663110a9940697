-- Proves what items say of a pair of states.
use Rattle.std.proofs.Common.{◌≡◌, ◌+◌, List, drop, reverse, Bool, cond, Vec, Global, Ok, refl, sym, ap, subst, ◌∙◌, arith, rules}
use Rattle.std.proofs.lemmas.List.{drop_all}
use Rattle.tla_tree.specs.Pool.{at}
use Rattle.tla_tree.proofs.PoolNumbers.{past_at}
use Rattle.tla_value.specs.Value.{Value, Values, values_in}
use Rattle.tla_value.specs.Limits.{bounded}
use Rattle.tla_value.specs.Meaning.{Env, bind}
use Rattle.module_tree.specs.Module as tree
use Rattle.module_tree.specs.ActionTruth.{some_member, members_in, value_in, truth_in}
use Rattle.module_write.specs.declared.«module».Item.{Item}
use Rattle.module_write.specs.InMemory.{item_at, items_at, branches_at, past_item, past_items, past_branches}
use Rattle.module_write.proofs.Heights.{height, heights, branch_heights, either_height}
use Rattle.module_write.proofs.ItemEquations.{exists_at, local_at, choice_at, either_at, past_either}
use Rattle.value_forms.specs.Gives.{Stops, Tells}
use Rattle.value_forms.proofs.StopLaws.{tells_err, tells_then, then_stops}
use Rattle.action_truth.specs.Pairs.{env_at, item_in, items_in, branches_in}
use Rattle.action_truth.proofs.ListLaws.{rest_is, last_is, any_start, any_next, any_stop, any_end, every_next, every_false, every_stop, every_end}
use Rattle.action_truth.proofs.ScopeLaws.{bound_more, stands_more, bound_again, same_env, stands_still, still_then}
use Rattle.action_truth.proofs.Disjunctions.{any_member, every_item, any_branch}
use Rattle.action_truth.proofs.ItemLaws.{members_whole, none_left, chosen}
use Rattle.action_truth.proofs.items.+items.Goals as goal
use Rattle.action_truth.proofs.items.+items.Goals.{choice_holds-then-first, choice_holds-else-first}

-- ---- a name that is bound

pub items_with-items_hold-requires : goal.items_with-items_hold-requires
items_with-items_hold-requires t c = (omega (arith, c.decreases), (c.requires.below, stands_more c.args.pair.now c.args.bound.now c.bind.new.self c.args.x.now c.args.v c.requires.stands c.in_ok-bind.ensures))

pub items_with-returns-in_err-holds-clause-holds : goal.items_with-returns-in_err-holds-clause-holds
items_with-returns-in_err-holds-clause-holds t c =
    let p = c.args.pair.now in
    let k = c.in_err-holds.field-0.0 in
    tells_err c.from_residual-in_err-holds.result k _ c.from_residual-in_err-holds.ensures
    (subst (λ (env : Env). Stops k (items_in p env (items_at p.asked.pool.now c.args.items.now))) (bound_more p c.args.bound.now c.bind.new.self c.args.x.now c.args.v c.requires.stands c.in_ok-bind.ensures) c.in_err-holds.ensures.holds)

pub items_with-returns-clause-holds : goal.items_with-returns-clause-holds
items_with-returns-clause-holds t c =
    let p = c.args.pair.now in
    ap (λ (env : Env). items_in p env (items_at p.asked.pool.now c.args.items.now)) (sym (bound_more p c.args.bound.now c.bind.new.self c.args.x.now c.args.v c.requires.stands c.in_ok-bind.ensures)) ∙ c.in_ok-holds.ensures.holds

pub items_with-returns-clause-bound : goal.items_with-returns-clause-bound
items_with-returns-clause-bound t c =
    bound_again c.args.pair.now c.args.bound.now c.bind.new.self c.items_hold.new.bound c.args.x.now c.args.v c.len-many.result c.keep.new.self (omega (arith, c.len-many.ensures, c.args.bound.now.names.ok)) c.requires.stands c.in_ok-bind.ensures c.in_ok-holds.ensures.bound c.keep.ensures.names c.keep.ensures.values

-- ---- `\E`

pub some_member-loop-v-init : goal.some_member-loop-v-init
some_member-loop-v-init t c = record { same = any_start _; still = record { names = refl; values = refl } }

pub some_member-items_with-requires : goal.some_member-items_with-requires
some_member-items_with-requires t c = (omega (arith, c.decreases), (c.requires.below, stands_still c.args.pair.now c.args.bound.now c.loop-v.bound c.requires.stands c.loop-v.invariant.still))

pub some_member-returns-in_err-left-clause-holds : goal.some_member-returns-in_err-left-clause-holds
some_member-returns-in_err-left-clause-holds t c =
    let p = c.args.pair.now in
    let ts = p.asked.pool.now in
    let env = env_at p c.args.bound.now in
    tells_err c.from_residual.result c.in_err-left.field-0.0 _ c.from_residual.ensures
    (then_stops c.in_err-left.field-0.0 (members_in bounded env (at ts c.args.set)) (λ (vs : Values). some_member vs (λ v. items_in p (bind c.args.x.now v env) (items_at ts c.args.items.now))) c.in_err-left.ensures)

pub some_member-returns-in_err-holds-clause-holds : goal.some_member-returns-in_err-holds-clause-holds
some_member-returns-in_err-holds-clause-holds t c =
    let p = c.args.pair.now in
    let ts = p.asked.pool.now in
    let env = env_at p c.args.bound.now in
    let one = λ (v : Value). items_in p (bind c.args.x.now v env) (items_at ts c.args.items.now) in
    let k = c.in_err-holds.field-0.0 in
    tells_err c.from_residual-in_err-holds.result k _ c.from_residual-in_err-holds.ensures
    (subst (Stops k) (members_whole (members_in bounded env (at ts c.args.set)) one c.in_ok-left.left.items c.reverse.new.self.items c.in_ok-left.ensures c.reverse.ensures.items)
    (any_stop (λ (vs : List Value). some_member (values_in vs) one) one (any_member one) _ (reverse c.loop-v.left.items) (reverse c.pop.new.self.items) c.in-Some.v c.loop-v.found k (last_is c.loop-v.left.items c.pop.new.self.items c.in-Some.v c.in-Some.ensures.items)
    (subst (λ (e : Env). Stops k (items_in p (bind c.args.x.now c.in-Some.v e) (items_at ts c.args.items.now))) (same_env p c.args.bound.now c.loop-v.bound c.loop-v.invariant.still) c.in_err-holds.ensures.holds) c.loop-v.invariant.same))

pub some_member-loop-v-preserved : goal.some_member-loop-v-preserved
some_member-loop-v-preserved t c =
    let p = c.args.pair.now in
    let ts = p.asked.pool.now in
    let env = env_at p c.args.bound.now in
    let one = λ (v : Value). items_in p (bind c.args.x.now v env) (items_at ts c.args.items.now) in record {
      same =
          any_next (λ (vs : List Value). some_member (values_in vs) one) one (any_member one) _ (reverse c.loop-v.left.items) (reverse c.pop.new.self.items) c.in-Some.v c.loop-v.found c.or_found-found.result c.in_ok-holds.holds
          (last_is c.loop-v.left.items c.pop.new.self.items c.in-Some.v c.in-Some.ensures.items)
          (ap (λ (e : Env). items_in p (bind c.args.x.now c.in-Some.v e) (items_at ts c.args.items.now)) (sym (same_env p c.args.bound.now c.loop-v.bound c.loop-v.invariant.still)) ∙ c.in_ok-holds.ensures.holds)
          c.or_found-found.ensures c.loop-v.invariant.same;
      still = still_then c.args.bound.now c.loop-v.bound c.items_with.new.bound c.loop-v.invariant.still c.in_ok-holds.ensures.bound;
    }

pub some_member-returns-clause-holds : goal.some_member-returns-clause-holds
some_member-returns-clause-holds t c =
    let p = c.args.pair.now in
    let ts = p.asked.pool.now in
    let env = env_at p c.args.bound.now in
    let one = λ (v : Value). items_in p (bind c.args.x.now v env) (items_at ts c.args.items.now) in
    sym (members_whole (members_in bounded env (at ts c.args.set)) one c.in_ok-left.left.items c.reverse.new.self.items c.in_ok-left.ensures c.reverse.ensures.items)
    ∙ any_end (λ (vs : List Value). some_member (values_in vs) one) one (any_member one) _ (reverse c.loop-v.left.items) c.loop-v.found (none_left c.loop-v.left.items (search rules)) c.loop-v.invariant.same

-- ---- `LET` and `IF`

pub local_holds-returns-in_err-v-clause-holds : goal.local_holds-returns-in_err-v-clause-holds
local_holds-returns-in_err-v-clause-holds t c =
    let p = c.args.pair.now in
    let ts = p.asked.pool.now in
    let env = env_at p c.args.bound.now in
    tells_err c.from_residual.result c.in_err-v.field-0.0 _ c.from_residual.ensures
    (then_stops c.in_err-v.field-0.0 (value_in bounded env (at ts c.args.e)) (λ (v : Value). items_in p (bind c.args.x.now v env) (items_at ts c.args.items.now)) c.in_err-v.ensures)

pub local_holds-returns-clause-holds : goal.local_holds-returns-clause-holds
local_holds-returns-clause-holds t c =
    let p = c.args.pair.now in
    let ts = p.asked.pool.now in
    let env = env_at p c.args.bound.now in
    tells_then c.items_with.result c.in_ok-v.v (value_in bounded env (at ts c.args.e)) (λ (v : Value). items_in p (bind c.args.x.now v env) (items_at ts c.args.items.now)) c.in_ok-v.ensures c.items_with.ensures.holds

pub choice_holds-returns-in_err-first-clause-holds : goal.choice_holds-returns-in_err-first-clause-holds
choice_holds-returns-in_err-first-clause-holds t c =
    let p = c.args.pair.now in
    let ts = p.asked.pool.now in
    let env = env_at p c.args.bound.now in
    tells_err c.from_residual.result c.in_err-first.field-0.0 _ c.from_residual.ensures
    (then_stops c.in_err-first.field-0.0 (truth_in bounded env (at ts c.args.p)) (λ (b : Bool). cond b (items_in p env (items_at ts c.args.yes.now)) (items_in p env (items_at ts c.args.no.now))) c.in_err-first.ensures)

pub choice_holds-returns-clause-holds : goal.choice_holds-returns-clause-holds
choice_holds-returns-clause-holds t c =
    let p = c.args.pair.now in
    let ts = p.asked.pool.now in
    let env = env_at p c.args.bound.now in
    let one = items_in p env (items_at ts c.args.yes.now) in
    let other = items_in p env (items_at ts c.args.no.now) in
    let whole = λ (is : items_in p env (items_at ts c.if-first.taken.now) ≡ cond c.in_ok-first.first one other).
    chosen c.items_hold.result c.in_ok-first.first (truth_in bounded env (at ts c.args.p)) one other c.in_ok-first.ensures (subst (Tells c.items_hold.result) is c.items_hold.ensures.holds) in
    elim c.if-first.branch [
      | choice_holds-then-first w ↦ whole (ap (λ b. items_in p env (items_at ts b.now)) w.taken-is ∙ sym (ap (λ (q : Bool). cond q one other) w.if-first.true))
      | choice_holds-else-first w ↦ whole (ap (λ b. items_in p env (items_at ts b.now)) w.taken-is ∙ sym (ap (λ (q : Bool). cond q one other) w.if-first.false))
    ]

-- ---- one item

pub item_holds-some_branch-requires : goal.item_holds-some_branch-requires
item_holds-some_branch-requires t c =
    let branches = c.deref-in-Either.ensures.value in (
      omega (arith, either_height c.in-Either.branches, ap branch_heights branches, ap height c.in-Either.is, c.decreases),
      (omega (arith, past_either c.in-Either.branches, ap past_branches branches, ap past_item c.in-Either.is, c.requires.below), c.requires.stands),
    )

pub item_holds-returns-in-Exists-clause-holds : goal.item_holds-returns-in-Exists-clause-holds
item_holds-returns-in-Exists-clause-holds t c =
    let p = c.args.pair.now in
    let ts = p.asked.pool.now in
    subst (λ (i : tree.Item). Tells c.some_member.result (item_in p (env_at p c.args.bound.now) i))
    (sym (ap (item_at ts) c.in-Exists.is ∙ exists_at ts c.in-Exists.x c.in-Exists.set c.in-Exists.items ∙ ap (λ (is : List Item). tree.exists c.in-Exists.x (at ts c.in-Exists.set) (items_at ts is)) (sym c.deref.ensures.value)))
    c.some_member.ensures.holds

pub item_holds-returns-in-Local-clause-holds : goal.item_holds-returns-in-Local-clause-holds
item_holds-returns-in-Local-clause-holds t c =
    let p = c.args.pair.now in
    let ts = p.asked.pool.now in
    subst (λ (i : tree.Item). Tells c.local_holds.result (item_in p (env_at p c.args.bound.now) i))
    (sym (ap (item_at ts) c.in-Local.is ∙ local_at ts c.in-Local.x c.in-Local.e c.in-Local.items ∙ ap (λ (is : List Item). tree.local c.in-Local.x (at ts c.in-Local.e) (items_at ts is)) (sym c.deref-in-Local.ensures.value)))
    c.local_holds.ensures.holds

pub item_holds-returns-in-Choice-clause-holds : goal.item_holds-returns-in-Choice-clause-holds
item_holds-returns-in-Choice-clause-holds t c =
    let p = c.args.pair.now in
    let ts = p.asked.pool.now in
    subst (λ (i : tree.Item). Tells c.choice_holds.result (item_in p (env_at p c.args.bound.now) i))
    (sym (ap (item_at ts) c.in-Choice.is ∙ choice_at ts c.in-Choice.p c.in-Choice.yes c.in-Choice.no
    ∙ (λ k. tree.if_then_else (at ts c.in-Choice.p) (items_at ts (sym c.deref-in-Choice.ensures.value k)) (items_at ts (sym c.deref-in-Choice-2.ensures.value k)))))
    c.choice_holds.ensures.holds

pub item_holds-returns-in-Either-clause-holds : goal.item_holds-returns-in-Either-clause-holds
item_holds-returns-in-Either-clause-holds t c =
    let p = c.args.pair.now in
    let ts = p.asked.pool.now in
    subst (λ (i : tree.Item). Tells c.some_branch.result (item_in p (env_at p c.args.bound.now) i))
    (sym (ap (item_at ts) c.in-Either.is ∙ either_at ts c.in-Either.branches ∙ ap (λ (bs : List (Vec Item Global)). tree.either (branches_at ts bs)) (sym c.deref-in-Either.ensures.value)))
    c.some_branch.ensures.holds

-- ---- a list

pub items_hold-item_holds-requires : goal.items_hold-item_holds-requires
items_hold-item_holds-requires t c =
    let is = c.args.items.now in
    let less = past_at height is c.loop-item.item-index c.item-item.result c.item-item.is c.loop-item-test.true in
    let past = past_at past_item is c.loop-item.item-index c.item-item.result c.item-item.is c.loop-item-test.true in
    (omega (arith, less, c.decreases), (omega (arith, past, c.requires.below), stands_still c.args.pair.now c.args.bound.now c.loop-item.bound c.requires.stands c.loop-item.invariant.still))

pub items_hold-returns-in_err-holds-clause-holds : goal.items_hold-returns-in_err-holds-clause-holds
items_hold-returns-in_err-holds-clause-holds t c =
    let p = c.args.pair.now in
    let ts = p.asked.pool.now in
    let env = env_at p c.args.bound.now in
    let is = c.args.items.now in
    let i = c.loop-item.item-index in
    let k = c.in_err-holds.field-0.0 in
    tells_err c.from_residual.result k _ c.from_residual.ensures
    (every_stop (λ (l : List Item). items_in p env (items_at ts l)) (λ (x : Item). item_in p env (item_at ts x)) (every_item p ts env) _ (drop i is) (drop (i + 1) is) c.item-item.result k (rest_is is i c.item-item.result c.item-item.is c.loop-item-test.true)
    (subst (λ (e : Env). Stops k (item_in p e (item_at ts c.item-item.result))) (same_env p c.args.bound.now c.loop-item.bound c.loop-item.invariant.still) c.in_err-holds.ensures.holds) c.loop-item.invariant.same)

pub items_hold-returns-then-not-holds-clause-holds : goal.items_hold-returns-then-not-holds-clause-holds
items_hold-returns-then-not-holds-clause-holds t c =
    let p = c.args.pair.now in
    let ts = p.asked.pool.now in
    let env = env_at p c.args.bound.now in
    let is = c.args.items.now in
    let i = c.loop-item.item-index in
    every_false (λ (l : List Item). items_in p env (items_at ts l)) (λ (x : Item). item_in p env (item_at ts x)) (every_item p ts env) _ (drop i is) (drop (i + 1) is) c.item-item.result (rest_is is i c.item-item.result c.item-item.is c.loop-item-test.true)
    (ap (λ (e : Env). item_in p e (item_at ts c.item-item.result)) (sym (same_env p c.args.bound.now c.loop-item.bound c.loop-item.invariant.still)) ∙ c.in_ok-holds.ensures.holds ∙ ap Ok c.if-not-holds.true) c.loop-item.invariant.same

pub items_hold-loop-item-preserved : goal.items_hold-loop-item-preserved
items_hold-loop-item-preserved t c =
    let p = c.args.pair.now in
    let ts = p.asked.pool.now in
    let env = env_at p c.args.bound.now in
    let is = c.args.items.now in
    let i = c.loop-item.item-index in record {
      same =
          every_next (λ (l : List Item). items_in p env (items_at ts l)) (λ (x : Item). item_in p env (item_at ts x)) (every_item p ts env) _ (drop i is) (drop (i + 1) is) c.item-item.result (rest_is is i c.item-item.result c.item-item.is c.loop-item-test.true)
          (ap (λ (e : Env). item_in p e (item_at ts c.item-item.result)) (sym (same_env p c.args.bound.now c.loop-item.bound c.loop-item.invariant.still)) ∙ c.in_ok-holds.ensures.holds ∙ ap Ok c.if-not-holds.false) c.loop-item.invariant.same;
      still = still_then c.args.bound.now c.loop-item.bound c.item_holds.new.bound c.loop-item.invariant.still c.in_ok-holds.ensures.bound;
    }

pub items_hold-returns-clause-holds : goal.items_hold-returns-clause-holds
items_hold-returns-clause-holds t c =
    let p = c.args.pair.now in
    let ts = p.asked.pool.now in
    let env = env_at p c.args.bound.now in
    every_end (λ (l : List Item). items_in p env (items_at ts l)) (λ (x : Item). item_in p env (item_at ts x)) (every_item p ts env) _ (drop c.loop-item.item-index c.args.items.now) (drop_all c.loop-item.item-index c.args.items.now (omega (arith, c.loop-item-test.false))) c.loop-item.invariant.same

-- ---- branches

pub some_branch-loop-branch-init : goal.some_branch-loop-branch-init
some_branch-loop-branch-init t c = record { same = any_start _; still = record { names = refl; values = refl } }

pub some_branch-items_hold-requires : goal.some_branch-items_hold-requires
some_branch-items_hold-requires t c =
    let bs = c.args.branches.now in
    let less = past_at (λ (b : Vec Item Global). heights b.items) bs c.loop-branch.branch-index c.branch-item.result c.branch-item.is c.loop-branch-test.true in
    let past = past_at (λ (b : Vec Item Global). past_items b.items) bs c.loop-branch.branch-index c.branch-item.result c.branch-item.is c.loop-branch-test.true in (
      omega (arith, less, ap heights c.deref.ensures.value, c.decreases),
      (omega (arith, past, ap past_items c.deref.ensures.value, c.requires.below), stands_still c.args.pair.now c.args.bound.now c.loop-branch.bound c.requires.stands c.loop-branch.invariant.still),
    )

pub some_branch-returns-in_err-holds-clause-holds : goal.some_branch-returns-in_err-holds-clause-holds
some_branch-returns-in_err-holds-clause-holds t c =
    let p = c.args.pair.now in
    let ts = p.asked.pool.now in
    let env = env_at p c.args.bound.now in
    let bs = c.args.branches.now in
    let i = c.loop-branch.branch-index in
    let k = c.in_err-holds.field-0.0 in
    tells_err c.from_residual.result k _ c.from_residual.ensures
    (any_stop (λ (l : List (Vec Item Global)). branches_in p env (branches_at ts l)) (λ (b : Vec Item Global). items_in p env (items_at ts b.items)) (any_branch p ts env) _ (drop i bs) (drop (i + 1) bs) c.branch-item.result c.loop-branch.found k
    (rest_is bs i c.branch-item.result c.branch-item.is c.loop-branch-test.true)
    (subst (Stops k) (λ j. items_in p (same_env p c.args.bound.now c.loop-branch.bound c.loop-branch.invariant.still j) (items_at ts (c.deref.ensures.value j))) c.in_err-holds.ensures.holds) c.loop-branch.invariant.same)

pub some_branch-loop-branch-preserved : goal.some_branch-loop-branch-preserved
some_branch-loop-branch-preserved t c =
    let p = c.args.pair.now in
    let ts = p.asked.pool.now in
    let env = env_at p c.args.bound.now in
    let bs = c.args.branches.now in
    let i = c.loop-branch.branch-index in record {
      same =
          any_next (λ (l : List (Vec Item Global)). branches_in p env (branches_at ts l)) (λ (b : Vec Item Global). items_in p env (items_at ts b.items)) (any_branch p ts env) _ (drop i bs) (drop (i + 1) bs) c.branch-item.result c.loop-branch.found c.or_found-found.result c.in_ok-holds.holds
          (rest_is bs i c.branch-item.result c.branch-item.is c.loop-branch-test.true)
          (sym (λ j. items_in p (same_env p c.args.bound.now c.loop-branch.bound c.loop-branch.invariant.still j) (items_at ts (c.deref.ensures.value j))) ∙ c.in_ok-holds.ensures.holds)
          c.or_found-found.ensures c.loop-branch.invariant.same;
      still = still_then c.args.bound.now c.loop-branch.bound c.items_hold.new.bound c.loop-branch.invariant.still c.in_ok-holds.ensures.bound;
    }

pub some_branch-returns-clause-holds : goal.some_branch-returns-clause-holds
some_branch-returns-clause-holds t c =
    let p = c.args.pair.now in
    let ts = p.asked.pool.now in
    let env = env_at p c.args.bound.now in
    any_end (λ (l : List (Vec Item Global)). branches_in p env (branches_at ts l)) (λ (b : Vec Item Global). items_in p env (items_at ts b.items)) (any_branch p ts env) _ (drop c.loop-branch.branch-index c.args.branches.now) c.loop-branch.found
    (drop_all c.loop-branch.branch-index c.args.branches.now (omega (arith, c.loop-branch-test.false))) c.loop-branch.invariant.same
