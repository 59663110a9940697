-- Proves what actions say of a pair of states, by their names.
use Rattle.std.proofs.Common.{◌≡◌, ◌+◌, ◌-◌, min, length, List, drop, reverse, get_or, suc, Option, Some, refl, sym, ap, subst, ◌∙◌, arith, rules}
use Rattle.std.proofs.lemmas.List.{drop_all}
use Rattle.tla_tree.specs.Pool.{at}
use Rattle.tla_value.specs.declared.stop.EvalStop.{EvalStop}
use Rattle.tla_value.specs.Value.{Value, Values, values_in}
use Rattle.tla_value.specs.Limits.{bounded}
use Rattle.tla_value.specs.Meaning.{Env, bind}
use Rattle.tla_value.specs.States.{value_of}
use Rattle.module_tree.specs.ActionTruth.{Verdict, acted, some_member, members_in, value_in, call_holds, way_holds, some_way_holds, with_argument, body_holds}
use Rattle.module_tree.specs.Module.{all_of}
use Rattle.module_write.specs.declared.«module».Action.{Action}
use Rattle.module_write.specs.declared.«module».Body.{Body}
use Rattle.module_write.specs.declared.«module».Call.{Call}
use Rattle.module_write.specs.declared.«module».Way.{Way}
use Rattle.module_write.specs.InMemory.{items_at, call_at, way_at, ways_at, body_at}
use Rattle.value_forms.specs.Gives.{Stops, Tells}
use Rattle.value_forms.proofs.StopLaws.{tells_err, tells_then, then_stops}
use Rattle.action_truth.specs.AskedOf.{last_titled}
use Rattle.action_truth.specs.Pairs.{scope_at, env_at, acts_at}
use Rattle.action_truth.proofs.ListLaws.{rest_is, last_is, any_start, any_next, any_stop, any_end}
use Rattle.action_truth.proofs.ScopeLaws.{bound_more, stands_more, bound_again, same_env, stands_still, still_then}
use Rattle.action_truth.proofs.ActLaws.{acts_none, acts_one, body_within}
use Rattle.action_truth.proofs.Disjunctions.{any_member, any_way, way_within}
use Rattle.action_truth.proofs.ItemLaws.{members_whole, none_left}
use Rattle.action_truth.proofs.actions.+actions.Goals as goal

-- ---- by its name

pub called-returns-in-Some : goal.called-returns-in-Some
called-returns-in-Some t c =
    let p = c.args.pair.now in
    subst (λ (o : Option (Option Value → Verdict)). Tells c.ending_holds.result (acted o c.args.v)) (sym c.in-Some.ensures.1) (c.ending_holds.ensures (acts_at p (length p.asked.region.now.actions.items)))

pub called-returns-then-n-eq0 : goal.called-returns-then-n-eq0
called-returns-then-n-eq0 t c =
    let p = c.args.pair.now in
    let x = c.args.title.now in
    let acts = p.asked.region.now.actions.items in
    let m = min c.args.before (length acts) in
    let n : c.min.result ≡ m = omega (arith, c.min.ensures, ap length c.as_slice-actions.ensures.value) in
    subst (λ (k : EvalStop). Stops k (acted (acts_at p c.args.before x) c.args.v)) (sym c.unknown.ensures)
    (ap (λ (o : Option (Option Value → Verdict)). acted o c.args.v) (c.in_default.ensures ∙ acts_none p m x (omega arith) (ap (last_titled acts x) (sym n) ∙ sym c.found-n.ensures.last ∙ c.if-n-eq0.true)))

pub called-action_holds-requires : goal.called-action_holds-requires
called-action_holds-requires t c =
    let p = c.args.pair.now in
    let acts = p.asked.region.now.actions.items in
    let is = c.index-actions-n.is ∙ ap (λ (l : List Action). get_or l (c.found-n.result - 1) c.index-actions-n.result) c.as_slice-actions.ensures.value in (
      omega (arith, c.decreases, c.found-n.ensures.within, c.min.ensures, c.if-n-eq0.false),
      (
        body_within (length p.asked.pool.now) acts (c.found-n.result - 1) c.index-actions-n.result is (omega (arith, c.found-n.ensures.within, c.min.ensures, c.if-n-eq0.false, ap length c.as_slice-actions.ensures.value)) c.requires.ready.region.actions,
        (c.requires.ready, omega (arith, c.requires.before, c.found-n.ensures.within, c.min.ensures)),
      ),
    )

pub called-returns : goal.called-returns
called-returns t c =
    let p = c.args.pair.now in
    let x = c.args.title.now in
    let acts = p.asked.region.now.actions.items in
    let m = min c.args.before (length acts) in
    let n : c.min.result ≡ m = omega (arith, c.min.ensures, ap length c.as_slice-actions.ensures.value) in
    let is = c.index-actions-n.is ∙ ap (λ (l : List Action). get_or l (c.found-n.result - 1) c.index-actions-n.result) c.as_slice-actions.ensures.value in
    let above : c.found-n.result ≡ suc (c.found-n.result - 1) = omega (arith, c.if-n-eq0.false) in
    let last : last_titled acts x m ≡ suc (c.found-n.result - 1) = ap (last_titled acts x) (sym n) ∙ sym c.found-n.ensures.last ∙ above in
    subst (λ (o : Option (Option Value → Verdict)). Tells c.action_holds.result (acted o c.args.v))
    (sym (c.in_default.ensures ∙ acts_one p m (c.found-n.result - 1) c.index-actions-n.result x (omega arith) last is))
    c.action_holds.ensures

-- ---- an action

pub action_holds-returns-in_err-bound : goal.action_holds-returns-in_err-bound
action_holds-returns-in_err-bound t c =
    let p = c.args.pair.now in
    tells_err c.from_residual.result c.in_err-bound.field-0.0 _ c.from_residual.ensures
    (then_stops c.in_err-bound.field-0.0 (with_argument c.args.action.now.parameter c.args.v (scope_at p))
    (λ (env : Env). body_holds bounded (value_of p.from.now) (value_of p.to.now) env (acts_at p c.args.before) (body_at p.asked.pool.now c.args.action.now.body)) (c.in_err-bound.ensures.bound (scope_at p)))

pub action_holds-returns-in-All : goal.action_holds-returns-in-All
action_holds-returns-in-All t c =
    let p = c.args.pair.now in
    let body = λ (env : Env) (b : Body). body_holds bounded (value_of p.from.now) (value_of p.to.now) env (acts_at p c.args.before) (body_at p.asked.pool.now b) in
    let inner = env_at p c.in_ok-bound.bound in
    tells_then c.items_hold.result inner (with_argument c.args.action.now.parameter c.args.v (scope_at p)) (λ (env : Env). body env c.args.action.now.body) (c.in_ok-bound.ensures.bound (scope_at p))
    (subst (λ (b : Body). Tells c.items_hold.result (body inner b)) (sym c.in-All.is)
    (subst (λ (is : List _). Tells c.items_hold.result (body_holds bounded (value_of p.from.now) (value_of p.to.now) inner (acts_at p c.args.before) (all_of (items_at p.asked.pool.now is)))) c.deref.ensures.value c.items_hold.ensures.holds))

pub action_holds-returns : goal.action_holds-returns
action_holds-returns t c =
    let p = c.args.pair.now in
    let body = λ (env : Env) (b : Body). body_holds bounded (value_of p.from.now) (value_of p.to.now) env (acts_at p c.args.before) (body_at p.asked.pool.now b) in
    let inner = env_at p c.in_ok-bound.bound in
    tells_then c.some_way.result inner (with_argument c.args.action.now.parameter c.args.v (scope_at p)) (λ (env : Env). body env c.args.action.now.body) (c.in_ok-bound.ensures.bound (scope_at p))
    (subst (λ (b : Body). Tells c.some_way.result (body inner b)) (sym c.in-Any.is)
    (subst (λ (ys : List Way). Tells c.some_way.result (some_way_holds bounded inner (acts_at p c.args.before) (ways_at p.asked.pool.now ys))) c.deref-in-Any.ensures.value c.some_way.ensures))

-- ---- disjunctions of calls

pub some_way-loop-way-init : goal.some_way-loop-way-init
some_way-loop-way-init t c = record { same = any_start _; still = record { names = refl; values = refl } }

pub some_way-way_holds-requires : goal.some_way-way_holds-requires
some_way-way_holds-requires t c = (
  omega (arith, c.decreases),
  (
    way_within (length c.args.pair.now.asked.pool.now) c.args.ways.now c.loop-way.way-index c.way-item.result c.way-item.is c.loop-way-test.true c.requires.within,
    (stands_still c.args.pair.now c.args.bound.now c.loop-way.bound c.requires.stands c.loop-way.invariant.still, c.requires.before),
  ),
)

pub some_way-returns-in_err-holds : goal.some_way-returns-in_err-holds
some_way-returns-in_err-holds t c =
    let p = c.args.pair.now in
    let ts = p.asked.pool.now in
    let env = env_at p c.args.bound.now in
    let acts = acts_at p c.args.before in
    let ys = c.args.ways.now in
    let i = c.loop-way.way-index in
    let k = c.in_err-holds.field-0.0 in
    tells_err c.from_residual.result k _ c.from_residual.ensures
    (any_stop (λ (l : List Way). some_way_holds bounded env acts (ways_at ts l)) (λ (y : Way). way_holds bounded env acts (way_at ts y)) (any_way ts env acts) _ (drop i ys) (drop (i + 1) ys) c.way-item.result c.loop-way.found k
    (rest_is ys i c.way-item.result c.way-item.is c.loop-way-test.true)
    (subst (λ (e : Env). Stops k (way_holds bounded e acts (way_at ts c.way-item.result))) (same_env p c.args.bound.now c.loop-way.bound c.loop-way.invariant.still) c.in_err-holds.ensures.holds) c.loop-way.invariant.same)

pub some_way-loop-way-preserved : goal.some_way-loop-way-preserved
some_way-loop-way-preserved t c =
    let p = c.args.pair.now in
    let ts = p.asked.pool.now in
    let env = env_at p c.args.bound.now in
    let acts = acts_at p c.args.before in
    let ys = c.args.ways.now in
    let i = c.loop-way.way-index in record {
      same =
          any_next (λ (l : List Way). some_way_holds bounded env acts (ways_at ts l)) (λ (y : Way). way_holds bounded env acts (way_at ts y)) (any_way ts env acts) _ (drop i ys) (drop (i + 1) ys) c.way-item.result c.loop-way.found c.or_found-found.result c.in_ok-holds.holds
          (rest_is ys i c.way-item.result c.way-item.is c.loop-way-test.true)
          (ap (λ (e : Env). way_holds bounded e acts (way_at ts c.way-item.result)) (sym (same_env p c.args.bound.now c.loop-way.bound c.loop-way.invariant.still)) ∙ c.in_ok-holds.ensures.holds)
          c.or_found-found.ensures c.loop-way.invariant.same;
      still = still_then c.args.bound.now c.loop-way.bound c.way_holds.new.bound c.loop-way.invariant.still c.in_ok-holds.ensures.bound;
    }

pub some_way-returns : goal.some_way-returns
some_way-returns t c =
    let p = c.args.pair.now in
    let ts = p.asked.pool.now in
    let env = env_at p c.args.bound.now in
    let acts = acts_at p c.args.before in
    any_end (λ (l : List Way). some_way_holds bounded env acts (ways_at ts l)) (λ (y : Way). way_holds bounded env acts (way_at ts y)) (any_way ts env acts) _ (drop c.loop-way.way-index c.args.ways.now) c.loop-way.found
    (drop_all c.loop-way.way-index c.args.ways.now (omega (arith, c.loop-way-test.false))) c.loop-way.invariant.same

-- ---- one of them

pub way_holds-returns-in-One-clause-holds : goal.way_holds-returns-in-One-clause-holds
way_holds-returns-in-One-clause-holds t c =
    let p = c.args.pair.now in
    subst (λ (y : Way). Tells c.call_holds.result (way_holds bounded (env_at p c.args.bound.now) (acts_at p c.args.before) (way_at p.asked.pool.now y))) (sym c.in-One.is) c.call_holds.ensures

pub way_holds-returns-in-Among-clause-holds : goal.way_holds-returns-in-Among-clause-holds
way_holds-returns-in-Among-clause-holds t c =
    let p = c.args.pair.now in
    subst (λ (y : Way). Tells c.some_call.result (way_holds bounded (env_at p c.args.bound.now) (acts_at p c.args.before) (way_at p.asked.pool.now y))) (sym c.in-Among.is) c.some_call.ensures.holds

pub some_call-loop-v-init : goal.some_call-loop-v-init
some_call-loop-v-init t c = record { same = any_start _; still = record { names = refl; values = refl } }

pub some_call-call_with-requires : goal.some_call-call_with-requires
some_call-call_with-requires t c =
    (omega (arith, c.decreases), (c.requires.within, (stands_still c.args.pair.now c.args.bound.now c.loop-v.bound c.requires.stands c.loop-v.invariant.still, c.requires.before)))

pub some_call-returns-in_err-left-clause-holds : goal.some_call-returns-in_err-left-clause-holds
some_call-returns-in_err-left-clause-holds t c =
    let p = c.args.pair.now in
    let ts = p.asked.pool.now in
    let env = env_at p c.args.bound.now in
    tells_err c.from_residual.result c.in_err-left.field-0.0 _ c.from_residual.ensures
    (then_stops c.in_err-left.field-0.0 (members_in bounded env (at ts c.args.set)) (λ (vs : Values). some_member vs (λ v. call_holds bounded (bind c.args.x.now v env) (acts_at p c.args.before) (call_at ts c.args.call.now))) c.in_err-left.ensures)

pub some_call-returns-in_err-holds-clause-holds : goal.some_call-returns-in_err-holds-clause-holds
some_call-returns-in_err-holds-clause-holds t c =
    let p = c.args.pair.now in
    let ts = p.asked.pool.now in
    let env = env_at p c.args.bound.now in
    let acts = acts_at p c.args.before in
    let one = λ (v : Value). call_holds bounded (bind c.args.x.now v env) acts (call_at ts c.args.call.now) in
    let k = c.in_err-holds.field-0.0 in
    tells_err c.from_residual-in_err-holds.result k _ c.from_residual-in_err-holds.ensures
    (subst (Stops k) (members_whole (members_in bounded env (at ts c.args.set)) one c.in_ok-left.left.items c.reverse.new.self.items c.in_ok-left.ensures c.reverse.ensures.items)
    (any_stop (λ (vs : List Value). some_member (values_in vs) one) one (any_member one) _ (reverse c.loop-v.left.items) (reverse c.pop.new.self.items) c.in-Some.v c.loop-v.found k (last_is c.loop-v.left.items c.pop.new.self.items c.in-Some.v c.in-Some.ensures.items)
    (subst (λ (e : Env). Stops k (call_holds bounded (bind c.args.x.now c.in-Some.v e) acts (call_at ts c.args.call.now))) (same_env p c.args.bound.now c.loop-v.bound c.loop-v.invariant.still) c.in_err-holds.ensures.holds) c.loop-v.invariant.same))

pub some_call-loop-v-preserved : goal.some_call-loop-v-preserved
some_call-loop-v-preserved t c =
    let p = c.args.pair.now in
    let ts = p.asked.pool.now in
    let env = env_at p c.args.bound.now in
    let acts = acts_at p c.args.before in
    let one = λ (v : Value). call_holds bounded (bind c.args.x.now v env) acts (call_at ts c.args.call.now) in record {
      same =
          any_next (λ (vs : List Value). some_member (values_in vs) one) one (any_member one) _ (reverse c.loop-v.left.items) (reverse c.pop.new.self.items) c.in-Some.v c.loop-v.found c.or_found-found.result c.in_ok-holds.holds
          (last_is c.loop-v.left.items c.pop.new.self.items c.in-Some.v c.in-Some.ensures.items)
          (ap (λ (e : Env). call_holds bounded (bind c.args.x.now c.in-Some.v e) acts (call_at ts c.args.call.now)) (sym (same_env p c.args.bound.now c.loop-v.bound c.loop-v.invariant.still)) ∙ c.in_ok-holds.ensures.holds)
          c.or_found-found.ensures c.loop-v.invariant.same;
      still = still_then c.args.bound.now c.loop-v.bound c.call_with.new.bound c.loop-v.invariant.still c.in_ok-holds.ensures.bound;
    }

pub some_call-returns-clause-holds : goal.some_call-returns-clause-holds
some_call-returns-clause-holds t c =
    let p = c.args.pair.now in
    let ts = p.asked.pool.now in
    let env = env_at p c.args.bound.now in
    let one = λ (v : Value). call_holds bounded (bind c.args.x.now v env) (acts_at p c.args.before) (call_at ts c.args.call.now) in
    sym (members_whole (members_in bounded env (at ts c.args.set)) one c.in_ok-left.left.items c.reverse.new.self.items c.in_ok-left.ensures c.reverse.ensures.items)
    ∙ any_end (λ (vs : List Value). some_member (values_in vs) one) one (any_member one) _ (reverse c.loop-v.left.items) c.loop-v.found (none_left c.loop-v.left.items (search rules)) c.loop-v.invariant.same

-- ---- a call

pub call_with-call_holds-requires : goal.call_with-call_holds-requires
call_with-call_holds-requires t c =
    (omega (arith, c.decreases), (c.requires.within, (stands_more c.args.pair.now c.args.bound.now c.bind.new.self c.args.x.now c.args.v c.requires.stands c.in_ok-bind.ensures, c.requires.before)))

pub call_with-returns-in_err-holds-clause-holds : goal.call_with-returns-in_err-holds-clause-holds
call_with-returns-in_err-holds-clause-holds t c =
    let p = c.args.pair.now in
    let k = c.in_err-holds.field-0.0 in
    tells_err c.from_residual-in_err-holds.result k _ c.from_residual-in_err-holds.ensures
    (subst (λ (env : Env). Stops k (call_holds bounded env (acts_at p c.args.before) (call_at p.asked.pool.now c.args.call.now))) (bound_more p c.args.bound.now c.bind.new.self c.args.x.now c.args.v c.requires.stands c.in_ok-bind.ensures) c.in_err-holds.ensures)

pub call_with-returns-clause-holds : goal.call_with-returns-clause-holds
call_with-returns-clause-holds t c =
    let p = c.args.pair.now in
    ap (λ (env : Env). call_holds bounded env (acts_at p c.args.before) (call_at p.asked.pool.now c.args.call.now)) (sym (bound_more p c.args.bound.now c.bind.new.self c.args.x.now c.args.v c.requires.stands c.in_ok-bind.ensures)) ∙ c.in_ok-holds.ensures

pub call_with-returns-clause-bound : goal.call_with-returns-clause-bound
call_with-returns-clause-bound t c =
    bound_again c.args.pair.now c.args.bound.now c.bind.new.self c.bind.new.self c.args.x.now c.args.v c.len-many.result c.keep.new.self (omega (arith, c.len-many.ensures, c.args.bound.now.names.ok)) c.requires.stands c.in_ok-bind.ensures (record { names = refl; values = refl }) c.keep.ensures.names c.keep.ensures.values

pub call_holds-returns-in-Bare : goal.call_holds-returns-in-Bare
call_holds-returns-in-Bare t c =
    let p = c.args.pair.now in
    subst (λ (u : Call). Tells c.called.result (call_holds bounded (env_at p c.args.bound.now) (acts_at p c.args.before) (call_at p.asked.pool.now u))) (sym c.in-Bare.is) c.called.ensures

pub call_holds-returns-in_err-v-in-With : goal.call_holds-returns-in_err-v-in-With
call_holds-returns-in_err-v-in-With t c =
    let p = c.args.pair.now in
    let ts = p.asked.pool.now in
    let env = env_at p c.args.bound.now in
    let k = c.in_err-v-in-With.field-0.0 in
    subst (λ (u : Call). Tells c.from_residual.result (call_holds bounded env (acts_at p c.args.before) (call_at ts u))) (sym c.in-With.is)
    (tells_err c.from_residual.result k _ c.from_residual.ensures
    (then_stops k (value_in bounded env (at ts c.in-With.e)) (λ (v : Value). acted (acts_at p c.args.before c.in-With.title) (Some v)) c.in_err-v-in-With.ensures))

pub call_holds-returns-in_ok-v-in-With : goal.call_holds-returns-in_ok-v-in-With
call_holds-returns-in_ok-v-in-With t c =
    let p = c.args.pair.now in
    let ts = p.asked.pool.now in
    let env = env_at p c.args.bound.now in
    subst (λ (u : Call). Tells c.called-in-With.result (call_holds bounded env (acts_at p c.args.before) (call_at ts u))) (sym c.in-With.is)
    (tells_then c.called-in-With.result c.in_ok-v-in-With.v (value_in bounded env (at ts c.in-With.e)) (λ (v : Value). acted (acts_at p c.args.before c.in-With.title) (Some v)) c.in_ok-v-in-With.ensures c.called-in-With.ensures)
