-- Proves what is asked of the evaluator.
use Rattle.std.proofs.Common.{rules, ◌≡◌, ◌∙◌, sym, ap, subst, arith, length, get_or, take, drop, ◌+◌, ◌-◌, ◌≤◌, [], ◌∷◌, suc, length-append, Ok, true, false}
use Rattle.std.specs.Prelude.{slice_get}
use Rattle.std.specs.Option.{option_copied}
use Rattle.tla_token.specs.Places.{nowhere}
use Rattle.tla_tree.specs.Tree.{Name, node}
use Rattle.tla_tree.specs.Pool.{Entry, at, tree_in, trees_at, AllBelow}
use Rattle.tla_tree.specs.Shapes.{Shaped, StrictShaped}
use Rattle.tla_tree.proofs.PoolNumbers.{AllBelow-at, AllBelow-more}
use Rattle.tla_pool.specs.FormOf.{form_of, groups_of, strict_of}
use Rattle.tla_value.specs.Limits.{bounded}
use Rattle.tla_value.specs.Value.{Value, truth}
use Rattle.tla_value.specs.Definitions.{at_use}
use Rattle.tla_value.specs.Meaning.{eval, meaning_of, local_value, first_arm}
use Rattle.value_forms.specs.Gives.{Gives, Tells, Stops}
use Rattle.value_forms.proofs.StopLaws.{tells_err, err_is, then_stops, then_later, tells_then}
use Rattle.tla_eval.specs.Parts.{den, dens, value_at}
use Rattle.eval_visits.specs.GatheredOf.{gathered_of}
use Rattle.eval_visits.specs.Visits.{visited, over_sets, choice_turns, body_at}
use Rattle.eval_visits.specs.Gathered.{start}
use Rattle.eval_scopes.specs.Choices.{chosen, members_of_choice, unbound}
use Rattle.eval_scopes.specs.Scopes.{with_locals, with_words, seen_of}
use Rattle.eval_scopes.specs.Contexts.{env_of, outside, seen_env, use_of}
use Rattle.tla_eval.specs.Work.{work, body_work, defs_work}
use Rattle.eval_scopes.proofs.ScopeLemmas.{choice_members}
use Rattle.eval_scopes.proofs.ContextLemmas.{last_below, used_value, used_wrongly, definition_in}
use Rattle.tla_eval.proofs.WorkLemmas.{work_grows, used_work}
use Rattle.eval_scopes.proofs.NameLemmas.{bound_name, defined_name, outer_name, primed_name, defined_call, outer_call}
use Rattle.tla_eval.proofs.CaseLemmas.{arm_passed, arm_stops, last_wrong}
use Rattle.eval_visits.proofs.WalkLemmas.{choice_visits, choice_stops, no_choice_left}
use Rattle.tla_eval.proofs.EvalLemmas.{call_tells, node_work, works-at, take_below, take_works, take_count, values_count, bound_parts}
use Rattle.eval_visits.proofs.VisitLemmas.{choice_gathers}
use Rattle.tla_eval.proofs.LocalLemmas.{locals_none, locals_push, local_step, local_stop, same_got}
use Rattle.tla_eval.proofs.eval.+eval.Goals as goal

abbrev nothing : Value
nothing = truth true

abbrev nobody : Name
nobody = record { word = []; place = nowhere }

pub valued-of_form-requires : goal.valued-of_form-requires
valued-of_form-requires g t c κs within =
    let ts = c.args.cx.now.pool.now in
    let m = form_of c.node.inside.form in
    let is = c.deref.result.now in
    let tr = c.node-node.ensures.tree ∙ ap (tree_in ts) (sym c.node.view_is) ∙ ap (λ js. node m c.node.inside.place (trees_at ts js)) (sym c.deref.ensures.value) in
    let older = subst (AllBelow c.args.e) (sym c.deref.ensures.value) (subst (λ (n : Entry). AllBelow c.args.e n.parts) (sym c.node.view_is) c.node-node.ensures.older) in
    let shaped = subst (λ js. Shaped m (length js)) (sym c.deref.ensures.value) (subst (λ (n : Entry). Shaped n.form (length n.parts)) (sym c.node.view_is) c.node-node.ensures.shaped) in
    (omega (arith, node_work ts c.args.e m c.node.inside.place is tr, c.decreases), (search rules, (AllBelow-more c.args.e (length ts) is (omega (arith, c.requires.below)) older, (shaped, c.requires.within))))

pub values-valued-requires : goal.values-valued-requires
values-valued-requires g t c κs within =
    (omega (arith, works-at c.args.cx.now.pool.now c.args.parts.now c.loop-part.part-index 0 c.loop-part-test.true, c.decreases), (search rules, (AllBelow-at (length c.args.cx.now.pool.now) c.args.parts.now c.loop-part.part-index 0 c.requires.below c.loop-part-test.true, c.requires.within)))

pub member-in_form-requires : goal.member-in_form-requires
member-in_form-requires g t c κs within =
    let ts = c.args.cx.now.pool.now in
    let m = form_of c.node.inside.form in
    let is = c.deref.result.now in
    let tr = c.node-node.ensures.tree ∙ ap (tree_in ts) (sym c.node.view_is) ∙ ap (λ js. node m c.node.inside.place (trees_at ts js)) (sym c.deref.ensures.value) in
    let older = subst (AllBelow c.args.e) (sym c.deref.ensures.value) (subst (λ (n : Entry). AllBelow c.args.e n.parts) (sym c.node.view_is) c.node-node.ensures.older) in
    let shaped = subst (λ js. Shaped m (length js)) (sym c.deref.ensures.value) (subst (λ (n : Entry). Shaped n.form (length n.parts)) (sym c.node.view_is) c.node-node.ensures.shaped) in
    (omega (arith, node_work ts c.args.e m c.node.inside.place is tr, c.decreases), (search rules, (AllBelow-more c.args.e (length ts) is (omega (arith, c.requires.below)) older, (shaped, c.requires.within))))

pub at_choice-returns : goal.at_choice-returns
at_choice-returns g t c =
    let env = unbound (env_of g.N.Names.look c.args.cx.now c.args.scope.now) in let s = chosen c.args.names.now c.args.left.now env in let d = den c.args.cx.now.pool.now c.args.body in
    subst (Gives gathered_of c.with_answer.result) (choice_gathers c.args.binder c.args.place d (gathered_of c.args.gathered) s (members_of_choice c.args.names.now c.args.left.now) (choice_members c.args.names.now c.args.left.now env))
    (c.with_answer.ensures (d s.0).value c.valued-answer.ensures)

pub bound-values-requires : goal.bound-values-requires
bound-values-requires g t c κs within =
    let n = length c.args.parts.now - 1 in
    (omega (arith, take_works c.args.cx.now.pool.now c.args.parts.now n, c.decreases), (search rules, (take_below (length c.args.cx.now.pool.now) c.args.parts.now n c.requires.below, c.requires.within)))

pub bound-visit-requires : goal.bound-visit-requires
bound-visit-requires g t c κs within =
    let n = length c.args.parts.now - 1 in
    (omega (arith, works-at c.args.cx.now.pool.now c.args.parts.now n 0 (omega (arith, c.requires.shaped)), c.decreases), (search rules, (AllBelow-at (length c.args.cx.now.pool.now) c.args.parts.now n 0 c.requires.below (omega (arith, c.requires.shaped)), c.requires.within)))

pub bound-over_sets-requires : goal.bound-over_sets-requires
bound-over_sets-requires g t c =
    let n = length c.args.parts.now - 1 in
    omega (arith, ap length c.as_slice.ensures.value, values_count c.args.cx.now.pool.now (take n c.args.parts.now) (env_of g.N.Names.look c.args.cx.now c.args.scope.now) c.in_ok-sets.sets.items c.in_ok-sets.ensures, take_count c.args.parts.now n (omega arith), c.requires.shaped)

pub bound-returns-in_err-sets : goal.bound-returns-in_err-sets
bound-returns-in_err-sets g t c =
    let n = length c.args.parts.now - 1 in
    subst (Tells c.from_residual.result) (sym (bound_parts c.args.cx.now.pool.now c.args.binder (groups_of c.args.groups.now) c.args.place c.args.parts.now n (env_of g.N.Names.look c.args.cx.now c.args.scope.now) c.requires.shaped (omega (arith, c.requires.shaped))))
    (tells_err c.from_residual.result c.in_err-sets.field-0.0 _ c.from_residual.ensures (then_stops c.in_err-sets.field-0.0 _ _ c.in_err-sets.ensures))

pub bound-returns-in_err-names : goal.bound-returns-in_err-names
bound-returns-in_err-names g t c =
    let n = length c.args.parts.now - 1 in let gs = groups_of c.args.groups.now in let env = env_of g.N.Names.look c.args.cx.now c.args.scope.now in let s = c.in_err-names.field-0.0 in
    let sets = subst (λ vs. Stops s (over_sets c.args.place gs vs)) c.as_slice.ensures.value c.in_err-names.ensures in
    subst (Tells c.from_residual-in_err-names.result) (sym (bound_parts c.args.cx.now.pool.now c.args.binder gs c.args.place c.args.parts.now n env c.requires.shaped (omega (arith, c.requires.shaped))))
    (tells_err c.from_residual-in_err-names.result s _ c.from_residual-in_err-names.ensures (then_later s c.in_ok-sets.sets.items _ _ c.in_ok-sets.ensures (then_stops s _ _ sets)))

pub bound-returns-in_err-gathered : goal.bound-returns-in_err-gathered
bound-returns-in_err-gathered g t c =
    let n = length c.args.parts.now - 1 in let b = c.args.binder in let gs = groups_of c.args.groups.now in let env = env_of g.N.Names.look c.args.cx.now c.args.scope.now in let ts = c.args.cx.now.pool.now in let s = c.in_err-gathered.field-0.0 in
    let go = body_at b c.args.place (den ts (get_or c.args.parts.now n 0)) in
    let names = subst (λ vs. over_sets c.args.place gs vs ≡ Ok c.in_ok-names.names.items) c.as_slice.ensures.value c.in_ok-names.ensures in
    let stopped = subst (λ ns. Stops s (visited (start b) ns go (unbound env))) c.as_slice-2.ensures.value (subst (λ h. Stops s (visited h c.as_slice-2.result.now go (unbound env))) c.begun-gathered.ensures c.in_err-gathered.ensures) in
    subst (Tells c.from_residual-in_err-gathered.result) (sym (bound_parts ts b gs c.args.place c.args.parts.now n env c.requires.shaped (omega (arith, c.requires.shaped))))
    (tells_err c.from_residual-in_err-gathered.result s _ c.from_residual-in_err-gathered.ensures (then_later s c.in_ok-sets.sets.items _ _ c.in_ok-sets.ensures (then_later s c.in_ok-names.names.items _ _ names (then_stops s _ _ stopped))))

pub bound-returns : goal.bound-returns
bound-returns g t c =
    let n = length c.args.parts.now - 1 in let b = c.args.binder in let gs = groups_of c.args.groups.now in let env = env_of g.N.Names.look c.args.cx.now c.args.scope.now in let ts = c.args.cx.now.pool.now in
    let go = body_at b c.args.place (den ts (get_or c.args.parts.now n 0)) in let f = gathered_of c.in_ok-gathered.gathered in
    let names = subst (λ vs. over_sets c.args.place gs vs ≡ Ok c.in_ok-names.names.items) c.as_slice.ensures.value c.in_ok-names.ensures in
    let all = subst (λ ns. visited (start b) ns go (unbound env) ≡ Ok f) c.as_slice-2.ensures.value (subst (λ h. visited h c.as_slice-2.result.now go (unbound env) ≡ Ok f) c.begun-gathered.ensures c.in_ok-gathered.ensures) in
    subst (Tells c.whole.result) (sym (bound_parts ts b gs c.args.place c.args.parts.now n env c.requires.shaped (omega (arith, c.requires.shaped))))
    (tells_then c.whole.result c.in_ok-sets.sets.items _ _ c.in_ok-sets.ensures (tells_then c.whole.result c.in_ok-names.names.items _ _ names (tells_then c.whole.result f _ _ all c.whole.ensures)))

pub called-used-requires : goal.called-used-requires
called-used-requires g t c κs within =
    let ts = c.args.cx.now.pool.now in let ds = c.args.cx.now.defs.now in let k = c.in-Some.k in let n = seen_of c.args.scope.now in
    let lt = last_below false ds c.args.f.now n k (sym c.seen_latest.ensures ∙ c.in-Some.is) in
    let w : suc (body_work ts (slice_get ds k) + defs_work ts ds k) ≤ defs_work ts ds n = work_grows ts ds (suc k) n (omega (arith, lt)) in
    (omega (arith, w, c.decreases), (search rules, (omega (arith, lt, c.requires.within.1), c.requires.within.0)))

pub called-returns-in_err-v-in-Some : goal.called-returns-in_err-v-in-Some
called-returns-in_err-v-in-Some g t c =
    let ts = c.args.cx.now.pool.now in let ds = c.args.cx.now.defs.now in let env = outside g.N.Names.look c.args.cx.now in let k = c.in-Some.k in let s = c.in_err-v-in-Some.field-0.0 in let r = c.from_residual-in_err-v-in-Some.result in
    let stop = subst (λ l. Stops s (use_of ts ds k env c.args.place l).value) (c.as_slice.ensures.value ∙ c.in_ok-arguments-in-Some.ensures) c.in_err-v-in-Some.ensures in
    call_tells r _ c.args.place _ _ c.in_ok-values.values.items c.in_ok-values.ensures (defined_call ts ds env c.args.scope.now c.args.f.now k (sym c.seen_latest.ensures ∙ c.in-Some.is))
    (tells_err r s _ c.from_residual-in_err-v-in-Some.ensures stop)

pub called-returns-in_ok-v-in-Some : goal.called-returns-in_ok-v-in-Some
called-returns-in_ok-v-in-Some g t c =
    let ts = c.args.cx.now.pool.now in let ds = c.args.cx.now.defs.now in let env = outside g.N.Names.look c.args.cx.now in let k = c.in-Some.k in
    let value = subst (λ l. (use_of ts ds k env c.args.place l).value ≡ Ok c.in_ok-v-in-Some.v) (c.as_slice.ensures.value ∙ c.in_ok-arguments-in-Some.ensures) c.in_ok-v-in-Some.ensures in
    call_tells (Ok c.own.result) _ c.args.place _ _ c.in_ok-values.values.items c.in_ok-values.ensures (defined_call ts ds env c.args.scope.now c.args.f.now k (sym c.seen_latest.ensures ∙ c.in-Some.is))
    (value ∙ ap (λ v. Ok v) (sym c.own.ensures))

pub called-returns-in-None : goal.called-returns-in-None
called-returns-in-None g t c =
    let ts = c.args.cx.now.pool.now in let ds = c.args.cx.now.defs.now in let env = outside g.N.Names.look c.args.cx.now in
    call_tells c.undefined.result _ c.args.place _ _ c.in_ok-values.values.items c.in_ok-values.ensures (outer_call ts ds env c.args.scope.now c.args.f.now (sym c.seen_latest.ensures ∙ c.in-None.is)) c.undefined.ensures

pub cases-test-requires : goal.cases-test-requires
cases-test-requires g t c κs within =
    let i = c.loop-i.i in
    (omega (arith, works-at c.args.cx.now.pool.now c.args.parts.now i 0 (omega (arith, c.loop-i-test.true)), c.decreases), (search rules, (AllBelow-at (length c.args.cx.now.pool.now) c.args.parts.now i 0 c.requires.below (omega (arith, c.loop-i-test.true)), c.requires.within)))

pub cases-returns-in_err-holds : goal.cases-returns-in_err-holds
cases-returns-in_err-holds g t c =
    let i = c.loop-i.i in let s = c.in_err-holds.field-0.0 in let env = env_of g.N.Names.look c.args.cx.now c.args.scope.now in let ts = c.args.cx.now.pool.now in let is = c.args.parts.now in
    let all = first_arm c.args.other c.args.place (dens ts is) env in
    tells_err c.from_residual.result s all c.from_residual.ensures (arm_stops c.args.other c.args.place ts env is i 0 s all (omega (arith, c.loop-i-test.true)) c.in_err-holds.ensures c.loop-i.invariant.1)

pub cases-valued-requires : goal.cases-valued-requires
cases-valued-requires g t c κs within =
    let i = c.loop-i.i in
    (omega (arith, works-at c.args.cx.now.pool.now c.args.parts.now (i + 1) 0 c.loop-i-test.true, c.decreases), (search rules, (AllBelow-at (length c.args.cx.now.pool.now) c.args.parts.now (i + 1) 0 c.requires.below c.loop-i-test.true, c.requires.within)))

pub cases-loop-i-preserved : goal.cases-loop-i-preserved
cases-loop-i-preserved g t c =
    let i = c.loop-i.i in let env = env_of g.N.Names.look c.args.cx.now c.args.scope.now in let ts = c.args.cx.now.pool.now in let is = c.args.parts.now in
    let all = first_arm c.args.other c.args.place (dens ts is) env in
    (omega (arith, c.loop-i-test.true), arm_passed c.args.other c.args.place ts env is i 0 all (omega (arith, c.loop-i-test.true)) (c.in_ok-holds.ensures ∙ ap (λ b. Ok b) c.if-holds.false) c.loop-i.invariant.1)

pub cases-valued-requires-then-other : goal.cases-valued-requires-then-other
cases-valued-requires-then-other g t c κs within =
    let i = c.loop-i.i in
    (omega (arith, works-at c.args.cx.now.pool.now c.args.parts.now i 0 c.if-i-parts.true, c.decreases), (search rules, (AllBelow-at (length c.args.cx.now.pool.now) c.args.parts.now i 0 c.requires.below c.if-i-parts.true, c.requires.within)))

pub cases-returns-then-i-parts : goal.cases-returns-then-i-parts
cases-returns-then-i-parts g t c =
    let i = c.loop-i.i in let env = env_of g.N.Names.look c.args.cx.now c.args.scope.now in let ts = c.args.cx.now.pool.now in let is = c.args.parts.now in
    let all = first_arm c.args.other c.args.place (dens ts is) env in
    subst (Tells c.misshapen.result) (sym (last_wrong c.args.other c.args.place ts env is i 0 all (omega (arith, c.if-i-parts.true, c.loop-i-test.false)) c.if-other.false c.loop-i.invariant.1)) c.misshapen.ensures

pub in_form-in_strict-requires : goal.in_form-in_strict-requires
in_form-in_strict-requires g t c =
    let vs = c.in_ok-values-in-Parts.values.items in
    subst (λ n. StrictShaped (strict_of c.in-Parts.o.now) n) (sym (values_count c.args.cx.now.pool.now c.args.parts.now (env_of g.N.Names.look c.args.cx.now c.args.scope.now) vs c.in_ok-values-in-Parts.ensures))
    (subst (λ m. Shaped m (length c.args.parts.now)) c.in-Parts.ensures c.requires.shaped)

pub locals-in_local-requires : goal.locals-in_local-requires
locals-in_local-requires g t c κs within =
    (omega (arith, works-at c.args.cx.now.pool.now c.args.parts.now c.loop-i.i 0 (omega (arith, c.loop-i-test.true, c.requires.shaped)), c.decreases), (search rules, (AllBelow-at (length c.args.cx.now.pool.now) c.args.parts.now c.loop-i.i 0 c.requires.below (omega (arith, c.loop-i-test.true, c.requires.shaped)), c.requires.within)))

pub locals-in_local-requires-2 : goal.locals-in_local-requires-2
locals-in_local-requires-2 g t c κs within =
    let k = length c.args.names.now in
    (omega (arith, works-at c.args.cx.now.pool.now c.args.parts.now k 0 (omega (arith, c.requires.shaped)), c.decreases), (search rules, (AllBelow-at (length c.args.cx.now.pool.now) c.args.parts.now k 0 c.requires.below (omega (arith, c.requires.shaped)), c.requires.within)))

pub locals-loop-i-init : goal.locals-loop-i-init
locals-loop-i-init g t c =
    let env = env_of g.N.Names.look c.args.cx.now c.args.scope.now in
    (ap length c.new-values.ensures.items, ap (λ l. local_value c.args.place c.args.names.now (dens c.args.cx.now.pool.now c.args.parts.now) (with_locals c.args.names.now l env)) c.new-values.ensures.items ∙ ap (local_value c.args.place c.args.names.now (dens c.args.cx.now.pool.now c.args.parts.now)) (locals_none c.args.names.now env))

pub locals-loop-i-preserved : goal.locals-loop-i-preserved
locals-loop-i-preserved g t c =
    let xs = c.args.names.now in let is = c.args.parts.now in let ts = c.args.cx.now.pool.now in let env = env_of g.N.Names.look c.args.cx.now c.args.scope.now in let vs = c.loop-i.values.items in let k = c.loop-i.i in
    let x = get_or xs k nobody in let v = c.in_ok-v.v in let at = c.args.place in
    let all = local_value at xs (dens ts is) env in
    let it : x ≡ get_or xs k x = same_got xs k nobody x c.loop-i-test.true in
    let itv : x ≡ get_or xs (length vs) x = subst (λ n. x ≡ get_or xs n x) (sym c.loop-i.invariant.0) it in
    let val = subst (λ l. value_at ts (get_or is k 0) (with_locals xs l env) ≡ Ok v) c.as_slice.ensures.value c.in_ok-v.ensures in
    let step = local_step at xs ts is (with_locals xs vs env) k x 0 v all c.loop-i-test.true (omega (arith, c.loop-i-test.true, c.requires.shaped)) it val c.loop-i.invariant.1 in
    let more = ap (λ l. with_locals xs l env) c.in_ok-push.ensures.items ∙ locals_push xs vs v x env (omega (arith, c.loop-i.invariant.0, c.loop-i-test.true)) itv in (
      omega (arith, ap length c.in_ok-push.ensures.items, length-append vs (v ∷ []), c.loop-i.invariant.0),
      subst (λ e. local_value at (drop (k + 1) xs) (dens ts (drop (k + 1) is)) e ≡ all) (sym more) step,
    )

pub locals-returns-in_err-v : goal.locals-returns-in_err-v
locals-returns-in_err-v g t c =
    let xs = c.args.names.now in let is = c.args.parts.now in let ts = c.args.cx.now.pool.now in let env = env_of g.N.Names.look c.args.cx.now c.args.scope.now in let vs = c.loop-i.values.items in let k = c.loop-i.i in
    let x = get_or xs k nobody in let s = c.in_err-v.field-0.0 in let at = c.args.place in
    let all = local_value at xs (dens ts is) env in
    let it : x ≡ get_or xs k x = same_got xs k nobody x c.loop-i-test.true in
    let stopped = subst (λ l. Stops s (value_at ts (get_or is k 0) (with_locals xs l env))) c.as_slice.ensures.value c.in_err-v.ensures in
    tells_err c.from_residual.result s all c.from_residual.ensures
    (local_stop at xs ts is (with_locals xs vs env) k x 0 s all c.loop-i-test.true (omega (arith, c.loop-i-test.true, c.requires.shaped)) it stopped c.loop-i.invariant.1)

pub named-returns-in-Some : goal.named-returns-in-Some
named-returns-in-Some g t c =
    let env = outside g.N.Names.look c.args.cx.now in
    ap (λ s. s.value) (bound_name c.args.cx.now.pool.now c.args.cx.now.defs.now env c.args.scope.now c.args.x.now c.args.place c.in-Some.v.now (sym c.find.ensures ∙ ap option_copied c.in-Some.is)) ∙ ap (λ v. Ok v) (sym c.there.ensures)

pub named-used-requires : goal.named-used-requires
named-used-requires g t c κs within =
    let ts = c.args.cx.now.pool.now in let ds = c.args.cx.now.defs.now in let k = c.in-Some-seen_latest.k in let n = seen_of c.args.scope.now in
    let lt = last_below true ds c.args.x.now n k (sym c.seen_latest.ensures ∙ c.in-Some-seen_latest.is) in
    let w : suc (body_work ts (slice_get ds k) + defs_work ts ds k) ≤ defs_work ts ds n = work_grows ts ds (suc k) n (omega (arith, lt)) in
    (omega (arith, w, c.decreases), (search rules, (omega (arith, lt, c.requires.within.1), c.requires.within.0)))

pub named-returns-in_err-v-in-Some-seen_latest : goal.named-returns-in_err-v-in-Some-seen_latest
named-returns-in_err-v-in-Some-seen_latest g t c =
    let ts = c.args.cx.now.pool.now in let ds = c.args.cx.now.defs.now in let env = outside g.N.Names.look c.args.cx.now in let k = c.in-Some-seen_latest.k in let s = c.in_err-v-in-Some-seen_latest.field-0.0 in let r = c.from_residual.result in
    let stop = subst (λ l. Stops s (use_of ts ds k env c.args.place l).value) (c.as_slice.ensures.value ∙ c.new-none.ensures.items) c.in_err-v-in-Some-seen_latest.ensures in
    subst (λ x. Tells r x.value) (sym (defined_name ts ds env c.args.scope.now c.args.x.now c.args.place k (sym c.find.ensures ∙ ap option_copied c.in_default.is) (sym c.seen_latest.ensures ∙ c.in-Some-seen_latest.is)))
    (tells_err r s _ c.from_residual.ensures stop)

pub named-returns-in_ok-v-in-Some-seen_latest : goal.named-returns-in_ok-v-in-Some-seen_latest
named-returns-in_ok-v-in-Some-seen_latest g t c =
    let ts = c.args.cx.now.pool.now in let ds = c.args.cx.now.defs.now in let env = outside g.N.Names.look c.args.cx.now in let k = c.in-Some-seen_latest.k in let v = c.in_ok-v-in-Some-seen_latest.v in
    let value = subst (λ l. (use_of ts ds k env c.args.place l).value ≡ Ok v) (c.as_slice.ensures.value ∙ c.new-none.ensures.items) c.in_ok-v-in-Some-seen_latest.ensures in
    ap (λ x. x.value) (defined_name ts ds env c.args.scope.now c.args.x.now c.args.place k (sym c.find.ensures ∙ ap option_copied c.in_default.is) (sym c.seen_latest.ensures ∙ c.in-Some-seen_latest.is))
    ∙ value ∙ ap (λ w. Ok w) (sym c.own.ensures)

pub named-returns-in-None : goal.named-returns-in-None
named-returns-in-None g t c =
    let ts = c.args.cx.now.pool.now in let ds = c.args.cx.now.defs.now in let env = outside g.N.Names.look c.args.cx.now in
    subst (λ x. Tells c.outer_named.result x.value) (sym (outer_name ts ds env c.args.scope.now c.args.x.now c.args.place (sym c.find.ensures ∙ ap option_copied c.in_default.is) (sym c.seen_latest.ensures ∙ c.in-None.is))) c.outer_named.ensures

pub of_form-make-requires : goal.of_form-make-requires
of_form-make-requires g t c =
    let vs = c.in_ok-values-in-Strict.values.items in
    subst (λ n. StrictShaped (strict_of c.in-Strict.o) n) (sym (values_count c.args.cx.now.pool.now c.args.parts.now (env_of g.N.Names.look c.args.cx.now c.args.scope.now) vs c.in_ok-values-in-Strict.ensures))
    (subst (λ f. Shaped (form_of f) (length c.args.parts.now)) c.in-Strict.is c.requires.shaped)

pub of_form-returns-in-Booleans : goal.of_form-returns-in-Booleans
of_form-returns-in-Booleans g t c =
    let ds = dens c.args.cx.now.pool.now c.args.parts.now in let env = env_of g.N.Names.look c.args.cx.now c.args.scope.now in
    subst (λ f. Tells c.truth_values.result (meaning_of bounded (form_of f) c.args.place ds env).value) (sym c.in-Booleans.is) (c.truth_values.ensures ds env)

pub of_form-returns-in-Next : goal.of_form-returns-in-Next
of_form-returns-in-Next g t c =
    let ds = dens c.args.cx.now.pool.now c.args.parts.now in let env = env_of g.N.Names.look c.args.cx.now c.args.scope.now in
    subst (λ f. Tells c.next_named.result (meaning_of bounded (form_of f) c.args.place ds env).value) (sym c.in-Next.is)
    (subst (λ x. Tells c.next_named.result x.value) (sym (primed_name c.args.cx.now.pool.now c.args.cx.now.defs.now (outside g.N.Names.look c.args.cx.now) c.args.scope.now c.in-Next.x c.args.place)) c.next_named.ensures)

pub used-returns-then-len-arguments : goal.used-returns-then-len-arguments
used-returns-then-len-arguments g t c =
    let ts = c.args.cx.now.pool.now in let ds = c.args.cx.now.defs.now in let k = c.args.k in let d = c.index-defs-k.result in
    let is : d ≡ get_or ds k d = subst (λ l. d ≡ get_or l k d) c.as_slice-defs.ensures c.index-defs-k.is in
    used_wrongly ts ds k (outside g.N.Names.look c.args.cx.now) c.args.place c.args.arguments.now d c.requires.seen is (λ e. c.if-len-arguments.true (c.len.ensures ∙ e))

pub used-valued-requires : goal.used-valued-requires
used-valued-requires g t c κs within =
    let ts = c.args.cx.now.pool.now in let ds = c.args.cx.now.defs.now in let k = c.args.k in let d = c.index-defs-k.result in
    let is : d ≡ get_or ds k d = subst (λ l. d ≡ get_or l k d) c.as_slice-defs.ensures c.index-defs-k.is in
    let w : suc (body_work ts (slice_get ds k) + defs_work ts ds k) ≡ suc (work (at ts d.body) + defs_work ts ds k) = used_work ts ds k d c.requires.seen is in
    (omega (arith, w, c.decreases), (search rules, (definition_in (length ts) ds k d c.requires.within c.requires.seen is, (c.requires.within, omega (arith, c.requires.seen)))))

pub used-returns-in_ok-taken-in-Ok : goal.used-returns-in_ok-taken-in-Ok
used-returns-in_ok-taken-in-Ok g t c =
    let ts = c.args.cx.now.pool.now in let ds = c.args.cx.now.defs.now in let k = c.args.k in let d = c.index-defs-k.result in let env = outside g.N.Names.look c.args.cx.now in let vs = c.args.arguments.now in
    let is : d ≡ get_or ds k d = subst (λ l. d ≡ get_or l k d) c.as_slice-defs.ensures c.index-defs-k.is in
    used_value ts ds k env c.args.place vs d c.requires.seen is (sym c.len.ensures ∙ c.if-len-arguments.false)
    ∙ ap (λ l. at_use d.outside c.args.place (eval bounded (at ts d.body) (with_words l vs (seen_env ts ds k env))).value) (sym c.as_slice.ensures)
    ∙ ap (at_use d.outside c.args.place) c.in-Ok.ensures ∙ ap (λ w. Ok w) (sym c.in_ok-taken-in-Ok.ensures)

pub used-returns-in-Err : goal.used-returns-in-Err
used-returns-in-Err g t c =
    let ts = c.args.cx.now.pool.now in let ds = c.args.cx.now.defs.now in let k = c.args.k in let d = c.index-defs-k.result in let env = outside g.N.Names.look c.args.cx.now in let vs = c.args.arguments.now in
    let is : d ≡ get_or ds k d = subst (λ l. d ≡ get_or l k d) c.as_slice-defs.ensures c.index-defs-k.is in
    subst (Stops c.stopped.result)
    (sym (used_value ts ds k env c.args.place vs d c.requires.seen is (sym c.len.ensures ∙ c.if-len-arguments.false)
    ∙ ap (λ l. at_use d.outside c.args.place (eval bounded (at ts d.body) (with_words l vs (seen_env ts ds k env))).value) (sym c.as_slice.ensures)))
    (c.stopped.ensures _ c.in-Err.ensures)

pub visit-loop-more-init : goal.visit-loop-more-init
visit-loop-more-init g t c =
    let env = unbound (env_of g.N.Names.look c.args.cx.now c.args.scope.now) in let go = body_at c.args.binder c.args.place (den c.args.cx.now.pool.now c.args.body) in
    let first = c.in_ok-more.ensures in
    (first.0, first.1 (gathered_of c.args.gathered) go env)

pub visit-loop-more-preserved : goal.visit-loop-more-preserved
visit-loop-more-preserved g t c =
    let names = c.args.names.now in let left = c.loop-more.left.items in let env = unbound (env_of g.N.Names.look c.args.cx.now c.args.scope.now) in
    let go = body_at c.args.binder c.args.place (den c.args.cx.now.pool.now c.args.body) in let f = gathered_of c.loop-more.gathered in let h = gathered_of c.in_ok-gathered.gathered in
    let all = visited (gathered_of c.args.gathered) names go env in
    let asked = subst (λ l. visited f [] go (chosen names l env) ≡ Ok h) c.as_slice.ensures.value c.in_ok-gathered.ensures in
    let next = c.in_ok-more-2.ensures in
    (next.0, next.1.1 h go env ∙ choice_visits c.loop-more.more go names left env f h all c.loop-more-test.true c.loop-more.invariant.0 asked c.loop-more.invariant.1)

pub visit-loop-more-smaller : goal.visit-loop-more-smaller
visit-loop-more-smaller g t c = omega (arith, c.in_ok-more-2.ensures.1.0, ap (λ b. choice_turns b c.args.names.now c.loop-more.left.items) c.loop-more-test.true)

pub visit-returns : goal.visit-returns
visit-returns g t c =
    let go = body_at c.args.binder c.args.place (den c.args.cx.now.pool.now c.args.body) in
    no_choice_left c.loop-more.more go c.args.names.now c.loop-more.left.items _ (gathered_of c.loop-more.gathered) _ c.loop-more-test.false c.loop-more.invariant.1

pub visit-returns-in_err-gathered : goal.visit-returns-in_err-gathered
visit-returns-in_err-gathered g t c =
    let names = c.args.names.now in let left = c.loop-more.left.items in let env = unbound (env_of g.N.Names.look c.args.cx.now c.args.scope.now) in
    let go = body_at c.args.binder c.args.place (den c.args.cx.now.pool.now c.args.body) in let f = gathered_of c.loop-more.gathered in let s = c.in_err-gathered.field-0.0 in
    let all = visited (gathered_of c.args.gathered) names go env in
    let stopped = subst (λ l. Stops s (visited f [] go (chosen names l env))) c.as_slice.ensures.value c.in_err-gathered.ensures in
    err_is gathered_of c.from_residual-in_err-gathered.result s all c.from_residual-in_err-gathered.ensures (choice_stops c.loop-more.more go names left env f all s c.loop-more-test.true c.loop-more.invariant.0 stopped c.loop-more.invariant.1)
