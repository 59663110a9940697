-- Proves that the choices that are tried in turn find the first trouble.
use Rattle.std.proofs.Common.{subst, ◌∙◌, arith}
use Rattle.followed_runs.specs.declared.trying.Came.{Came}
use Rattle.followed_runs.specs.Tries.{ComesTo, step_by}
use Rattle.followed_runs.proofs.SearchLaws.{is_left, lighter, none_behind, some_behind, all_tried}
use Rattle.followed_runs.proofs.searching.+trouble_behind.Goals as goal

pub returns-in-Over : goal.returns-in-Over
returns-in-Over t c = λ d e. subst (λ (w : Came). ComesTo w d) c.in-Over.is (c.in_ok-trouble.ensures d e)

pub trouble_behind-requires : goal.trouble_behind-requires
trouble_behind-requires t c =
    let whole = step_by c.args.party.now c.args.actor.now c.args.state.now in
    let p =
    lighter whole c.args.choices.now c.deref.result.now c.loop-i.i c.in-Wants.count c.requires.wanted (λ d e. subst (λ (w : Came). ComesTo w d) c.in-Wants.is (c.in_ok-trouble.ensures d e))
    (c.deref.ensures.value ∙ c.in_ok-longer.ensures) c.loop-i-test.true in
    let q =
    is_left whole c.args.choices.now c.deref.result.now c.loop-i.i c.in-Wants.count c.requires.wanted (λ d e. subst (λ (w : Came). ComesTo w d) c.in-Wants.is (c.in_ok-trouble.ensures d e))
    (c.deref.ensures.value ∙ c.in_ok-longer.ensures) c.loop-i-test.true in
    (omega (arith, p, c.decreases), (c.requires.party, (c.requires.own, (c.requires.scene, q))))

pub returns-in-Some : goal.returns-in-Some
returns-in-Some t c =
    some_behind (step_by c.args.party.now c.args.actor.now c.args.state.now) c.args.choices.now c.deref.result.now c.loop-i.i c.in-Wants.count c.requires.wanted
    (λ d e. subst (λ (w : Came). ComesTo w d) c.in-Wants.is (c.in_ok-trouble.ensures d e)) (c.deref.ensures.value ∙ c.in_ok-longer.ensures) c.loop-i-test.true c.in_ok-trouble-2.field-0 c.in_ok-trouble-2.ensures
    c.loop-i.invariant c.in-Some.trouble c.in-Some.is

pub loop-i-preserved : goal.loop-i-preserved
loop-i-preserved t c =
    none_behind (step_by c.args.party.now c.args.actor.now c.args.state.now) c.args.choices.now c.deref.result.now c.loop-i.i c.in-Wants.count c.requires.wanted
    (λ d e. subst (λ (w : Came). ComesTo w d) c.in-Wants.is (c.in_ok-trouble.ensures d e)) (c.deref.ensures.value ∙ c.in_ok-longer.ensures) c.loop-i-test.true c.in_ok-trouble-2.field-0 c.in_ok-trouble-2.ensures
    c.loop-i.invariant c.in-None.is

pub returns : goal.returns
returns t c =
    all_tried (step_by c.args.party.now c.args.actor.now c.args.state.now) c.args.choices.now c.loop-i.i c.in-Wants.count (omega (arith, c.loop-i-test.false)) c.requires.wanted
    (λ d e. subst (λ (w : Came). ComesTo w d) c.in-Wants.is (c.in_ok-trouble.ensures d e)) c.loop-i.invariant
