-- Proves that the first offence of what is used on one path is found.
use Rattle.std.proofs.Common.{◌<◌, ◌≤◌, List, length, get_or, ap, ◌∙◌, subst}
use Rattle.read_rules.specs.declared.uses.Use.{Use}
use Rattle.read_rules.specs.RefusalsIn.{use_offences}
use Rattle.read_rules.proofs.FoundLaws.{found_none, found_more, found_all}
use Rattle.read_rules.proofs.refusals.with_group.Goals as goal

pub loop-one-init : goal.loop-one-init
loop-one-init c = λ ds a. found_none (use_offences ds c.args.identity.now c.args.group.now.after.names) c.args.group.now.uses.items c.args.so_far

pub loop-one-preserved : goal.loop-one-preserved
loop-one-preserved c = λ ds a.
    let i = c.loop-one.one-index in
    let one = c.one-item.result in
    let all = c.deref-one-items.ensures.value in
    found_more (use_offences ds c.args.identity.now c.args.group.now.after.names) c.args.group.now.uses.items i one c.args.so_far c.loop-one.found c.with_use-found.result
    (c.one-item.is ∙ ap (λ (us : List Use). get_or us i one) all) (subst (λ (us : List Use). i < length us) all c.loop-one-test.true) (c.with_use-found.ensures ds a) (c.loop-one.invariant ds a)

pub returns : goal.returns
returns c = λ ds a.
    let i = c.loop-one.one-index in
    found_all (use_offences ds c.args.identity.now c.args.group.now.after.names) c.args.group.now.uses.items i c.args.so_far c.loop-one.found
    (subst (λ (us : List Use). length us ≤ i) c.deref-one-items.ensures.value c.loop-one-test.false) (c.loop-one.invariant ds a)
