-- Proves that the first offence of all that is seen is found.
use Rattle.std.proofs.Common.{List, ap, ◌∙◌}
use Rattle.tla_token.specs.declared.rule.Refusal.{Refusal}
use Rattle.pcal_tree.specs.Offences.{first}
use Rattle.algorithm_answer.specs.Joined.{joined}
use Rattle.read_rules.proofs.FoundLaws.{found_none, found_more, found_all}
use Rattle.read_rules.proofs.RefusalLaws.{group_offences, groups_stale}
use Rattle.read_rules.proofs.refusals.with_seen.Goals as goal

pub loop-group-init : goal.loop-group-init
loop-group-init c = λ ds a. found_none (group_offences ds c.args.identity.now) c.args.groups.now c.args.so_far

pub loop-group-preserved : goal.loop-group-preserved
loop-group-preserved c = λ ds a.
    found_more (group_offences ds c.args.identity.now) c.args.groups.now c.loop-group.group-index c.group-item.result c.args.so_far c.loop-group.found c.with_group-found.result c.group-item.is c.loop-group-test.true
    (c.with_group-found.ensures ds a) (c.loop-group.invariant ds a)

pub returns : goal.returns
returns c = λ ds a.
    found_all (group_offences ds c.args.identity.now) c.args.groups.now c.loop-group.group-index c.args.so_far c.loop-group.found c.loop-group-test.false (c.loop-group.invariant ds a)
    ∙ ap (λ (rs : List Refusal). joined c.args.so_far (first rs)) (groups_stale ds c.args.identity.now c.args.groups.now)
