-- Proves that the first offence of names is found.
use Rattle.std.proofs.Common.{Bool, ap, ◌∙◌}
use Rattle.tla_token.specs.declared.rule.Rule.TheVariants.{ProcessNotConstant}
use Rattle.tla_token.specs.declared.place.Place.{Place}
use Rattle.pcal_tree.specs.Algorithm.{Name}
use Rattle.pcal_tree.specs.Offences.{offence_if, first}
use Rattle.algorithm_answer.specs.Joined.{joined}
use Rattle.read_rules.specs.EarlyReads.{offending_name}
use Rattle.read_rules.proofs.FoundLaws.{found_none, found_more, found_all}
use Rattle.read_rules.proofs.identities.with_names.Goals as goal

pub loop-one-init : goal.loop-one-init
loop-one-init c = λ gs ls n h. found_none (offending_name gs ls) c.args.names.now c.args.so_far

pub loop-one-preserved : goal.loop-one-preserved
loop-one-preserved c = λ gs ls n h.
    let one = c.one-item.result in
    found_more (offending_name gs ls) c.args.names.now c.loop-one.one-index one c.args.so_far c.loop-one.found c.or_offence-found.result c.one-item.is c.loop-one-test.true
    (c.or_offence-found.ensures ∙ ap (λ (p : Place). joined c.loop-one.found (first (offence_if c.reads_some-reads.result ProcessNotConstant p))) (ap (λ (n : Name). n.place) c.one.view_is)
    ∙ ap (λ (b : Bool). joined c.loop-one.found (first (offence_if b ProcessNotConstant one.place))) (c.reads_some-reads.ensures gs ls n h))
    (c.loop-one.invariant gs ls n h)

pub returns : goal.returns
returns c = λ gs ls n h. found_all (offending_name gs ls) c.args.names.now c.loop-one.one-index c.args.so_far c.loop-one.found c.loop-one-test.false (c.loop-one.invariant gs ls n h)
