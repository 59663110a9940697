-- Proves that the first offence of names is found.
use Rattle.std.proofs.Common.{Bool, ap, ◌∙◌}
use Rattle.tla_token.specs.declared.rule.Rule.TheVariants.{InitSelf}
use Rattle.tla_token.specs.declared.place.Place.{Place}
use Rattle.pcal_tree.specs.Algorithm.{Name}
use Rattle.pcal_tree.specs.Offences.{offence_if, first}
use Rattle.algorithm_answer.specs.Joined.{joined}
use Rattle.read_rules.specs.Own.{own_name}
use Rattle.read_rules.proofs.FoundLaws.{found_none, found_more, found_all}
use Rattle.read_rules.proofs.own.with_names.Goals as goal

pub loop-one-init : goal.loop-one-init
loop-one-init c = λ p b. found_none (own_name p) c.args.names.now c.args.so_far

pub loop-one-preserved : goal.loop-one-preserved
loop-one-preserved c = λ p b.
    let one = c.one-item.result in
    found_more (own_name p) c.args.names.now c.loop-one.one-index one c.args.so_far c.loop-one.found c.or_offence-found.result c.one-item.is c.loop-one-test.true
    (c.or_offence-found.ensures ∙ ap (λ (q : Place). joined c.loop-one.found (first (offence_if c.is_own-own.result InitSelf q))) (ap (λ (n : Name). n.place) c.one.view_is)
    ∙ ap (λ (t : Bool). joined c.loop-one.found (first (offence_if t InitSelf one.place))) (c.is_own-own.ensures p b))
    (c.loop-one.invariant p b)

pub returns : goal.returns
returns c = λ p b. found_all (own_name p) c.args.names.now c.loop-one.one-index c.args.so_far c.loop-one.found c.loop-one-test.false (c.loop-one.invariant p b)
