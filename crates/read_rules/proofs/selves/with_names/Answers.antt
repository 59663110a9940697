-- Proves that the first offence of names is found.
use Rattle.std.proofs.Common.{Bool, ap, ◌∙◌}
use Rattle.tla_token.specs.declared.rule.Rule.TheVariants.{SelfOutside}
use Rattle.tla_token.specs.declared.place.Place.{Place}
use Rattle.pcal_tree.specs.Algorithm.{Name}
use Rattle.pcal_tree.specs.Offences.{offence_if, first}
use Rattle.pcal_tree.specs.OffencesSelf.{self_offence}
use Rattle.algorithm_answer.specs.Joined.{joined}
use Rattle.read_rules.proofs.FoundLaws.{found_none, found_more, found_all}
use Rattle.read_rules.proofs.selves.with_names.Goals as goal

pub loop-one-init : goal.loop-one-init
loop-one-init c = found_none self_offence c.args.names.now c.args.so_far

pub loop-one-preserved : goal.loop-one-preserved
loop-one-preserved c =
    let one = c.one-item.result in
    found_more self_offence c.args.names.now c.loop-one.one-index one c.args.so_far c.loop-one.found c.or_offence-found.result c.one-item.is c.loop-one-test.true
    (c.or_offence-found.ensures ∙ ap (λ (p : Place). joined c.loop-one.found (first (offence_if c.is_self-is_self.result SelfOutside p))) (ap (λ (n : Name). n.place) c.one.view_is)
    ∙ ap (λ (b : Bool). joined c.loop-one.found (first (offence_if b SelfOutside one.place))) c.is_self-is_self.ensures)
    c.loop-one.invariant

pub returns : goal.returns
returns c = found_all self_offence c.args.names.now c.loop-one.one-index c.args.so_far c.loop-one.found c.loop-one-test.false c.loop-one.invariant
