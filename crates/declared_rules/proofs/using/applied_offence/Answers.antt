-- Proves that the offences of a use are found one after another.
use Rattle.std.proofs.Common.{Bool, not, ◌&&◌, nat_eq, ap, sym, ◌∙◌}
use Rattle.tla_token.specs.declared.rule.Rule.TheVariants.{Arity, NeedsModule, Infinite}
use Rattle.pcal_tree.specs.Offences.{offence_if, first}
use Rattle.pcal_tree.specs.NameUses.{applied_offences}
use Rattle.algorithm_answer.specs.Joined.{joined}
use Rattle.declared_rules.specs.declared.using.Use.{Use}
use Rattle.declared_rules.specs.UsesTold.{use_seen}
use Rattle.declared_rules.proofs.UseSame.{all_three}
use Rattle.declared_rules.proofs.using.applied_offence.Goals as goal

pub returns-in-Standard : goal.returns-in-Standard
returns-in-Standard c =
    let at = c.args.place in
    all_three (offence_if (not (nat_eq c.in-Standard.arity c.args.arguments)) Arity at) (offence_if (not c.in-Standard.extended) NeedsModule at)
    (offence_if (c.in-Standard.infinite && not c.args.right) Infinite at) c.or_offence-found.result c.or_offence-found-in-Standard.result c.or_offence-in-Standard.result
    c.or_offence-found.ensures c.or_offence-found-in-Standard.ensures
    (c.or_offence-in-Standard.ensures ∙ ap (λ (b : Bool). joined c.or_offence-found-in-Standard.result (first (offence_if b Infinite at))) c.may_not_stand.ensures)
    ∙ ap (λ (u : Use). first (applied_offences (use_seen u) c.args.arguments c.args.right at)) (sym c.in-Standard.is)
