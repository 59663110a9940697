-- Proves that a reserved name of a unit is found.
use Rattle.std.proofs.Common.{Bool, ap, ◌∙◌}
use Rattle.tla_token.specs.declared.rule.Rule.TheVariants.{Reserved}
use Rattle.tla_token.specs.Words.{is_own}
use Rattle.pcal_tree.specs.Offences.{offence_if}
use Rattle.declared_rules.proofs.JoinLaws.{joins_as}
use Rattle.declared_rules.proofs.found.Found.passed_name.Goals as goal

pub returns : goal.returns
returns c = λ ts.
    joins_as ts c.args.self.now c.offence.new.self _ _ (ap (λ (b : Bool). offence_if b Reserved c.args.place) (c.is_own.ensures ∙ ap is_own c.bytes.ensures)) (c.offence.ensures.joins ts)
