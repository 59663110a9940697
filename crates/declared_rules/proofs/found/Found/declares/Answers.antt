-- Proves that a reserved name is found.
use Rattle.std.proofs.Common.{◌||◌, Bool, ap, ◌∙◌}
use Rattle.tla_token.specs.declared.rule.Rule.TheVariants.{Reserved}
use Rattle.tla_token.specs.Words.{is_own}
use Rattle.tla_tree.specs.Tree.{Word}
use Rattle.pcal_tree.specs.Offences.{offence_if}
use Rattle.module_outside.specs.ModulesIn.{is_standard_in}
use Rattle.declared_rules.specs.Parts.{declares}
use Rattle.declared_rules.specs.Finding.{reserved_in}
use Rattle.declared_rules.proofs.JoinLaws.{joins_as, adds_one}
use Rattle.declared_rules.proofs.found.Found.declares.Goals as goal

pub returns-clause-adds : goal.returns-clause-adds
returns-clause-adds c = λ ts.
    adds_one ts c.args.self.now c.offence.new.self (declares c.args.name.now)
    (joins_as ts c.args.self.now c.offence.new.self _ _
    (ap (λ (b : Bool). offence_if b Reserved c.name.inside.place) (c.is_reserved-reserved.ensures ∙ ap (λ (w : Word). is_own w || is_standard_in c.args.self.now.modules w) c.bytes.ensures)
    ∙ ap (reserved_in c.args.self.now.modules) c.name.view_is)
    (c.offence.ensures.joins ts))
