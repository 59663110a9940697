-- Proves that a label of the translation is found.
use Rattle.std.proofs.Common.{Bool, ◌∷◌, [], codes, ap, ◌∙◌}
use Rattle.tla_token.specs.declared.rule.Rule.TheVariants.{Reserved}
use Rattle.tla_token.specs.Signs.{is_among}
use Rattle.pcal_tree.specs.Offences.{offence_if}
use Rattle.declared_rules.specs.Parts.{labels}
use Rattle.declared_rules.specs.Finding.{end_label}
use Rattle.declared_rules.proofs.JoinLaws.{joins_as, adds_one}
use Rattle.declared_rules.proofs.found.Found.label.Goals as goal

pub returns : goal.returns
returns c = λ ts.
    adds_one ts c.args.self.now c.offence.new.self (labels c.args.name.now)
    (joins_as ts c.args.self.now c.offence.new.self _ _
    (ap (λ (b : Bool). offence_if b Reserved c.name.inside.place) (c.is_end.ensures ∙ ap (is_among (codes "Done" ∷ codes "Error" ∷ [])) c.bytes.ensures)
    ∙ ap end_label c.name.view_is)
    (c.offence.ensures.joins ts))
