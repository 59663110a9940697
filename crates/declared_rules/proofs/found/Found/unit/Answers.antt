-- Proves that what a unit offends is found.
use Rattle.std.proofs.Common.{Bool, [], ◌∷◌, codes, ap, ◌∙◌}
use Rattle.tla_token.specs.declared.rule.Rule.TheVariants.{OutsideVariable}
use Rattle.std.specs.List.{flat_map}
use Rattle.tla_token.specs.Signs.{is_among}
use Rattle.pcal_tree.specs.Offences.{offence_if}
use Rattle.declared_rules.specs.Titles.{passed_offences}
use Rattle.declared_rules.proofs.JoinLaws.{joins_as, joins_then}
use Rattle.declared_rules.proofs.found.Found.unit.Goals as goal

pub returns : goal.returns
returns c = λ ts.
    joins_then ts c.args.self.now c.passed_names.new.self c.offence.new.self _ _
    (joins_as ts c.args.self.now c.passed_names.new.self _ _ (ap (flat_map (passed_offences c.args.unit.now.place)) c.deref.ensures.value) (c.passed_names.ensures ts))
    (joins_as ts c.passed_names.new.self c.offence.new.self _ _
    (ap (λ (b : Bool). offence_if b OutsideVariable c.args.unit.now.place) (c.is_declaring.ensures ∙ ap (is_among (codes "VARIABLE" ∷ codes "VARIABLES" ∷ [])) c.bytes.ensures)) (c.offence.ensures.joins ts))
