-- Proves that an argument that begins with no name offends as no variable.
use Rattle.tla_token.specs.declared.rule.Rule.TheVariants.{NotVariable}
use Rattle.pcal_tree.specs.Offences.{offence}
use Rattle.name_rules.proofs.found.Found.not_variable.Goals as goal

pub returns : goal.returns
returns c = c.refuse.ensures (offence NotVariable c.args.place) c.or_offence.ensures
