-- Proves that an offence is found.
use Rattle.std.proofs.Common.{refl}
use Rattle.tla_token.specs.declared.rule.Rule.TheVariants.{Rebind}
use Rattle.pcal_tree.specs.Offences.{offence_if}
use Rattle.declared_rules.proofs.LeafLaws.{gains_first}
use Rattle.declared_rules.proofs.bind_walk.Walk.offence.Goals as goal

pub returns : goal.returns
returns c = gains_first c.args.self.now _ (offence_if c.args.is_offence Rebind c.args.place) refl refl c.or_offence-self.ensures
