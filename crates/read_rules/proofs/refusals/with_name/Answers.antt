-- Proves that the first of what was found and of the offence of a name is found.
use Rattle.std.proofs.Common.{Bool, ap, ◌∙◌}
use Rattle.tla_token.specs.declared.rule.Rule.TheVariants.{DefinedStale}
use Rattle.pcal_tree.specs.Algorithm.{Name}
use Rattle.pcal_tree.specs.Offences.{offence_if, first}
use Rattle.algorithm_answer.specs.Joined.{joined}
use Rattle.read_rules.specs.RefusalsIn.{name_offence}
use Rattle.read_rules.proofs.refusals.with_name.Goals as goal

pub returns : goal.returns
returns c = λ ds a.
    c.or_offence.ensures
    ∙ ap (λ (t : Bool). joined c.args.so_far (first (offence_if t DefinedStale c.one.inside.place))) (c.meets-meets.ensures ds a)
    ∙ ap (λ (n : Name). joined c.args.so_far (first (name_offence ds c.args.after.now n))) c.one.view_is
