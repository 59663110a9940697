-- Proves that a sign whose module isn't extended is found.
use Rattle.std.proofs.Common.{Bool, not, sym, ap, ◌∙◌}
use Rattle.tla_token.specs.declared.rule.Rule.TheVariants.{NeedsModule}
use Rattle.tla_tree.specs.Tree.{strict}
use Rattle.tla_pool.specs.declared.form.Strict.{Strict}
use Rattle.tla_pool.specs.FormOf.{strict_of}
use Rattle.pcal_tree.specs.Offences.{offence_if}
use Rattle.declared_rules.specs.Finding.{sign_in}
use Rattle.declared_rules.proofs.JoinLaws.{joins_as}
use Rattle.declared_rules.proofs.found.Found.sign.Goals as goal

pub returns-in-Operator : goal.returns-in-Operator
returns-in-Operator c = λ ts.
    joins_as ts c.args.self.now c.offence.new.self _ _
    (ap (λ (b : Bool). offence_if (not b) NeedsModule c.args.place) c.has_operator.ensures ∙ ap (λ (s : Strict). sign_in c.args.self.now.modules (strict (strict_of s)) c.args.place) (sym c.in-Operator.is))
    (c.offence.ensures.joins ts)
