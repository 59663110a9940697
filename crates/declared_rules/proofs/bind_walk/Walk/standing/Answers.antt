-- Proves that a name is looked at for which other text may be put in.
use Rattle.std.proofs.Common.{sym, ◌∙◌, subst}
use Rattle.tla_tree.specs.Tree.{Word}
use Rattle.pcal_tree.specs.OffencesRebind.{brought, rebound_all}
use Rattle.declared_rules.specs.Telling.{Gains}
use Rattle.declared_rules.proofs.LeafLaws.{open_standing}
use Rattle.declared_rules.proofs.bind_walk.Walk.standing.Goals as goal

pub returns-in_ok-under_bound : goal.returns-in_ok-under_bound
returns-in_ok-under_bound c = λ K.
    open_standing c.args.sight.now K c.args.self.now c.keep.new.self c.under_bound.new.self c.args.name.now (sym c.lets-lets.ensures ∙ c.if-lets.true)
    (subst (λ (w : Word). Gains c.args.self.now c.keep.new.self (λ ms s. rebound_all ms s (brought s w))) c.in_ok-copied.ensures c.in_ok-keep.ensures) c.in_ok-under_bound.ensures
