-- Proves that one more name of a list is looked at.
use Rattle.declared_rules.proofs.JoinLaws.{on_ok}
use Rattle.declared_rules.proofs.NameLaws.{once_adds}
use Rattle.declared_rules.proofs.found.Found.once.Goals as goal

pub returns : goal.returns
returns c =
    on_ok c.add.result
    (λ h. once_adds c.args.self.now c.declares.new.self c.offence.new.self c.add.new.self c.args.name.now c.name.inside.name c.name.inside.place c.has-repeated.result c.name.view_is c.declares.ensures.adds c.declares.ensures.seen
    c.has-repeated.ensures c.offence.ensures.joins c.offence.ensures.seen h)
    c.add.ensures
