-- Proves that a name is the only one of groups.
use Rattle.std.proofs.Common.{List, length, get_or, ap, sym, ◌∙◌, subst, ◌≡◌}
use Rattle.tla_tree.specs.Tree.{Name}
use Rattle.declared_rules.proofs.NameLaws.{only_one}
use Rattle.declared_rules.proofs.found.only_name.Goals as goal

pub returns : goal.returns
returns c =
    let n = c.index-names-0.result in
    let items = c.as_slice-names.ensures.value in
    only_one c.args.groups.now c.index-groups-0.result n c.if-groups-ne1.false c.index-groups-0.is (ap (λ (ns : List Name). length ns) (sym items) ∙ c.if-names-ne1.false)
    (subst (λ (ns : List Name). n ≡ get_or ns 0 n) items c.index-names-0.is)
