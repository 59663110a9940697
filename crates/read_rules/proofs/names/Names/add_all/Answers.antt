-- Proves that the names of another set are there besides.
use Rattle.std.proofs.Common.{List, ◌<◌, ◌≤◌, length, get_or, ap, ◌∙◌, subst}
use Rattle.tla_tree.specs.Tree.{Word}
use Rattle.read_rules.proofs.SetLaws.{joins_none, names_more, names_all}
use Rattle.read_rules.proofs.names.Names.add_all.Goals as goal

pub loop-name-init : goal.loop-name-init
loop-name-init c = joins_none c.args.self.now

pub loop-name-preserved : goal.loop-name-preserved
loop-name-preserved c =
    let i = c.loop-name.name-index in
    let x = c.name-item.result in
    let same = c.as_slice-name-items.ensures in
    names_more c.args.self.now c.loop-name.self c.add.new.self c.args.other.now i x (c.name-item.is ∙ ap (λ (ws : List Word). get_or ws i x) same) (subst (λ (ws : List Word). i < length ws) same c.loop-name-test.true)
    c.loop-name.invariant c.in_ok-add.ensures

pub returns : goal.returns
returns c = names_all c.args.self.now c.loop-name.self c.args.other.now c.loop-name.name-index (subst (λ (ws : List Word). length ws ≤ c.loop-name.name-index) c.as_slice-name-items.ensures c.loop-name-test.false) c.loop-name.invariant
