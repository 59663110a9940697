-- Proves that names are there besides.
use Rattle.std.proofs.Common.{List, [], ◌∷◌, sym, ap, ◌∙◌, subst}
use Rattle.indexmap.specs.IndexSet.{insert_key}
use Rattle.tla_tree.specs.Tree.{Word}
use Rattle.algorithm_limits.proofs.Tables.{equal}
use Rattle.read_rules.specs.Joins.{Joins}
use Rattle.read_rules.proofs.SetLaws.{joins_none, joins_one, names_more, names_all}
use Rattle.read_rules.proofs.names.add_copies.Goals as goal

pub loop-name-init : goal.loop-name-init
loop-name-init c = joins_none c.args.set.now.keys

pub loop-name-preserved : goal.loop-name-preserved
loop-name-preserved c =
    let now = c.loop-name.set.keys in
    let x = c.name-item.result in
    names_more c.args.set.now.keys now c.insert.new.self.keys c.args.names.now c.loop-name.name-index x c.name-item.is c.loop-name-test.true c.loop-name.invariant
    (subst (λ (ks : List Word). Joins now ks (x ∷ [])) (sym (c.in_ok-insert.ensures.keys ∙ ap (insert_key equal now) c.in_ok-copied.ensures)) (joins_one now x))

pub returns : goal.returns
returns c = names_all c.args.set.now.keys c.loop-name.set.keys c.args.names.now c.loop-name.name-index c.loop-name-test.false c.loop-name.invariant
