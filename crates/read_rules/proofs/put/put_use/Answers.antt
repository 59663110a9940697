-- Proves that an argument is put into a use.
use Rattle.std.proofs.Common.{◌≡◌, List, [], ◌∷◌, ◌++◌, OnOk, sym, ap, ◌∙◌, subst}
use Rattle.tla_tree.specs.Tree.{Name}
use Rattle.tla_tree.specs.Pool.{trees_at}
use Rattle.pcal_tree.specs.laws.MacroSpots as spots
use Rattle.pcal_tree.specs.laws.MacroSummaries.{argument}
use Rattle.read_rules.specs.UsesIn.{of_kind, uses_of}
use Rattle.read_rules.proofs.PutLaws.{kept_use}
use Rattle.read_rules.proofs.put.put_use.Goals as goal

pub returns-in-None : goal.returns-in-None
returns-in-None c =
    let ps = c.args.params.now in
    let ts = trees_at c.args.pool.now c.args.args.now in
    subst (λ (us : List spots.Use). OnOk c.add_use.result (uses_of c.add_use.new.list.items ≡ uses_of c.args.list.now.items ++ us))
    (ap (λ (n : Name). of_kind c.args.one.now.kind n ∷ []) c.name.view_is
    ∙ sym (kept_use ps ts c.args.one.now (ap (λ (n : Name). argument ps ts n.word) (sym c.name.view_is) ∙ sym (c.in-None.ensures c.args.pool.now))))
    c.add_use.ensures
