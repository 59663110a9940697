-- Proves that one more name is bound.
use Rattle.std.proofs.Common.{List, [], ◌∷◌, ◌++◌, sym, ap, ◌∙◌, subst}
use Rattle.indexmap.specs.IndexSet.{insert_key}
use Rattle.tla_tree.specs.Tree.{Word}
use Rattle.algorithm_limits.specs.DepthsIn.{Hides}
use Rattle.algorithm_limits.proofs.Tables.{equal}
use Rattle.algorithm_limits.proofs.BoundLemmas.{many_hides}
use Rattle.algorithm_limits.proofs.bound.Bound.add.Goals as goal

pub returns-in_ok-insert : goal.returns-in_ok-insert
returns-in_ok-insert c =
    let few = c.self.inside.few.items in
    let many = c.self.inside.many.keys in
    let x = c.args.name.now in
    let keys = c.in_ok-insert.ensures.keys ∙ ap (λ (y : Word). insert_key equal many y) c.in_ok-copied-2.ensures in
    subst (λ (old : List Word). Hides old (few ++ c.insert.new.self.keys) (x ∷ [])) c.self.view_is
    (subst (λ (ks : List Word). Hides (few ++ many) (few ++ ks) (x ∷ [])) (sym keys) (many_hides few many x))
