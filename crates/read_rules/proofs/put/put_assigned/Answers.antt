-- Proves that arguments are put in for what was assigned.
use Rattle.std.proofs.Common.{List, refl, subst}
use Rattle.tla_tree.specs.Tree.{Word}
use Rattle.tla_tree.specs.Pool.{trees_at}
use Rattle.read_rules.specs.Joins.{Joins}
use Rattle.read_rules.specs.PutIn.{words_put}
use Rattle.read_rules.specs.Sets.{trail_of}
use Rattle.read_rules.proofs.PutLaws.{assigned_put}
use Rattle.read_rules.proofs.put.put_assigned.Goals as goal

pub returns : goal.returns
returns c =
    let ps = c.args.params.now in
    let ts = trees_at c.args.pool.now c.args.args.now in
    let b = c.in_ok-into.into in
    assigned_put ps ts (trail_of c.args.before.now) b (record { earlier = b.earlier; names = c.put_names.new.names }) c.args.from.now c.in_ok-into.ensures
    (subst (λ (xs : List Word). Joins b.names c.put_names.new.names (words_put ps ts xs)) c.as_slice.ensures c.in_ok-put_names.ensures) refl
