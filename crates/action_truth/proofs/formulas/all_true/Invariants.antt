-- What the loop keeps: the expressions that are left tell it.
use Rattle.std.proofs.Common.{◌≡◌, map, drop}
use Rattle.tla_tree.specs.Pool.{at}
use Rattle.tla_value.specs.Limits.{bounded}
use Rattle.module_tree.specs.ModuleTruth.{all_hold}
use Rattle.action_truth.specs.Pairs.{env_at}
use Rattle.action_truth.proofs.formulas.all_true.Given as goal

abbrev pub invariant-loop-e : goal.invariant-loop-e
invariant-loop-e l =
    let env = env_at l.pair l.bound in
    let ts = l.pair.asked.pool.now in
    all_hold bounded env (map (at ts) (drop l.e-index l.list)) ≡ all_hold bounded env (map (at ts) l.list)
