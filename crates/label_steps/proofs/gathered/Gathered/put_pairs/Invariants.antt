-- What is kept: what the pairs that were passed are is there too.
use Rattle.std.proofs.Common.{[], take}
use Rattle.std.specs.List.{flat_map}
use Rattle.tla_tree.specs.Pool.{trees_at}
use Rattle.pcal_tree.specs.laws.MacroSummaries.{argument, put_pair}
use Rattle.label_steps.specs.GatheredIn.{Adds}
use Rattle.label_steps.specs.PutIn.{pair_of}
use Rattle.label_steps.proofs.gathered.Gathered.put_pairs.Given as goal

abbrev pub invariant-loop-one : goal.invariant-loop-one
invariant-loop-one l = Adds l.known l.fn.self l.self [] (flat_map (λ p. put_pair (argument l.params (trees_at l.pool l.args)) (pair_of p)) (take l.one-index l.pairs))
