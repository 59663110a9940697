-- What is kept: the names of those that were passed are bound.
use Rattle.std.proofs.Common.{◌∷◌, [], take}
use Rattle.std.specs.List.{flat_map}
use Rattle.tla_tree.specs.Tree.{Word}
use Rattle.algorithm_limits.specs.DepthsIn.{Hides}
use Rattle.declared_rules.proofs.outside_words.bind_names.Given as goal

abbrev pub invariant-loop-name : goal.invariant-loop-name
invariant-loop-name l = Hides l.fn.bound l.bound (flat_map (λ (w : Word). w ∷ []) (take l.name-index l.names))
