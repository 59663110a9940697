-- What is kept: the names that were passed are added.
use Rattle.std.proofs.Common.{List, [], ◌∷◌, take}
use Rattle.std.specs.List.{flat_map}
use Rattle.tla_tree.specs.Tree.{Tree}
use Rattle.pcal_tree.specs.declared.algorithm.Bind.{Bind}
use Rattle.declared_rules.specs.Parts.{bind_name}
use Rattle.declared_rules.specs.Met.{Adds}
use Rattle.declared_rules.proofs.met.Met.bind_names.Given as goal

abbrev pub invariant-loop-bind : goal.invariant-loop-bind
invariant-loop-bind l = (ts : List Tree) → Adds ts l.fn.self l.self (flat_map (λ (b : Bind). (bind_name b).word ∷ []) (take l.bind-index l.binds))
