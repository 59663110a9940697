-- What is kept: those that are left decide.
use Rattle.std.proofs.Common.{◌≡◌, List, drop}
use Rattle.tla_tree.specs.Tree.{Tree}
use Rattle.pcal_tree.specs.InMemory.{declarations_at}
use Rattle.module_formulas.specs.Unset.{some_unset}
use Rattle.module_formulas.proofs.model_values.any_unset.Given as goal

abbrev pub invariant-loop-one : goal.invariant-loop-one
invariant-loop-one l = (ts : List Tree) → some_unset (declarations_at ts (drop l.one-index l.list)) ≡ some_unset (declarations_at ts l.list)
