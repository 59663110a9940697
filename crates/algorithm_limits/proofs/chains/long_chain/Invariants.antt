-- What is kept while chains of macros are looked at.
use Rattle.std.proofs.Common.{List, map, drop}
use Rattle.tla_tree.specs.Tree.{Tree}
use Rattle.pcal_tree.specs.InMemory.{macro_at}
use Rattle.algorithm_limits.proofs.CallWalks.{FoundChains}
use Rattle.algorithm_limits.proofs.chains.long_chain.Given as goal

abbrev pub invariant-loop-one : goal.invariant-loop-one
invariant-loop-one l = (ts : List Tree) → FoundChains l.chains l.found (map (macro_at ts) l.macros) (map (macro_at ts) (drop l.one-index l.macros))
