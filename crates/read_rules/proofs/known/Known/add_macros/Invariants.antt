-- What is kept: the macros that were passed are known.
use Rattle.std.proofs.Common.{List, [], map, take, reverse}
use Rattle.pcal_tree.specs.Algorithm.{Procedure}
use Rattle.pcal_tree.specs.InMemory.{macro_at}
use Rattle.read_rules.specs.KnownIn.{Knows}
use Rattle.read_rules.specs.Pruned.{macros_pruned}
use Rattle.read_rules.specs.WantedIn.{wants}
use Rattle.read_rules.proofs.known.Known.add_macros.Given as goal

abbrev pub invariant-loop-one : goal.invariant-loop-one
invariant-loop-one l = (ps : List Procedure) → Knows l.fn.self [] ps → Knows l.self (macros_pruned (wants l.wanted) ps (reverse (map (macro_at l.pool) (take l.one-index l.macros)))) ps
