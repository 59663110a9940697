-- What is kept: no name that was passed is early.
use Rattle.std.proofs.Common.{◌≡◌, List, drop}
use Rattle.std.specs.List.{list_any}
use Rattle.tla_tree.specs.Tree.{Word}
use Rattle.read_rules.specs.Levels.{Levels}
use Rattle.read_rules.specs.EarlyReads.{is_early}
use Rattle.read_rules.specs.Order.{Knows}
use Rattle.read_rules.proofs.order.are_early.Given as goal

abbrev pub invariant-loop-one : goal.invariant-loop-one
invariant-loop-one l = (all : List Word) (ls : Levels) (before : List Word) → Knows l.known all ls before
    → list_any (is_early all ls before l.count) (drop l.one-index l.names) ≡ list_any (is_early all ls before l.count) l.names
