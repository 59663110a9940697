-- What is kept: those that were passed are made.
use Rattle.std.proofs.Common.{take}
use Rattle.tla_tree.specs.Pool.{Keeps}
use Rattle.pcal_tree.specs.InMemory.{past_number}
use Rattle.running.specs.Prepared.{names_put, own_put}
use Rattle.running.proofs.MadeOnto.{Made}
use Rattle.running.proofs.Members.{number_before, numbers_twice}
use Rattle.running.proofs.grafts.expressions.Given as goal

abbrev pub invariant-loop-i : goal.invariant-loop-i
invariant-loop-i l = Keeps l.fn.pool l.pool × Made past_number number_before (numbers_twice (own_put l.places.own) (names_put l.places.local)) l.fn.pool l.pool l.made.items (take l.i l.list)
