-- What is kept: those that were passed are made.
use Rattle.std.proofs.Common.{take}
use Rattle.tla_tree.specs.Pool.{Keeps}
use Rattle.pcal_tree.specs.InMemory.{past_assignment}
use Rattle.running.specs.Prepared.{names_put, own_put}
use Rattle.running.proofs.MadeOnto.{Made}
use Rattle.running.proofs.Members.{assignment_before, assignments_twice}
use Rattle.running.proofs.grafts.assignments.Given as goal

abbrev pub invariant-loop-one : goal.invariant-loop-one
invariant-loop-one l = Keeps l.fn.pool l.pool × Made past_assignment assignment_before (assignments_twice (own_put l.places.own) (names_put l.places.local)) l.fn.pool l.pool l.made.items (take l.one-index l.list)
