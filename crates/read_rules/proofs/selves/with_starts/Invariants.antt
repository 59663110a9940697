-- What is kept: the first of what was found and of the offences of the declarations that were passed.
use Rattle.pcal_tree.specs.InMemory.{declaration_at}
use Rattle.pcal_tree.specs.OffencesSelf.{selves}
use Rattle.read_rules.proofs.FoundLaws.{Found}
use Rattle.read_rules.proofs.SelfLaws.{used_by_start}
use Rattle.read_rules.proofs.selves.with_starts.Given as goal

abbrev pub invariant-loop-i : goal.invariant-loop-i
invariant-loop-i l = Found (λ d. selves (used_by_start (declaration_at l.pool d))) l.list l.i l.fn.so_far l.found
