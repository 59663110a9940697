-- What is kept: the labels of those that were passed were met.
use Rattle.std.proofs.Common.{List, take}
use Rattle.tla_tree.specs.Tree.{Tree}
use Rattle.pcal_tree.specs.Algorithm.{Process}
use Rattle.pcal_tree.specs.InMemory.{process_at}
use Rattle.label_jumps.specs.Meeting.{Meets}
use Rattle.added_labels.proofs.TypedLaws.{Found}
use Rattle.added_labels.proofs.typed.in_processes.Given as goal

abbrev pub invariant-loop-i : goal.invariant-loop-i
invariant-loop-i l = (ts : List Tree) → Meets l.fn.met l.met (Found (process_at ts) (λ (x : Process). x.body) (take l.i l.list))
