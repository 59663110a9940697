-- Proves that the first label that is missing in them is found.
use Rattle.std.proofs.Common.{List, ap, ◌∙◌}
use Rattle.pcal_tree.specs.declared.algorithm.Stmt.{Stmt}
use Rattle.pcal_tree.specs.declared.algorithm.Process.{Process}
use Rattle.pcal_tree.specs.Algorithm as tree
use Rattle.pcal_tree.specs.InMemory.{statements_at, process_at}
use Rattle.pcal_tree.specs.Offences.{first}
use Rattle.algorithm_answer.specs.Joined.{joined}
use Rattle.label_jumps.proofs.FoundLaws.{found_more, found_mapped}
use Rattle.label_steps.specs.MissingLabels.{due_in_body}
use Rattle.label_steps.proofs.due.with_processes.Goals as goal

pub loop-one-preserved : goal.loop-one-preserved
loop-one-preserved c = λ ts.
    found_more (λ (d : Process). due_in_body (statements_at ts d.body.items)) c.args.list.now c.loop-one.so_far c.with_body-so_far.result c.loop-one.one-index c.one-item.result c.one-item.is c.loop-one-test.true
    (c.with_body-so_far.ensures ts ∙ ap (λ (ys : List Stmt). joined c.loop-one.so_far (first (due_in_body (statements_at ts ys)))) c.deref.ensures.value)
    ∙ c.loop-one.invariant ts

pub returns : goal.returns
returns c = λ ts. found_mapped (λ (d : tree.Process). due_in_body d.body) (process_at ts) c.args.list.now c.loop-one.one-index c.args.found c.loop-one.so_far c.loop-one-test.false (c.loop-one.invariant ts)
