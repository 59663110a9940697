-- Proves that the first offence against the rules on labels is found.
use Rattle.std.proofs.Common.{reverse, sym, ◌∙◌}
use Rattle.pcal_tree.specs.InMemory.{algorithm_at}
use Rattle.pcal_tree.specs.OffencesSteps.{call_effect}
use Rattle.algorithm_answer.specs.Joined.{joined}
use Rattle.label_jumps.proofs.PartedLaws.{parted}
use Rattle.label_steps.proofs.labels.label_refusal.Goals as goal

pub returns : goal.returns
returns c =
    let ts = c.args.pool.now in
    let a = algorithm_at ts c.args.algorithm.now in
    c.least.ensures ∙ (λ i. joined (c.in_ok-steps.ensures i) (c.in_ok-misplaced.ensures ts i)) ∙ sym (parted (call_effect (reverse a.macros)) a)
