-- Proves that it is told whether labels are added at all.
use Rattle.std.proofs.Common.{ap}
use Rattle.pcal_tree.specs.declared.algorithm.Main.{Main}
use Rattle.pcal_tree.specs.InMemory.{main_at, algorithm_at}
use Rattle.pcal_tree.specs.Labelled.{is_alone}
use Rattle.added_labels.proofs.AddLaws.{added_if_forced, added_alone, not_added, none_typed}
use Rattle.added_labels.proofs.add.are_added.Goals as goal

pub returns-then-forced : goal.returns-then-forced
returns-then-forced c = λ ts. added_if_forced c.args.forced (algorithm_at ts c.args.algorithm.now) c.if-forced.true

pub returns-in-Alone : goal.returns-in-Alone
returns-in-Alone c = λ ts.
    added_alone c.args.forced ts c.args.algorithm.now _ c.if-forced.false (ap (λ (m : Main). is_alone (main_at ts m)) c.in-Alone.is) (none_typed ts c.args.algorithm.now c.labels.result (c.labels.ensures ts))

pub returns-in-Processes : goal.returns-in-Processes
returns-in-Processes c = λ ts. not_added c.args.forced ts c.args.algorithm.now c.if-forced.false (ap (λ (m : Main). is_alone (main_at ts m)) c.in-Processes.is)
