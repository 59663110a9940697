-- Proves that the first offence of all rules on names is found.
use Rattle.std.proofs.Common.{◌∙◌}
use Rattle.pcal_tree.specs.Algorithm as tree
use Rattle.pcal_tree.specs.InMemory.{algorithm_at}
use Rattle.tla_value.specs.Outside as pure
use Rattle.algorithm_answer.specs.Joined.{joined}
use Rattle.module_outside.specs.WholeAt.{outside_at}
use Rattle.name_rules.proofs.WholeLaws.{all_joined}
use Rattle.name_rules.proofs.refusal.checked_names.Goals as goal

pub returns-clause-refusal : goal.returns-clause-refusal
returns-clause-refusal c =
    let ts = c.args.pool.now in
    let a : tree.Algorithm = algorithm_at ts c.args.algorithm.now in
    let o : pure.Outside = outside_at ts c.args.outside.now in
    let last = c.least.ensures ∙ (λ i. joined (c.in_ok-stale.ensures i) (c.in_ok-selves.ensures i)) in
    let late = c.least-late.ensures ∙ (λ i. joined (c.in_ok-rebound.ensures i) (last i)) in
    let reads = c.least-2.ensures ∙ (λ i. joined (c.in_ok-read.ensures i) (late i)) in
    let more = c.least-3.ensures ∙ (λ i. joined (c.in_ok-declared.ensures.refusal i) (reads i)) in
    c.least-refusal.ensures ∙ (λ i. joined (c.in_ok-used.ensures i) (more i)) ∙ all_joined a o
