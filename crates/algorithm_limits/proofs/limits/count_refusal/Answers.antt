-- Proves that the first of all that is counted is found.
use Rattle.std.proofs.Common.{List, [], map, ap, ◌∙◌}
use Rattle.pcal_tree.specs.declared.algorithm.Macro.{Macro}
use Rattle.pcal_tree.specs.declared.algorithm.Definition.{Definition}
use Rattle.pcal_tree.specs.InMemory.{macro_at, definitions_at}
use Rattle.pcal_tree.specs.Offences.{first}
use Rattle.pcal_tree.specs.OffencesCounts.{long_chains, deep_definitions}
use Rattle.algorithm_answer.specs.Joined.{joined}
use Rattle.algorithm_limits.proofs.AllCounts.{counts_first}
use Rattle.algorithm_limits.proofs.limits.count_refusal.Goals as goal

pub returns : goal.returns
returns c =
    let labelled = c.least-labelled.ensures ∙ (λ i. joined (c.refusal.ensures i) (c.least.ensures i)) in
    let called = c.least-called.ensures ∙ (λ i. joined (c.refusal-2.ensures i) (labelled i)) in
    let run = c.least-run.ensures ∙ (λ i. joined (c.refusal-3.ensures i) (called i)) in
    c.least-2.ensures
    ∙ (λ i. joined (c.refusal-4.ensures i) (run i))
    ∙ counts_first c.args.pool.now c.args.algorithm.now c.variables.result c.processes.result c.procedures.result c.labels.result c.in_ok-chains.chains c.in_ok-definitions.definitions c.variables.ensures c.processes.ensures c.procedures.ensures
    (c.labels.ensures c.args.pool.now)
    (c.in_ok-chains.ensures c.args.pool.now ∙ ap (λ (ms : List Macro). first (long_chains [] (map (macro_at c.args.pool.now) ms))) c.deref.ensures.value)
    (c.in_ok-definitions.ensures ∙ ap (λ (ds : List Definition). first (deep_definitions [] (definitions_at c.args.pool.now ds))) c.deref-2.ensures.value)
