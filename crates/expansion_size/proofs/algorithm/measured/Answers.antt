-- Proves that what is left after all parts tells the size of the expansion.
use Rattle.std.proofs.Common.{map, List, ap, ◌∙◌}
use Rattle.tla_token.specs.Limits.{deepest_statement}
use Rattle.pcal_tree.specs.declared.algorithm.Macro.{Macro}
use Rattle.pcal_tree.specs.Algorithm as pure
use Rattle.pcal_tree.specs.InMemory.{declarations_at, definitions_at, procedure_at, main_at}
use Rattle.macro_expand.specs.Measured.{of_each, of_declared, of_procedure, of_main}
use Rattle.expansion_size.specs.Budget.{budget, calls}
use Rattle.expansion_size.specs.FramesIn.{newest_first}
use Rattle.expansion_size.proofs.AlgorithmLaws.{g, in_order}
use Rattle.expansion_size.proofs.algorithm.measured.Goals as goal

pub returns : goal.returns
returns c =
    let ts = c.args.pool.now in
    let a = c.args.algorithm.now in
    let out = g ts a in
    let globals = c.declared-globals.result in
    let definitions = c.defined-definitions.result in
    in_order ts a globals definitions c.procedures-bodies.result c.main.result
    (c.declared-globals.ensures deepest_statement ∙ (λ z. of_declared (budget out) (declarations_at ts (c.deref.ensures.value z)) deepest_statement (c.all.ensures z)))
    (c.defined-definitions.ensures deepest_statement
    ∙ (λ z. of_each (budget out) (λ (o : pure.Definition). (budget out).expression o.body) (definitions_at ts (c.deref-2.ensures.value z)) deepest_statement globals))
    (c.procedures-bodies.ensures
    ∙ (λ z. of_each (budget out) (of_procedure (budget out) (calls (newest_first ts (c.deref-3.ensures.value z)) out)) (map (procedure_at ts) (c.deref-4.ensures.value z)) deepest_statement definitions))
    (c.main.ensures ∙ ap (λ (ms : List Macro). of_main (budget out) (calls (newest_first ts ms) out) (main_at ts a.main) deepest_statement c.procedures-bodies.result) c.deref-5.ensures.value)
