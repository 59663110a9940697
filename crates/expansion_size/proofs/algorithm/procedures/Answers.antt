-- Proves that each procedure counts.
use Rattle.std.proofs.Common.{ap, ◌∙◌, arith}
use Rattle.tla_token.specs.Limits.{deepest_statement}
use Rattle.tla_tree.proofs.PoolNumbers.{past_at}
use Rattle.pcal_tree.specs.InMemory.{declarations_at, statements_at, procedure_at, past_procedure, past_declarations, past_statements}
use Rattle.macro_expand.specs.Measured.{of_declared, of_procedure}
use Rattle.expansion_size.specs.Budget.{budget, calls}
use Rattle.expansion_size.specs.FramesIn.{put_by, newest_first, after_all}
use Rattle.expansion_size.proofs.AlgorithmLaws.{each_more}
use Rattle.expansion_size.proofs.algorithm.procedures.Goals as goal

pub declared-params-requires-clause-there : goal.declared-params-requires-clause-there
declared-params-requires-clause-there c =
    let past = past_at past_procedure c.args.list.now c.loop-one.one-index c.one-item.result c.one-item.is c.loop-one-test.true in omega (arith, past, ap past_declarations c.deref.ensures.value, c.requires.there)

pub routine-so_far-requires-clause-variables : goal.routine-so_far-requires-clause-variables
routine-so_far-requires-clause-variables c =
    let past = past_at past_procedure c.args.list.now c.loop-one.one-index c.one-item.result c.one-item.is c.loop-one-test.true in omega (arith, past, ap past_declarations c.deref-in-loop-one.ensures.value, c.requires.there)

pub routine-so_far-requires-clause-body : goal.routine-so_far-requires-clause-body
routine-so_far-requires-clause-body c =
    let past = past_at past_procedure c.args.list.now c.loop-one.one-index c.one-item.result c.one-item.is c.loop-one-test.true in omega (arith, past, ap past_statements c.deref-in-loop-one-2.ensures.value, c.requires.there)

pub loop-one-preserved : goal.loop-one-preserved
loop-one-preserved c =
    let ts = c.args.pool.now in
    let ms = c.args.macros.now in
    let f = c.args.frames.now in
    let g = put_by ts f in
    each_more g (of_procedure (budget g) (calls (newest_first ts ms) g)) (procedure_at ts) c.args.list.now c.loop-one.one-index deepest_statement c.one-item.result c.loop-one.so_far c.routine-so_far.result c.one-item.is c.loop-one-test.true
    (c.routine-so_far.ensures
    ∙ (λ z. after_all ts ms f (statements_at ts (c.deref-in-loop-one-2.ensures.value z)) deepest_statement
    (of_declared (budget g) (declarations_at ts (c.deref-in-loop-one.ensures.value z)) deepest_statement (c.declared-params.ensures deepest_statement z)))
    ∙ ap (λ ps. after_all ts ms f (statements_at ts c.one-item.result.body.items) deepest_statement
    (of_declared (budget g) (declarations_at ts c.one-item.result.variables.items) deepest_statement (of_declared (budget g) (declarations_at ts ps) deepest_statement c.loop-one.so_far))) c.deref.ensures.value)
    ∙ c.loop-one.invariant
