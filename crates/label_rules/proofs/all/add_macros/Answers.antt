-- Proves that all that macros offend is found.
use Rattle.std.proofs.Common.{◌∙◌, arith}
use Rattle.tla_tree.proofs.PoolNumbers.{past_at}
use Rattle.pcal_tree.specs.declared.algorithm.Macro.{Macro}
use Rattle.pcal_tree.specs.InMemory.{macro_at, past_macro}
use Rattle.pcal_tree.specs.OffencesLabels.{of_macro}
use Rattle.label_rules.proofs.AddedLaws.{added_more, added_mapped}
use Rattle.label_rules.proofs.all.add_macros.Goals as goal

pub add_macro-requires-clause-inside : goal.add_macro-requires-clause-inside
add_macro-requires-clause-inside c =
    let less = past_at past_macro c.args.list.now c.loop-one.one-index c.one-item.result c.one-item.is c.loop-one-test.true in omega (arith, less, c.requires.inside)

pub loop-one-preserved : goal.loop-one-preserved
loop-one-preserved c = λ ms k.
    added_more (λ (d : Macro). of_macro (macro_at c.args.pool.now d)) c.args.list.now c.loop-one.found.items c.add_macro.new.found.items c.loop-one.one-index c.one-item.result c.one-item.is c.loop-one-test.true
    (c.in_ok-add_macro.ensures ms k)
    ∙ c.loop-one.invariant ms k

pub returns : goal.returns
returns c = λ ms k. added_mapped of_macro (macro_at c.args.pool.now) c.args.list.now c.loop-one.one-index c.args.found.now.items c.loop-one.found.items c.loop-one-test.false (c.loop-one.invariant ms k)
