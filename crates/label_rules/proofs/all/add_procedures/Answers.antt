-- Proves that all that procedures offend is found.
use Rattle.std.proofs.Common.{sym, ◌∙◌, subst, arith}
use Rattle.tla_tree.proofs.PoolNumbers.{past_at}
use Rattle.pcal_tree.specs.declared.algorithm.Procedure.{Procedure}
use Rattle.pcal_tree.specs.InMemory.{procedure_at, past_procedure}
use Rattle.pcal_tree.specs.OffencesLabels.{of_procedure}
use Rattle.pcal_tree.specs.laws.MacroSummaries.{summary_effect}
use Rattle.label_steps.specs.KnownIn.{AreMacros}
use Rattle.label_rules.proofs.AddedLaws.{added_more, added_mapped}
use Rattle.label_rules.proofs.all.add_procedures.Goals as goal

pub add_procedure-requires-clause-inside : goal.add_procedure-requires-clause-inside
add_procedure-requires-clause-inside c =
    let less = past_at past_procedure c.args.list.now c.loop-one.one-index c.one-item.result c.one-item.is c.loop-one-test.true in omega (arith, less, c.requires.inside)

pub loop-one-preserved : goal.loop-one-preserved
loop-one-preserved c = record {
  loud = c.in_ok-add_procedure.ensures.loud;
  known = c.in_ok-add_procedure.ensures.known ∙ c.loop-one.invariant.known;
  told = λ ms k.
      added_more (λ (d : Procedure). of_procedure (summary_effect ms) (procedure_at c.args.pool.now d)) c.args.list.now c.loop-one.found.items c.add_procedure.new.found.items c.loop-one.one-index c.one-item.result c.one-item.is
      c.loop-one-test.true (c.in_ok-add_procedure.ensures.told ms (subst (λ z. AreMacros z ms) (sym c.loop-one.invariant.known) k))
      ∙ c.loop-one.invariant.told ms k;
}

pub returns-clause-told : goal.returns-clause-told
returns-clause-told c = λ ms k.
    added_mapped (of_procedure (summary_effect ms)) (procedure_at c.args.pool.now) c.args.list.now c.loop-one.one-index c.args.found.now.items c.loop-one.found.items c.loop-one-test.false (c.loop-one.invariant.told ms k)
