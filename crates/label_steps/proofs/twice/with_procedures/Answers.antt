-- Proves that the first variable that is assigned twice in them is found.
use Rattle.std.proofs.Common.{Some, None, [], sym, ◌∙◌, subst, arith}
use Rattle.tla_tree.proofs.PoolNumbers.{past_at}
use Rattle.pcal_tree.specs.declared.algorithm.Procedure.{Procedure}
use Rattle.pcal_tree.specs.Algorithm as tree
use Rattle.pcal_tree.specs.InMemory.{statements_at, procedure_at, past_procedure}
use Rattle.pcal_tree.specs.OffencesSteps.{procedure_effects}
use Rattle.pcal_tree.specs.laws.MacroSummaries.{summary_effect}
use Rattle.label_jumps.proofs.FoundLaws.{found_more, found_mapped}
use Rattle.label_steps.specs.KnownIn.{AreMacros}
use Rattle.label_steps.specs.StraightPaths.{straight_twice}
use Rattle.label_steps.proofs.twice.with_procedures.Goals as goal

pub with_procedure-requires : goal.with_procedure-requires
with_procedure-requires c =
    let less = past_at past_procedure c.args.list.now c.loop-i.i c.index-list-i.result c.index-list-i.is c.loop-i-test.true in omega (arith, less, c.requires)

pub loop-i-preserved : goal.loop-i-preserved
loop-i-preserved c = record {
  known = c.in_ok-so_far.ensures.known ∙ c.loop-i.invariant.known;
  first = λ ms k.
      found_more (λ (d : Procedure). straight_twice (procedure_effects (summary_effect ms) (procedure_at c.args.pool.now d)) (Some []) (statements_at c.args.pool.now d.body.items)) c.args.list.now c.loop-i.so_far c.in_ok-so_far.so_far c.loop-i.i
      c.index-list-i.result c.index-list-i.is c.loop-i-test.true (c.in_ok-so_far.ensures.first ms (subst (λ z. AreMacros z ms) (sym c.loop-i.invariant.known) k))
      ∙ c.loop-i.invariant.first ms k;
}

pub returns-clause-first : goal.returns-clause-first
returns-clause-first c = λ ms k.
    found_mapped (λ (d : tree.Procedure). straight_twice (procedure_effects (summary_effect ms) d) (Some []) d.body) (procedure_at c.args.pool.now) c.args.list.now c.loop-i.i None c.loop-i.so_far c.loop-i-test.false
    (c.loop-i.invariant.first ms k)
