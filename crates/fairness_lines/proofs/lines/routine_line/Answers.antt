-- Proves that the formula for the steps of a routine is made of its parts.
use Rattle.std.proofs.Common.{ap, ◌∙◌}
use Rattle.tla_tree.proofs.PoolNumbers.{Keeps-then}
use Rattle.pcal_tree.specs.Takers.{Takers}
use Rattle.written_names.specs.Units.{naming_of}
use Rattle.fairness.specs.FairnessLines.{over_of}
use Rattle.fairness_lines.specs.LinesOf.{call_of}
use Rattle.fairness_lines.proofs.LineLaws.{takers_kept}
use Rattle.module_write.proofs.InMemoryGrown.{maybe-kept}
use Rattle.fairness_lines.proofs.lines.routine_line.Goals as goal

pub returns-clause-line : goal.returns-clause-line
returns-clause-line c = λ ts.
    let old = c.args.pool.now in
    let mid = c.left_out.new.pool in
    let new = c.routine_call.new.pool in
    let all = Keeps-then old mid new c.in_ok-test.ensures.kept c.in_ok-action.ensures.kept in
    let over = c.in_ok-over.ensures.over new ∙ ap over_of (takers_kept old new all c.args.owner c.requires) in
    let test = maybe-kept mid new c.in_ok-action.ensures.kept c.in_ok-test.test c.in_ok-test.ensures.within ∙ c.in_ok-test.ensures.guard ts in
    let action = c.in_ok-action.ensures.call
    ∙ ap (λ (t : Takers). call_of t c.args.owner.number c.args.unit ((naming_of c.args.draft.now.naming.now).title c.args.unit)) (takers_kept old mid c.in_ok-test.ensures.kept c.args.owner c.requires) in
    λ i. record { over = over i; strong = c.args.owner.strong; guard = test i; action = action i }
