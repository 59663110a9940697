-- Proves that the formula of one demand more is made.
use Rattle.std.proofs.Common.{◌∷◌, ◌++◌, [], List, length, map, take, sym, ap, ◌∙◌, subst}
use Rattle.std.proofs.lemmas.List.{map-append}
use Rattle.tla_tree.proofs.PoolNumbers.{Keeps-then}
use Rattle.written_names.specs.Units.{naming_of}
use Rattle.module_write.specs.declared.«module».Fairness.{Fairness}
use Rattle.module_write.specs.InMemory.{fairness_at, FairnessIn, AllFairnessIn}
use Rattle.fairness_lines.specs.DemandsAt.{asked_at, all_asked, DemandIn}
use Rattle.fairness_lines.specs.Asked.{Asked}
use Rattle.fairness_lines.specs.LinesOf.{line_for}
use Rattle.fairness_lines.proofs.TableRows.{map_taken}
use Rattle.fairness_lines.proofs.AskedLaws.{all_push, all_at}
use Rattle.fairness_lines.proofs.LineLaws.{lines_in}
use Rattle.module_write.proofs.InMemoryGrown.{fairness-kept}
use Rattle.fairness_lines.proofs.lines.lines.Goals as goal

pub loop-demand-preserved : goal.loop-demand-preserved
loop-demand-preserved c =
    let old = c.args.pool.now in
    let mid = c.loop-demand.pool in
    let new = c.line.new.pool in
    let kept = c.in_ok-line.ensures.kept in
    let f = naming_of c.args.draft.now.naming.now in
    let here = all_at (DemandIn (length old)) c.args.demands.now c.loop-demand.demand-index c.demand-item.result c.requires c.demand-item.is c.loop-demand-test.true in (
      Keeps-then old mid new c.loop-demand.invariant.0 kept,
      subst (λ (fs : List Fairness). AllFairnessIn (length new) fs) (sym c.in_ok-push.ensures.items)
          (all_push (FairnessIn (length new)) c.loop-demand.made.items c.in_ok-line.field-0 (lines_in mid new kept c.loop-demand.made.items c.loop-demand.invariant.1) c.in_ok-line.ensures.within),
      ap (λ (fs : List Fairness). map (fairness_at new) fs) c.in_ok-push.ensures.items
          ∙ map-append (fairness_at new) c.loop-demand.made.items (c.in_ok-line.field-0 ∷ [])
          ∙ (λ i. (fairness-kept mid new kept c.loop-demand.made.items c.loop-demand.invariant.1 ∙ c.loop-demand.invariant.2) i ++ c.in_ok-line.ensures.line old c.loop-demand.invariant.0 here i ∷ [])
          ∙ sym (ap (λ (xs : List Asked). map (line_for f) xs) (map_taken (asked_at old) c.args.demands.now c.loop-demand.demand-index c.demand-item.result c.demand-item.is c.loop-demand-test.true)
          ∙ map-append (line_for f) (all_asked old (take c.loop-demand.demand-index c.args.demands.now)) (asked_at old c.demand-item.result ∷ [])),
    )
