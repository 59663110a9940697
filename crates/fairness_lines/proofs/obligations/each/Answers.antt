-- Proves that the obligation of one demand more is made.
use Rattle.std.proofs.Common.{◌∷◌, ◌++◌, [], List, map, take, take_all, sym, ap, ◌∙◌}
use Rattle.std.proofs.lemmas.List.{map-append}
use Rattle.pcal_tree.specs.Algorithm.{routines}
use Rattle.pcal_tree.specs.InMemory.{algorithm_at}
use Rattle.written_names.specs.Units.{naming_of}
use Rattle.fairness_lines.specs.declared.obligations.Obligation.{Obligation}
use Rattle.fairness_lines.specs.declared.demands.Demand.{Demand}
use Rattle.fairness_lines.specs.Asked.{Asked}
use Rattle.fairness_lines.specs.DemandsAt.{asked_at, all_asked}
use Rattle.fairness_lines.specs.LinesOf.{obligation_for, every_in, obligation_seen}
use Rattle.fairness_lines.proofs.TableRows.{map_taken}
use Rattle.fairness_lines.proofs.obligations.each.Goals as goal

pub loop-demand-preserved : goal.loop-demand-preserved
loop-demand-preserved c = λ ts.
    let f = naming_of c.args.draft.now.naming.now in
    let every = every_in f (routines (algorithm_at ts c.args.draft.now.algorithm.now)) in
    ap (λ (os : List Obligation). map obligation_seen os) c.in_ok-push.ensures.items
    ∙ map-append obligation_seen c.loop-demand.made.items (c.in_ok-of_demand.field-0 ∷ [])
    ∙ (λ i. c.loop-demand.invariant ts i ++ c.in_ok-of_demand.ensures ts i ∷ [])
    ∙ sym (ap (λ (xs : List Asked). map (obligation_for f every) xs) (map_taken (asked_at ts) c.args.demands.now c.loop-demand.demand-index c.demand-item.result c.demand-item.is c.loop-demand-test.true)
    ∙ map-append (obligation_for f every) (all_asked ts (take c.loop-demand.demand-index c.args.demands.now)) (asked_at ts c.demand-item.result ∷ []))

pub returns : goal.returns
returns c = λ ts.
    let f = naming_of c.args.draft.now.naming.now in
    let every = every_in f (routines (algorithm_at ts c.args.draft.now.algorithm.now)) in
    c.loop-demand.invariant ts
    ∙ ap (λ (ds : List Demand). map (obligation_for f every) (all_asked ts ds)) (take_all c.loop-demand.demand-index c.args.demands.now c.loop-demand-test.false)
