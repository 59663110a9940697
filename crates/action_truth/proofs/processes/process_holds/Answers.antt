-- Proves what Next says of one process.
use Rattle.std.proofs.Common.{List, map, filter, Ok, sym, ap, subst, ◌∙◌}
use Rattle.tla_tree.specs.Pool.{at}
use Rattle.tla_value.specs.Limits.{bounded}
use Rattle.module_tree.specs.ProcessPart.{cases_for, all_for}
use Rattle.module_tree.specs.Ways.{is_procedure, steps_of, own_steps}
use Rattle.module_write.specs.declared.«module».Way.{Way}
use Rattle.module_write.specs.InMemory.{ways_at}
use Rattle.value_forms.specs.Gives.{Stops}
use Rattle.value_forms.proofs.StopLaws.{tells_err}
use Rattle.action_truth.specs.AskedOf.{next_ways}
use Rattle.action_truth.specs.Pairs.{scope_at, all_acts}
use Rattle.action_truth.proofs.CaseLaws.{first_stops, second_stops, both_found}
use Rattle.action_truth.proofs.processes.process_holds.Goals as goal

pub returns-in_err-mine : goal.returns-in_err-mine
returns-in_err-mine c =
    let p = c.args.pair.now in
    let ts = p.asked.pool.now in
    let k = c.in_err-mine.field-0.0 in
    let sets = ap (map (at ts)) c.deref-2.ensures.value ∙ c.in_ok-own.ensures.sets in
    tells_err c.from_residual-in_err-mine.result k _ c.from_residual-in_err-mine.ensures
    (first_stops k _ (all_for (all_acts p) c.args.who.now (filter is_procedure (steps_of (next_ways p.asked))))
    (subst (Stops k) (λ i. cases_for bounded (scope_at p) (all_acts p) c.args.who.now (own_steps (ways_at ts (c.deref.ensures.value i))) (sets i)) c.in_err-mine.ensures))

pub returns-in_err-shared : goal.returns-in_err-shared
returns-in_err-shared c =
    let p = c.args.pair.now in
    let ts = p.asked.pool.now in
    let k = c.in_err-shared.field-0.0 in
    let sets = ap (map (at ts)) c.deref-2.ensures.value ∙ c.in_ok-own.ensures.sets in
    tells_err c.from_residual-in_err-shared.result k _ c.from_residual-in_err-shared.ensures
    (second_stops k c.in_ok-mine.mine _ (all_for (all_acts p) c.args.who.now (filter is_procedure (steps_of (next_ways p.asked))))
    (sym (λ i. cases_for bounded (scope_at p) (all_acts p) c.args.who.now (own_steps (ways_at ts (c.deref.ensures.value i))) (sets i)) ∙ c.in_ok-mine.ensures)
    (subst (Stops k) (ap (λ (ys : List Way). all_for (all_acts p) c.args.who.now (filter is_procedure (steps_of (ways_at ts ys)))) c.deref-3.ensures.value) c.in_err-shared.ensures))

pub returns : goal.returns
returns c =
    let p = c.args.pair.now in
    let ts = p.asked.pool.now in
    let sets = ap (map (at ts)) c.deref-2.ensures.value ∙ c.in_ok-own.ensures.sets in
    both_found c.in_ok-mine.mine c.in_ok-shared.shared _ _
    (sym (λ i. cases_for bounded (scope_at p) (all_acts p) c.args.who.now (own_steps (ways_at ts (c.deref.ensures.value i))) (sets i)) ∙ c.in_ok-mine.ensures)
    (sym (ap (λ (ys : List Way). all_for (all_acts p) c.args.who.now (filter is_procedure (steps_of (ways_at ts ys)))) c.deref-3.ensures.value) ∙ c.in_ok-shared.ensures)
    ∙ ap Ok (sym c.or_found.ensures)
