-- Proves that processes are put together as the definition says.
use Rattle.std.proofs.Common.{◌≡◌, List, [], map, Vec, Global, Ok, Err, ap, sym, subst, ◌∙◌}
use Rattle.tla_tree.specs.Tree.{Tree}
use Rattle.tla_value.specs.Value.{Value, set, Outcome}
use Rattle.tla_value.specs.Order.{set_from}
use Rattle.tla_value.specs.Limits.{bounded}
use Rattle.value_forms.specs.Gives.{Stops}
use Rattle.value_forms.proofs.StopLaws.{err_is, answers_tell}
use Rattle.pcal_tree.specs.declared.algorithm.Algorithm.{Algorithm}
use Rattle.pcal_tree.specs.Program as pure
use Rattle.pcal_tree.specs.InMemory.{process_at}
use Rattle.pcal_tree.specs.Processes.{apart, last_place, sorted}
use Rattle.step_moves.specs.Programs.{program_at}
use Rattle.step_moves.specs.declared.actor.Actor.{Actor}
use Rattle.step_moves.specs.declared.actor.Named.{Named}
use Rattle.step_moves.specs.InMemory.{actor_at, named_at, identifiers_in}
use Rattle.step_moves.proofs.GatherLaws.{stopped_first, stopped_apart, stopped_over, all_in_order, named_identifiers}
use Rattle.step_moves.proofs.processes.several.Goals as goal

abbrev view : List Tree → Vec Actor Global → List pure.Actor
view ts z = map (actor_at ts) z.items

pub returns-in_err-all : goal.returns-in_err-all
returns-in_err-all c =
    let p = c.args.program.now in
    let s = c.in_err-all.field-0.0 in
    err_is (view p.pool.now) c.from_residual.result s _ c.from_residual.ensures (stopped_first (program_at p) (last_place p.algorithm.now.name.place (map (process_at p.pool.now) c.args.list.now)) s _ c.in_err-all.ensures)

pub returns-in_err-known : goal.returns-in_err-known
returns-in_err-known c =
    let p = c.args.program.now in
    let ts = p.pool.now in
    let s = c.in_err-known.field-0.0 in
    err_is (view ts) c.from_residual-in_err-known.result s _ c.from_residual-in_err-known.ensures
    (stopped_apart (program_at p) (last_place p.algorithm.now.name.place (map (process_at ts) c.args.list.now)) s _ (map (named_at ts) c.in_ok-all.all.items) c.in_ok-all.ensures
    (subst (λ (zs : List Named). Stops s (apart [] (map (named_at ts) zs))) c.deref-2.ensures.value (c.in_err-known.ensures.apart ts)))

pub returns-in_err-set_of : goal.returns-in_err-set_of
returns-in_err-set_of c =
    let p = c.args.program.now in
    let ts = p.pool.now in
    let s = c.in_err-set_of.field-0.0 in
    let all = c.in_ok-all.all.items in
    let values = c.in_ok-values.ensures ∙ ap identifiers_in c.deref.ensures.value ∙ sym (named_identifiers ts all) in
    let here = c.last_place.ensures ts ∙ ap (λ (a : Algorithm). last_place a.name.place (map (process_at ts) c.args.list.now)) c.algorithm.view_is in
    let parted = subst (λ (zs : List Named). apart [] (map (named_at ts) zs) ≡ Ok (map (named_at ts) zs)) c.deref-2.ensures.value (c.in_ok-known.ensures.apart ts) in
    err_is (view ts) c.from_residual-in_err-set_of.result s _ c.from_residual-in_err-set_of.ensures
    (stopped_over (program_at p) (last_place p.algorithm.now.name.place (map (process_at ts) c.args.list.now)) s _ (map (named_at ts) all) c.in_ok-all.ensures parted
    (subst (λ (o : Outcome Value). Stops s o) (λ i. bounded (here i) (set (set_from (values i)))) (answers_tell (Err s) (bounded c.last_place.result (set (set_from c.in_ok-values.values.items))) c.in_err-set_of.ensures)))

pub returns : goal.returns
returns c =
    let p = c.args.program.now in
    let ts = p.pool.now in
    let all = c.in_ok-all.all.items in
    let values = c.in_ok-values.ensures ∙ ap identifiers_in c.deref.ensures.value ∙ sym (named_identifiers ts all) in
    let here = c.last_place.ensures ts ∙ ap (λ (a : Algorithm). last_place a.name.place (map (process_at ts) c.args.list.now)) c.algorithm.view_is in
    let parted = subst (λ (zs : List Named). apart [] (map (named_at ts) zs) ≡ Ok (map (named_at ts) zs)) c.deref-2.ensures.value (c.in_ok-known.ensures.apart ts) in
    all_in_order (program_at p) (last_place p.algorithm.now.name.place (map (process_at ts) c.args.list.now)) _ (map (named_at ts) all) c.in_ok-set_of.field-0 c.in_ok-all.ensures parted
    (subst (λ (o : Outcome Value). o ≡ Ok c.in_ok-set_of.field-0) (λ i. bounded (here i) (set (set_from (values i)))) c.in_ok-set_of.ensures)
    ∙ ap Ok (sym (c.in_ok-in_order.ensures ts ∙ c.in_ok-known.ensures.sorted ts ∙ ap (λ (zs : List Named). sorted (map (named_at ts) zs)) c.deref-2.ensures.value))
