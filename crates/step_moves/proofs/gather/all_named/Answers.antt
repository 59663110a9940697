-- Proves that all processes are gathered, until one has no identifiers.
use Rattle.std.proofs.Common.{◌+◌, ◌++◌, map, drop, Vec, Global, subst, ◌∙◌, arith}
use Rattle.tla_tree.proofs.PoolNumbers.{past_at}
use Rattle.tla_value.specs.Value.{values_in}
use Rattle.pcal_tree.specs.Algorithm.{first_process}
use Rattle.pcal_tree.specs.InMemory.{process_at, past_process}
use Rattle.pcal_tree.specs.Processes.{all_actors, actors_of}
use Rattle.value_forms.proofs.StopLaws.{err_is}
use Rattle.step_moves.specs.Programs.{program_at}
use Rattle.step_moves.specs.declared.actor.Named.{Named}
use Rattle.step_moves.specs.InMemory.{named_at}
use Rattle.step_moves.proofs.GatherLaws.{Gathering, none_gathered, one_gathered, gathering_stops, all_gathered, from_process, no_process}
use Rattle.step_moves.proofs.gather.all_named.Goals as goal

pub loop-process-init : goal.loop-process-init
loop-process-init c =
    let ts = c.args.program.now.pool.now in
    let P = program_at c.args.program.now in
    let ps = map (process_at ts) c.args.list.now in
    none_gathered P (first_process P.algorithm) c.in_ok-number.number ps ts c.new-all.result.items c.new-all.ensures.items c.in_ok-number.ensures

pub identifiers_of-requires-clause-within : goal.identifiers_of-requires-clause-within
identifiers_of-requires-clause-within c =
    let past = past_at past_process c.args.list.now c.loop-process.process-index c.process-item.result c.process-item.is c.loop-process-test.true in
    omega (arith, past, c.requires.within)

pub returns-in_err-values : goal.returns-in_err-values
returns-in_err-values c =
    let p = c.args.program.now in
    let ts = p.pool.now in
    let P = program_at p in
    let ps = c.args.list.now in
    let s = c.in_err-values.field-0.0 in
    let i = c.loop-process.process-index in
    let first = from_process ts ps i c.process-item.result c.process-item.is c.loop-process-test.true in
    err_is (λ (z : Vec Named Global). map (named_at ts) z.items) c.from_residual-in_err-values.result s _ c.from_residual-in_err-values.ensures
    (gathering_stops P (all_actors P (first_process P.algorithm) (map (process_at ts) ps)) s (map (named_at ts) c.loop-process.all.items) c.loop-process.number (process_at ts c.process-item.result) (map (process_at ts) (drop (i + 1) ps))
    c.in_err-values.ensures
    (subst (λ (z : _). Gathering P (all_actors P (first_process P.algorithm) (map (process_at ts) ps)) (map (named_at ts) c.loop-process.all.items) c.loop-process.number z) first c.loop-process.invariant))

pub loop-process-preserved : goal.loop-process-preserved
loop-process-preserved c =
    let p = c.args.program.now in
    let ts = p.pool.now in
    let P = program_at p in
    let ps = c.args.list.now in
    let i = c.loop-process.process-index in
    let first = from_process ts ps i c.process-item.result c.process-item.is c.loop-process-test.true in
    let added = c.in_ok-add_named.ensures ts
    ∙ (λ j. map (named_at ts) c.loop-process.all.items ++ actors_of (c.process.ensures ts j) (values_in (c.deref.ensures.value j))) in
    one_gathered P (all_actors P (first_process P.algorithm) (map (process_at ts) ps)) (map (named_at ts) c.loop-process.all.items) (map (named_at ts) c.add_named.new.into.items) c.loop-process.number _
    (process_at ts c.process-item.result) (map (process_at ts) (drop (i + 1) ps)) _ c.in_ok-values.ensures added c.in_ok-number-2.ensures
    (subst (λ (z : _). Gathering P (all_actors P (first_process P.algorithm) (map (process_at ts) ps)) (map (named_at ts) c.loop-process.all.items) c.loop-process.number z) first c.loop-process.invariant)

pub returns : goal.returns
returns c =
    let p = c.args.program.now in
    let ts = p.pool.now in
    let P = program_at p in
    let ps = c.args.list.now in
    all_gathered P (all_actors P (first_process P.algorithm) (map (process_at ts) ps)) (map (named_at ts) c.loop-process.all.items) c.loop-process.number
    (subst (λ (z : _). Gathering P (all_actors P (first_process P.algorithm) (map (process_at ts) ps)) (map (named_at ts) c.loop-process.all.items) c.loop-process.number z)
    (no_process ts ps c.loop-process.process-index c.loop-process-test.false) c.loop-process.invariant)
