-- Proves what each routine asks, and that the first that isn't allowed decides, or the first stop.
use Rattle.std.proofs.Common.{◌≡◌, ◌+◌, ◌<◌, ◌≤◌, ℕ, Bool, Ok, length, map, true, sym, ap, subst, ◌∙◌, arith}
use Rattle.tla_token.specs.Signs.{is_among}
use Rattle.tla_tree.specs.Nesting.{greatest}
use Rattle.tla_tree.specs.Tree.{Each}
use Rattle.tla_tree.proofs.PoolNumbers.{past_at}
use Rattle.pcal_tree.specs.Algorithm as tree
use Rattle.pcal_tree.specs.Algorithm.{Routine, process_routine, main_routines, numbered, first_process}
use Rattle.pcal_tree.specs.InMemory.{process_at, past_process}
use Rattle.pcal_tree.specs.Variables.{written_by_all, vars}
use Rattle.step_moves.specs.InMemory.{actor_at}
use Rattle.value_forms.proofs.StopLaws.{tells_err}
use Rattle.step_moves.specs.Programs.{program_at}
use Rattle.step_moves.specs.StatesOf.{state_of}
use Rattle.step_moves.specs.Prepared.{prepared_process}
use Rattle.step_meaning.proofs.RoutineLaws.{processes_among, routine_known, numbered_at}
use Rattle.written_traces.specs.AskedStarts.{as_written}
use Rattle.start_troubles.specs.Asked.{process_asked}
use Rattle.start_troubles.proofs.AskedLaws.{all_asked, stops_is}
use Rattle.start_troubles.proofs.RoutineLaws.{processes_all, turns_next, turns_not, turns_stop, turns_done}
use Rattle.start_troubles.proofs.routines.several_allowed.Goals as goal

pub process_allowed-requires-clause-prepared : goal.process_allowed-requires-clause-prepared
process_allowed-requires-clause-prepared c =
    let p = c.args.origin.now.program in
    let n = first_process (program_at p).algorithm in
    let number : c.in_ok-number.number ≡ n + c.loop-i.i = c.in_ok-number.ensures ∙ ap (λ (k : ℕ). k + c.loop-i.i) c.in_ok-first.ensures in
    numbered_at (process_at p.pool.now) (prepared_process (program_at p)) (process_at p.pool.now) n c.in_ok-number.number c.args.ready.now c.args.list.now c.loop-i.i
    c.index-ready-i.result c.index-list-i.result number c.requires.prepared c.loop-i-test.true
    c.index-ready-i.is c.index-list-i.is

pub process_allowed-requires-clause-below : goal.process_allowed-requires-clause-below
process_allowed-requires-clause-below c =
    let h : past_process c.index-list-i.result ≤ greatest (map past_process c.args.list.now) = past_at past_process c.args.list.now c.loop-i.i c.index-list-i.result c.index-list-i.is c.loop-i-test.true in omega (arith, h, c.requires.below)

pub process_allowed-requires-clause-within : goal.process_allowed-requires-clause-within
process_allowed-requires-clause-within c =
    let less : c.loop-i.i < length c.args.ready.now = omega (arith, c.loop-i-test.true, c.requires.many) in
    let h : past_process c.index-ready-i.result ≤ greatest (map past_process c.args.ready.now) = past_at past_process c.args.ready.now c.loop-i.i c.index-ready-i.result c.index-ready-i.is less in omega (arith, h, c.requires.within)

pub process_allowed-requires-clause-known : goal.process_allowed-requires-clause-known
process_allowed-requires-clause-known c =
    let p = c.args.origin.now.program in
    let P = program_at p in
    let n = first_process P.algorithm in
    let number : c.in_ok-number.number ≡ n + c.loop-i.i = c.in_ok-number.ensures ∙ ap (λ (k : ℕ). k + c.loop-i.i) c.in_ok-first.ensures in
    routine_known process_routine (process_at p.pool.now) (λ x. is_among (vars P) x ≡ true) P n c.in_ok-number.number c.args.list.now c.loop-i.i c.index-list-i.result number c.loop-i-test.true c.index-list-i.is
    (subst (λ (m : tree.Main). Each (λ x. is_among (vars P) x ≡ true) (written_by_all P (main_routines P.algorithm m))) c.requires.all (processes_among P))

pub returns-in_err-allowed : goal.returns-in_err-allowed
returns-in_err-allowed c =
    let p = c.args.origin.now.program in
    let n = first_process (program_at p).algorithm in
    let vs = map (actor_at p.pool.now) c.args.actors.now in
    let s = state_of c.args.state.now in
    let one = process_asked (as_written (program_at p)) (program_at p) vs s in
    let us = numbered process_routine n (map (process_at p.pool.now) c.args.list.now) in
    let number : c.in_ok-number.number ≡ n + c.loop-i.i = c.in_ok-number.ensures ∙ ap (λ (k : ℕ). k + c.loop-i.i) c.in_ok-first.ensures in
    let k = c.in_err-allowed.field-0.0 in
    tells_err c.from_residual-in_err-allowed.result k _ c.from_residual-in_err-allowed.ensures
    (stops_is k (all_asked one us) _ (processes_all (program_at p) vs s us)
    (turns_stop process_routine (process_at p.pool.now) one n c.args.list.now c.loop-i.i c.index-list-i.result c.in_ok-number.number k c.loop-i-test.true c.index-list-i.is number c.in_err-allowed.ensures c.loop-i.invariant))

pub returns-then-not-allowed : goal.returns-then-not-allowed
returns-then-not-allowed c =
    let p = c.args.origin.now.program in
    let n = first_process (program_at p).algorithm in
    let vs = map (actor_at p.pool.now) c.args.actors.now in
    let s = state_of c.args.state.now in
    let one = process_asked (as_written (program_at p)) (program_at p) vs s in
    let us = numbered process_routine n (map (process_at p.pool.now) c.args.list.now) in
    let number : c.in_ok-number.number ≡ n + c.loop-i.i = c.in_ok-number.ensures ∙ ap (λ (k : ℕ). k + c.loop-i.i) c.in_ok-first.ensures in
    sym (processes_all (program_at p) vs s us)
    ∙ turns_not process_routine (process_at p.pool.now) one n c.args.list.now c.loop-i.i c.index-list-i.result c.in_ok-number.number c.loop-i-test.true c.index-list-i.is number (c.in_ok-allowed.ensures ∙ ap (λ (b : Bool). Ok b) c.if-not-allowed.true) c.loop-i.invariant

pub loop-i-preserved : goal.loop-i-preserved
loop-i-preserved c =
    let p = c.args.origin.now.program in
    let n = first_process (program_at p).algorithm in
    let one = process_asked (as_written (program_at p)) (program_at p) (map (actor_at p.pool.now) c.args.actors.now) (state_of c.args.state.now) in
    let number : c.in_ok-number.number ≡ n + c.loop-i.i = c.in_ok-number.ensures ∙ ap (λ (k : ℕ). k + c.loop-i.i) c.in_ok-first.ensures in
    turns_next process_routine (process_at p.pool.now) one n c.args.list.now c.loop-i.i c.index-list-i.result c.in_ok-number.number c.loop-i-test.true c.index-list-i.is number (c.in_ok-allowed.ensures ∙ ap (λ (b : Bool). Ok b) c.if-not-allowed.false) c.loop-i.invariant

pub returns : goal.returns
returns c =
    let p = c.args.origin.now.program in
    let n = first_process (program_at p).algorithm in
    let vs = map (actor_at p.pool.now) c.args.actors.now in
    let s = state_of c.args.state.now in
    let one = process_asked (as_written (program_at p)) (program_at p) vs s in
    let us = numbered process_routine n (map (process_at p.pool.now) c.args.list.now) in
    sym (processes_all (program_at p) vs s us) ∙ turns_done process_routine (process_at p.pool.now) one n c.args.list.now c.loop-i.i c.loop-i-test.false c.loop-i.invariant
