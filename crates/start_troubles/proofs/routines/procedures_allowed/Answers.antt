-- Proves what each routine asks, and that the first that isn't allowed decides, or the first stop.
use Rattle.std.proofs.Common.{◌≡◌, ◌+◌, ◌<◌, ◌≤◌, ℕ, Bool, Ok, List, length, map, true, get_or, sym, ap, subst, ◌∙◌, arith}
use Rattle.tla_token.specs.Signs.{is_among}
use Rattle.tla_tree.specs.Nesting.{greatest}
use Rattle.tla_tree.specs.Tree.{Each}
use Rattle.tla_tree.proofs.PoolNumbers.{past_at}
use Rattle.pcal_tree.specs.Algorithm as tree
use Rattle.pcal_tree.specs.Algorithm.{Routine, procedure_routine, numbered, first_procedure}
use Rattle.pcal_tree.specs.InMemory.{procedure_at, past_procedure}
use Rattle.pcal_tree.specs.Variables.{written_by_all, vars}
use Rattle.step_moves.specs.InMemory.{actor_at}
use Rattle.value_forms.proofs.StopLaws.{tells_err}
use Rattle.step_moves.specs.Programs.{program_at}
use Rattle.step_moves.specs.StatesOf.{state_of}
use Rattle.step_moves.proofs.SettingLists.{found}
use Rattle.step_moves.specs.Prepared.{prepared_procedure}
use Rattle.step_meaning.proofs.RoutineLaws.{procedures_among, routine_known, numbered_at}
use Rattle.written_traces.specs.AskedStarts.{as_written}
use Rattle.start_troubles.specs.Asked.{procedure_asked}
use Rattle.start_troubles.proofs.AskedLaws.{all_asked, stops_is}
use Rattle.start_troubles.proofs.RoutineLaws.{procedures_all, turns_next, turns_not, turns_stop, turns_done}
use Rattle.start_troubles.proofs.routines.procedures_allowed.Goals as goal

pub procedure_allowed-requires-clause-prepared : goal.procedure_allowed-requires-clause-prepared
procedure_allowed-requires-clause-prepared c =
    let p = c.args.origin.now.program in
    let n = first_procedure (program_at p).algorithm in
    let less : c.loop-i.i < length c.args.origin.now.procedures.now = omega (arith, c.loop-i-test.true, c.requires.many) in
    let number : c.in_ok-number.number ≡ n + c.loop-i.i = c.in_ok-number.ensures ∙ ap (λ (k : ℕ). k + c.loop-i.i) c.first_procedure-first.ensures in
    numbered_at (procedure_at p.pool.now) (prepared_procedure (program_at p)) (procedure_at p.pool.now) n c.in_ok-number.number c.args.origin.now.procedures.now c.args.list.now c.loop-i.i
    (get_or c.args.origin.now.procedures.now c.loop-i.i c.index-origin-i.result) c.index-list-i.result number (c.requires.origin.procedures ∙ ap (λ (ps : List tree.Procedure). numbered (prepared_procedure (program_at p)) n ps) (sym c.requires.all)) c.loop-i-test.true
    (found c.args.origin.now.procedures.now c.loop-i.i c.index-origin-i.result less) c.index-list-i.is

pub procedure_allowed-requires-clause-below : goal.procedure_allowed-requires-clause-below
procedure_allowed-requires-clause-below c =
    let h : past_procedure c.index-list-i.result ≤ greatest (map past_procedure c.args.list.now) = past_at past_procedure c.args.list.now c.loop-i.i c.index-list-i.result c.index-list-i.is c.loop-i-test.true in omega (arith, h, c.requires.below)

pub procedure_allowed-requires-clause-within : goal.procedure_allowed-requires-clause-within
procedure_allowed-requires-clause-within c =
    let less : c.loop-i.i < length c.args.origin.now.procedures.now = omega (arith, c.loop-i-test.true, c.requires.many) in
    let one = get_or c.args.origin.now.procedures.now c.loop-i.i c.index-origin-i.result in
    let h : past_procedure one ≤ greatest (map past_procedure c.args.origin.now.procedures.now) = past_at past_procedure c.args.origin.now.procedures.now c.loop-i.i one (found c.args.origin.now.procedures.now c.loop-i.i c.index-origin-i.result less) less in
    omega (arith, h, c.requires.origin.within)

pub procedure_allowed-requires-clause-known : goal.procedure_allowed-requires-clause-known
procedure_allowed-requires-clause-known c =
    let p = c.args.origin.now.program in
    let P = program_at p in
    let n = first_procedure P.algorithm in
    let number : c.in_ok-number.number ≡ n + c.loop-i.i = c.in_ok-number.ensures ∙ ap (λ (k : ℕ). k + c.loop-i.i) c.first_procedure-first.ensures in
    routine_known procedure_routine (procedure_at p.pool.now) (λ x. is_among (vars P) x ≡ true) P n c.in_ok-number.number c.args.list.now c.loop-i.i c.index-list-i.result number c.loop-i-test.true c.index-list-i.is
    (subst (λ (ps : List tree.Procedure). Each (λ x. is_among (vars P) x ≡ true) (written_by_all P (numbered procedure_routine n ps))) (sym c.requires.all) (procedures_among P))

pub returns-in_err-allowed : goal.returns-in_err-allowed
returns-in_err-allowed c =
    let p = c.args.origin.now.program in
    let n = first_procedure (program_at p).algorithm in
    let vs = map (actor_at p.pool.now) c.args.actors.now in
    let s = state_of c.args.state.now in
    let one = procedure_asked (as_written (program_at p)) (program_at p) vs s in
    let us = numbered procedure_routine n (map (procedure_at p.pool.now) c.args.list.now) in
    let number : c.in_ok-number.number ≡ n + c.loop-i.i = c.in_ok-number.ensures ∙ ap (λ (k : ℕ). k + c.loop-i.i) c.first_procedure-first.ensures in
    let k = c.in_err-allowed.field-0.0 in
    tells_err c.from_residual-in_err-allowed.result k _ c.from_residual-in_err-allowed.ensures
    (stops_is k (all_asked one us) _ (procedures_all (program_at p) vs s us)
    (turns_stop procedure_routine (procedure_at p.pool.now) one n c.args.list.now c.loop-i.i c.index-list-i.result c.in_ok-number.number k c.loop-i-test.true c.index-list-i.is number c.in_err-allowed.ensures c.loop-i.invariant))

pub returns-then-not-allowed : goal.returns-then-not-allowed
returns-then-not-allowed c =
    let p = c.args.origin.now.program in
    let n = first_procedure (program_at p).algorithm in
    let vs = map (actor_at p.pool.now) c.args.actors.now in
    let s = state_of c.args.state.now in
    let one = procedure_asked (as_written (program_at p)) (program_at p) vs s in
    let us = numbered procedure_routine n (map (procedure_at p.pool.now) c.args.list.now) in
    let number : c.in_ok-number.number ≡ n + c.loop-i.i = c.in_ok-number.ensures ∙ ap (λ (k : ℕ). k + c.loop-i.i) c.first_procedure-first.ensures in
    sym (procedures_all (program_at p) vs s us)
    ∙ turns_not procedure_routine (procedure_at p.pool.now) one n c.args.list.now c.loop-i.i c.index-list-i.result c.in_ok-number.number c.loop-i-test.true c.index-list-i.is number (c.in_ok-allowed.ensures ∙ ap (λ (b : Bool). Ok b) c.if-not-allowed.true) c.loop-i.invariant

pub loop-i-preserved : goal.loop-i-preserved
loop-i-preserved c =
    let p = c.args.origin.now.program in
    let n = first_procedure (program_at p).algorithm in
    let one = procedure_asked (as_written (program_at p)) (program_at p) (map (actor_at p.pool.now) c.args.actors.now) (state_of c.args.state.now) in
    let number : c.in_ok-number.number ≡ n + c.loop-i.i = c.in_ok-number.ensures ∙ ap (λ (k : ℕ). k + c.loop-i.i) c.first_procedure-first.ensures in
    turns_next procedure_routine (procedure_at p.pool.now) one n c.args.list.now c.loop-i.i c.index-list-i.result c.in_ok-number.number c.loop-i-test.true c.index-list-i.is number (c.in_ok-allowed.ensures ∙ ap (λ (b : Bool). Ok b) c.if-not-allowed.false) c.loop-i.invariant

pub returns : goal.returns
returns c =
    let p = c.args.origin.now.program in
    let n = first_procedure (program_at p).algorithm in
    let vs = map (actor_at p.pool.now) c.args.actors.now in
    let s = state_of c.args.state.now in
    let one = procedure_asked (as_written (program_at p)) (program_at p) vs s in
    let us = numbered procedure_routine n (map (procedure_at p.pool.now) c.args.list.now) in
    sym (procedures_all (program_at p) vs s us) ∙ turns_done procedure_routine (procedure_at p.pool.now) one n c.args.list.now c.loop-i.i c.loop-i-test.false c.loop-i.invariant
