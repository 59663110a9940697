-- Proves what each routine asks.
use Rattle.std.proofs.Common.{◌≡◌, ◌+◌, ◌<◌, ◌≤◌, ℕ, List, length, map, true, get_or, sym, ap, subst, ◌∙◌, arith}
use Rattle.tla_token.specs.Signs.{is_among}
use Rattle.tla_tree.specs.Nesting.{greatest}
use Rattle.tla_tree.specs.Tree.{Each}
use Rattle.tla_tree.proofs.PoolNumbers.{past_at}
use Rattle.pcal_tree.specs.Algorithm as tree
use Rattle.pcal_tree.specs.Algorithm.{procedure_routine, numbered, first_procedure}
use Rattle.pcal_tree.specs.InMemory.{procedure_at, past_procedure}
use Rattle.pcal_tree.specs.Variables.{written_by_all, vars}
use Rattle.step_moves.specs.Programs.{program_at}
use Rattle.step_moves.proofs.SettingLists.{found}
use Rattle.step_moves.specs.Prepared.{prepared_procedure}
use Rattle.step_meaning.proofs.RoutineLaws.{procedures_among, routine_known, numbered_at}
use Rattle.step_meaning.proofs.routines.procedures.Goals as goal

pub procedure-requires-clause-prepared : goal.procedure-requires-clause-prepared
procedure-requires-clause-prepared c =
    let p = c.args.origin.now.program in
    let n = first_procedure (program_at p).algorithm in
    let less : c.loop-i.i < length c.args.origin.now.procedures.now = omega (arith, c.loop-i-test.true, c.requires.many) in
    let number : c.in_ok-number.number ≡ n + c.loop-i.i = c.in_ok-number.ensures ∙ ap (λ (k : ℕ). k + c.loop-i.i) c.first_procedure-first.ensures in
    numbered_at (procedure_at p.pool.now) (prepared_procedure (program_at p)) (procedure_at p.pool.now) n c.in_ok-number.number c.args.origin.now.procedures.now c.args.list.now c.loop-i.i
    (get_or c.args.origin.now.procedures.now c.loop-i.i c.index-origin-i.result) c.index-list-i.result number (c.requires.origin.procedures ∙ ap (λ (ps : List tree.Procedure). numbered (prepared_procedure (program_at p)) n ps) (sym c.requires.all)) c.loop-i-test.true
    (found c.args.origin.now.procedures.now c.loop-i.i c.index-origin-i.result less) c.index-list-i.is

pub procedure-requires-clause-below : goal.procedure-requires-clause-below
procedure-requires-clause-below c =
    let h : past_procedure c.index-list-i.result ≤ greatest (map past_procedure c.args.list.now) = past_at past_procedure c.args.list.now c.loop-i.i c.index-list-i.result c.index-list-i.is c.loop-i-test.true in omega (arith, h, c.requires.below)

pub procedure-requires-clause-within : goal.procedure-requires-clause-within
procedure-requires-clause-within c =
    let less : c.loop-i.i < length c.args.origin.now.procedures.now = omega (arith, c.loop-i-test.true, c.requires.many) in
    let one = get_or c.args.origin.now.procedures.now c.loop-i.i c.index-origin-i.result in
    let h : past_procedure one ≤ greatest (map past_procedure c.args.origin.now.procedures.now) = past_at past_procedure c.args.origin.now.procedures.now c.loop-i.i one (found c.args.origin.now.procedures.now c.loop-i.i c.index-origin-i.result less) less in
    omega (arith, h, c.requires.origin.within)

pub procedure-requires-clause-known : goal.procedure-requires-clause-known
procedure-requires-clause-known c =
    let p = c.args.origin.now.program in
    let P = program_at p in
    let n = first_procedure P.algorithm in
    let number : c.in_ok-number.number ≡ n + c.loop-i.i = c.in_ok-number.ensures ∙ ap (λ (k : ℕ). k + c.loop-i.i) c.first_procedure-first.ensures in
    routine_known procedure_routine (procedure_at p.pool.now) (λ x. is_among (vars P) x ≡ true) P n c.in_ok-number.number c.args.list.now c.loop-i.i c.index-list-i.result number c.loop-i-test.true c.index-list-i.is
    (subst (λ (ps : List tree.Procedure). Each (λ x. is_among (vars P) x ≡ true) (written_by_all P (numbered procedure_routine n ps))) (sym c.requires.all) (procedures_among P))
