-- Proves what each routine asks.
use Rattle.std.proofs.Common.{◌≡◌, ◌+◌, ◌<◌, ◌≤◌, ℕ, length, map, true, ap, subst, ◌∙◌, arith}
use Rattle.tla_token.specs.Signs.{is_among}
use Rattle.tla_tree.specs.Nesting.{greatest}
use Rattle.tla_tree.specs.Tree.{Each}
use Rattle.tla_tree.proofs.PoolNumbers.{past_at}
use Rattle.pcal_tree.specs.Algorithm as tree
use Rattle.pcal_tree.specs.Algorithm.{process_routine, main_routines, first_process}
use Rattle.pcal_tree.specs.InMemory.{process_at, past_process}
use Rattle.pcal_tree.specs.Variables.{written_by_all, vars}
use Rattle.step_moves.specs.Programs.{program_at}
use Rattle.step_moves.specs.Prepared.{prepared_process}
use Rattle.step_meaning.proofs.RoutineLaws.{processes_among, routine_known, numbered_at}
use Rattle.step_meaning.proofs.routines.several.Goals as goal

pub process-requires-clause-prepared : goal.process-requires-clause-prepared
process-requires-clause-prepared c =
    let p = c.args.origin.now.program in
    let n = first_process (program_at p).algorithm in
    let number : c.in_ok-number.number ≡ n + c.loop-i.i = c.in_ok-number.ensures ∙ ap (λ (k : ℕ). k + c.loop-i.i) c.in_ok-first.ensures in
    numbered_at (process_at p.pool.now) (prepared_process (program_at p)) (process_at p.pool.now) n c.in_ok-number.number c.args.ready.now c.args.list.now c.loop-i.i c.index-ready-i.result c.index-list-i.result number c.requires.prepared c.loop-i-test.true
    c.index-ready-i.is c.index-list-i.is

pub process-requires-clause-below : goal.process-requires-clause-below
process-requires-clause-below c =
    let h : past_process c.index-list-i.result ≤ greatest (map past_process c.args.list.now) = past_at past_process c.args.list.now c.loop-i.i c.index-list-i.result c.index-list-i.is c.loop-i-test.true in omega (arith, h, c.requires.below)

pub process-requires-clause-within : goal.process-requires-clause-within
process-requires-clause-within c =
    let less : c.loop-i.i < length c.args.ready.now = omega (arith, c.loop-i-test.true, c.requires.many) in
    let h : past_process c.index-ready-i.result ≤ greatest (map past_process c.args.ready.now) = past_at past_process c.args.ready.now c.loop-i.i c.index-ready-i.result c.index-ready-i.is less in omega (arith, h, c.requires.within)

pub process-requires-clause-known : goal.process-requires-clause-known
process-requires-clause-known c =
    let p = c.args.origin.now.program in
    let P = program_at p in
    let n = first_process P.algorithm in
    let number : c.in_ok-number.number ≡ n + c.loop-i.i = c.in_ok-number.ensures ∙ ap (λ (k : ℕ). k + c.loop-i.i) c.in_ok-first.ensures in
    routine_known process_routine (process_at p.pool.now) (λ x. is_among (vars P) x ≡ true) P n c.in_ok-number.number c.args.list.now c.loop-i.i c.index-list-i.result number c.loop-i-test.true c.index-list-i.is
    (subst (λ (m : tree.Main). Each (λ x. is_among (vars P) x ≡ true) (written_by_all P (main_routines P.algorithm m))) c.requires.all (processes_among P))
