-- Proves that every stack is empty.
use Rattle.std.proofs.Common.{◌<◌, length, map, sym, ap, ◌∙◌, arith}
use Rattle.tla_token.specs.Signs.{is_among}
use Rattle.tla_tree.specs.Tree.{Word}
use Rattle.pcal_tree.specs.Algorithm.{procedure_routines, first_procedure}
use Rattle.pcal_tree.specs.InitialChoice.{own_begun}
use Rattle.pcal_tree.specs.InitialStates.{empty_stack}
use Rattle.pcal_tree.specs.Program.{Actor}
use Rattle.pcal_tree.specs.Variables.{vars}
use Rattle.step_moves.specs.InMemory.{actor_at}
use Rattle.step_moves.specs.Programs.{program_at}
use Rattle.step_moves.specs.StatesOf.{state_of}
use Rattle.step_meaning.proofs.FlowLaws.{on_ok}
use Rattle.step_meaning.proofs.ReadyLaws.{nonzero, stacks_some, some_procedures}
use Rattle.step_meaning.proofs.RoutineLaws.{stack_among}
use Rattle.step_meaning.proofs.ready.put_stacks.Goals as goal

pub returns-clause-put : goal.returns-clause-put
returns-clause-put c =
    let p = c.args.origin.now.program in
    let P = program_at p in
    let ts = p.pool.now in
    let vs = map (actor_at ts) c.args.actors.now in
    let some : 0 < p.algorithm.now.procedures.len = nonzero p.algorithm.now.procedures.len (sym c.is_empty.ensures ∙ c.if-is_empty.false) in
    let less : 0 < length p.algorithm.now.procedures.items = omega (arith, some, p.algorithm.now.procedures.ok.0) in
    let there = some_procedures ts (first_procedure P.algorithm) p.algorithm.now.procedures.items less in
    on_ok c.put_own.result (λ g. g ts (λ (v : Actor). empty_stack) (c.in_ok-all.ensures ts)
    ∙ ap (λ (x : Word). own_begun P.algorithm.main x vs (λ (v : Actor). empty_stack) (state_of c.args.state.now)) c.in_ok-name.ensures
    ∙ sym (stacks_some P (procedure_routines P.algorithm) there.0 there.1 vs (state_of c.args.state.now) there.2)) c.put_own.ensures.put

pub returns-clause-begun : goal.returns-clause-begun
returns-clause-begun c =
    let p = c.args.origin.now.program in
    let P = program_at p in
    let some : 0 < p.algorithm.now.procedures.len = nonzero p.algorithm.now.procedures.len (sym c.is_empty.ensures ∙ c.if-is_empty.false) in
    let less : 0 < length p.algorithm.now.procedures.items = omega (arith, some, p.algorithm.now.procedures.ok.0) in
    let there = some_procedures p.pool.now (first_procedure P.algorithm) p.algorithm.now.procedures.items less in
    on_ok c.put_own.result (λ g. g p (ap (is_among (vars P)) c.in_ok-name.ensures ∙ stack_among P there.0 there.1 there.2) c.requires.begun) c.put_own.ensures.begun
