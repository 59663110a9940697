-- Proves that every `pc` is at a first label.
use Rattle.std.proofs.Common.{map, refl, ap, ◌∙◌}
use Rattle.tla_token.specs.Signs.{is_among}
use Rattle.tla_tree.specs.Tree.{Word}
use Rattle.pcal_tree.specs.Calls.{label_value, first_label}
use Rattle.pcal_tree.specs.InitialChoice.{own_begun, pc_begun}
use Rattle.pcal_tree.specs.Program.{Actor}
use Rattle.pcal_tree.specs.Scope.{State}
use Rattle.pcal_tree.specs.Variables.{vars}
use Rattle.step_moves.specs.InMemory.{actor_at}
use Rattle.step_moves.specs.Programs.{program_at}
use Rattle.step_moves.specs.StatesOf.{state_of}
use Rattle.step_moves.proofs.SettingLaws.{pc_among}
use Rattle.step_meaning.proofs.FlowLaws.{on_ok}
use Rattle.step_meaning.proofs.ready.make_ready.Goals as goal

pub returns-clause-ready : goal.returns-clause-ready
returns-clause-ready c =
    let p = c.args.origin.now.program in
    let P = program_at p in
    let vs = map (actor_at p.pool.now) c.args.actors.now in
    on_ok c.put_own.result (λ g. g p.pool.now (λ (v : Actor). label_value P v.own (first_label v.own)) (c.in_ok-all.ensures P p.pool.now refl)
    ∙ ap (λ (x : Word). own_begun P.algorithm.main x vs (λ (v : Actor). label_value P v.own (first_label v.own)) (state_of c.put_stacks.new.state)) c.in_ok-name.ensures
    ∙ ap (λ (s : State). pc_begun P vs s) c.in_ok-put_stacks.ensures.put) c.put_own.ensures.put

pub returns-clause-begun : goal.returns-clause-begun
returns-clause-begun c =
    let p = c.args.origin.now.program in
    on_ok c.put_own.result (λ g. g p (ap (is_among (vars (program_at p))) c.in_ok-name.ensures ∙ pc_among (program_at p)) c.in_ok-put_stacks.ensures.begun) c.put_own.ensures.begun
