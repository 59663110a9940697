-- Proves that the body of a process is looked at.
use Rattle.std.proofs.Common.{Bool, List, sym, subst}
use Rattle.std.proofs.lemmas.Result.{on_ok_weaker}
use Rattle.tla_tree.specs.Pool.{at}
use Rattle.pcal_tree.specs.declared.algorithm.Stmt.{Stmt}
use Rattle.pcal_tree.specs.InMemory.{statements_at}
use Rattle.pcal_tree.specs.OffencesRebind.{any_name, body_rebinds}
use Rattle.declared_rules.specs.Telling.{Adds}
use Rattle.declared_rules.specs.Processes.{body_scope}
use Rattle.declared_rules.proofs.bind_walk.Walk.process_body.Goals as goal

pub returns-then-process : goal.returns-then-process
returns-then-process c =
    on_ok_weaker c.body.result
    (λ a C ps h k o.
    let ts = c.args.pool.now in
    let p = c.args.process.now in
    subst (λ (b : Bool). Adds c.args.near.now any_name c.args.self.now c.body.new.self (λ ms r. body_rebinds ms ps (C ms) (statements_at ts p.body.items) (body_scope b (at ts p.identity) r))) (sym c.if-process.true)
    (subst (λ (ys : List Stmt). Adds c.args.near.now any_name c.args.self.now c.body.new.self (λ ms r. body_rebinds ms ps (C ms) (statements_at ts ys) r)) c.deref.ensures.value (a C ps k))) c.body.ensures

pub returns : goal.returns
returns c =
    on_ok_weaker c.single-outcome.result
    (λ a C ps h k o.
    let ts = c.args.pool.now in
    let p = c.args.process.now in
    subst (λ (b : Bool). Adds c.args.near.now any_name c.args.self.now c.single-outcome.new.self (λ ms r. body_rebinds ms ps (C ms) (statements_at ts p.body.items) (body_scope b (at ts p.identity) r))) (sym c.if-process.false)
    (a C ps c.new-found.ensures h o)) c.single-outcome.ensures
