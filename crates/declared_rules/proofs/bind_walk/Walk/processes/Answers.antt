-- Proves that processes are looked at.
use Rattle.std.proofs.Common.{ℕ, List, [], ◌++◌, take, refl, ap, ◌∙◌, subst}
use Rattle.pcal_tree.specs.declared.algorithm.Declaration.{Declaration}
use Rattle.pcal_tree.specs.declared.algorithm.Process.{Process}
use Rattle.pcal_tree.specs.InMemory.{declarations_at, process_at}
use Rattle.pcal_tree.specs.OffencesRebind.{any_name, locals_rebind, process_rebinds}
use Rattle.declared_rules.specs.declared.bind_walk.Walk.{Walk}
use Rattle.declared_rules.specs.Telling.{AddsNaming}
use Rattle.declared_rules.proofs.TellLaws.{adds_as, list_then, list_done, flat_mapped}
use Rattle.declared_rules.proofs.UnitLaws.{LocalWords}
use Rattle.declared_rules.proofs.ProcessLaws.{process_adds}
use Rattle.declared_rules.proofs.bind_walk.Walk.processes.Goals as goal

pub loop-i-init : goal.loop-i-init
loop-i-init c = λ C ps s h o k g. g

pub loop-i-preserved : goal.loop-i-preserved
loop-i-preserved c = λ C ps s h o k g.
    let ts = c.args.pool.now in
    let near = c.args.near.now in
    let p = c.index-list-i.result in
    let last : Walk = record { bound = c.truncate.new.self; first = c.process_body.new.self.first; free = c.process_body.new.self.free } in
    c.loop-i.invariant C ps s h o k
    (list_then near any_name (λ (p : Process) ms r. process_rebinds ms ps (C ms) r (process_at ts p)) c.loop-i.self last k c.args.list.now c.loop-i.i p c.index-list-i.is c.loop-i-test.true
    (process_adds near C ps ts p c.loop-i.self c.expr.new.self c.locals.new.self c.process_body.new.self last s.alone (c.in_ok-expr.ensures any_name)
    (subst (λ (ds : List Declaration). AddsNaming near any_name c.expr.new.self c.locals.new.self (LocalWords [] ds) (λ ms r. locals_rebind ms (declarations_at ts [] ++ declarations_at ts ds) r)) c.deref.ensures.value c.in_ok-locals.ensures)
    (c.in_ok-process_body.ensures C ps s h o) refl refl (c.truncate.ensures ∙ ap (λ (k : ℕ). take k c.process_body.new.self.bound) c.len-around.ensures)) g)

pub returns : goal.returns
returns c = λ C ps s h o.
    adds_as c.args.near.now any_name c.args.self.now c.loop-i.self _ _ (λ ms r. flat_mapped (process_rebinds ms ps (C ms) r) (process_at c.args.pool.now) c.args.list.now)
    (c.loop-i.invariant C ps s h o c.loop-i.self (list_done c.args.near.now any_name (λ (p : Process) ms r. process_rebinds ms ps (C ms) r (process_at c.args.pool.now p)) c.loop-i.self c.args.list.now c.loop-i.i c.loop-i-test.false))
