-- Proves that procedures are looked at.
use Rattle.std.proofs.Common.{ℕ, List, ◌++◌, take, refl, ap, ◌∙◌, subst}
use Rattle.pcal_tree.specs.declared.algorithm.Declaration.{Declaration}
use Rattle.pcal_tree.specs.declared.algorithm.Procedure.{Procedure}
use Rattle.pcal_tree.specs.declared.algorithm.Stmt.{Stmt}
use Rattle.pcal_tree.specs.InMemory.{statements_at, declarations_at, procedure_at}
use Rattle.pcal_tree.specs.OffencesRebind.{any_name, body_rebinds, locals_rebind, procedure_rebinds}
use Rattle.declared_rules.specs.declared.bind_walk.Walk.{Walk}
use Rattle.declared_rules.specs.Telling.{Adds, AddsNaming}
use Rattle.declared_rules.proofs.TellLaws.{adds_as, list_then, list_done, flat_mapped}
use Rattle.declared_rules.proofs.UnitLaws.{LocalWords, procedure_adds}
use Rattle.declared_rules.proofs.bind_walk.Walk.procedures.Goals as goal

pub loop-i-init : goal.loop-i-init
loop-i-init c = λ C ps h k g. g

pub loop-i-preserved : goal.loop-i-preserved
loop-i-preserved c = λ C ps h k q.
    let ts = c.args.pool.now in
    let g = c.args.sight.now in
    let p = c.index-list-i.result in
    let last : Walk = record { bound = c.truncate.new.self; first = c.body.new.self.first; free = c.body.new.self.free } in
    c.loop-i.invariant C ps h k
    (list_then g any_name (λ (p : Procedure) ms r. procedure_rebinds ms ps (C ms) r (procedure_at ts p)) c.loop-i.self last k c.args.list.now c.loop-i.i p c.index-list-i.is c.loop-i-test.true
    (procedure_adds g ts C ps p c.loop-i.self c.locals.new.self c.body.new.self last
    (subst (λ (ds : List Declaration). AddsNaming g any_name c.loop-i.self c.locals.new.self (LocalWords ds p.variables.items) (λ ms r. locals_rebind ms (declarations_at ts ds ++ declarations_at ts p.variables.items) r)) c.deref.ensures.value
    (subst (λ (es : List Declaration). AddsNaming g any_name c.loop-i.self c.locals.new.self (LocalWords c.deref.result.now es) (λ ms r. locals_rebind ms (declarations_at ts c.deref.result.now ++ declarations_at ts es) r)) c.deref-in-loop-i.ensures.value
    c.in_ok-locals.ensures))
    (subst (λ (ys : List Stmt). Adds g any_name c.locals.new.self c.body.new.self (λ ms r. body_rebinds ms ps (C ms) (statements_at ts ys) r)) c.deref-in-loop-i-2.ensures.value (c.in_ok-body.ensures C ps h))
    refl refl (c.truncate.ensures ∙ ap (λ (k : ℕ). take k c.body.new.self.bound) c.len-around.ensures)) q)

pub returns : goal.returns
returns c = λ C ps h.
    adds_as c.args.sight.now any_name c.args.self.now c.loop-i.self _ _ (λ ms r. flat_mapped (procedure_rebinds ms ps (C ms) r) (procedure_at c.args.pool.now) c.args.list.now)
    (c.loop-i.invariant C ps h c.loop-i.self (list_done c.args.sight.now any_name (λ (p : Procedure) ms r. procedure_rebinds ms ps (C ms) r (procedure_at c.args.pool.now p)) c.loop-i.self c.args.list.now c.loop-i.i c.loop-i-test.false))
