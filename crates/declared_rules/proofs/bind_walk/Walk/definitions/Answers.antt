-- Proves that definitions are looked at.
use Rattle.std.proofs.Common.{ℕ, List, [], ◌∷◌, take, refl, ap, ◌∙◌, subst}
use Rattle.tla_tree.specs.Tree.{Name, words}
use Rattle.tla_tree.specs.Pool.{at}
use Rattle.pcal_tree.specs.declared.algorithm.Definition.{Definition}
use Rattle.pcal_tree.specs.OffencesRebind.{any_name, rebound_all, whole_rebinds}
use Rattle.algorithm_limits.specs.DepthsIn.{Hides}
use Rattle.declared_rules.specs.declared.bind_walk.Walk.{Walk}
use Rattle.declared_rules.specs.Telling.{Adds}
use Rattle.declared_rules.proofs.UnitLaws.{definition_adds, definitions_step, definitions_done}
use Rattle.declared_rules.proofs.bind_walk.Walk.definitions.Goals as goal

pub loop-i-init : goal.loop-i-init
loop-i-init c = λ k g. g

pub loop-i-preserved : goal.loop-i-preserved
loop-i-preserved c = λ k h.
    let g = c.args.sight.now in
    let ts = c.args.pool.now in
    let d = c.index-list-i.result in
    let mid : Walk = record { bound = c.add_all.new.self; first = c.names.new.self.first; free = c.names.new.self.free } in
    let cut : Walk = record { bound = c.truncate.new.self; first = c.expr.new.self.first; free = c.expr.new.self.free } in
    let last : Walk = record { bound = c.add.new.self; first = c.expr.new.self.first; free = c.expr.new.self.free } in
    c.loop-i.invariant k
    (definitions_step g ts c.loop-i.self last k c.args.list.now c.loop-i.i d c.index-list-i.is c.loop-i-test.true
    (definition_adds g ts c.loop-i.self c.names.new.self mid c.expr.new.self cut last d.params.items (at ts d.body) d.name.word
    (subst (λ (ns : List Name). Adds g any_name c.loop-i.self c.names.new.self (λ ms r. rebound_all ms r ns)) (c.deref.ensures.value ∙ ap (λ (e : Definition). e.params.items) c.definition.view_is) (c.in_ok-names.ensures any_name)) refl refl
    (subst (λ (ns : List Name). Hides c.names.new.self.bound c.add_all.new.self (words ns)) (c.deref-in-loop-i.ensures.value ∙ ap (λ (e : Definition). e.params.items) c.definition.view_is) c.in_ok-add_all.ensures)
    (subst (λ (e : Definition). Adds g any_name mid c.expr.new.self (λ ms r. whole_rebinds ms (at ts e.body) r)) c.definition.view_is (c.in_ok-expr.ensures any_name)) refl refl
    (c.truncate.ensures ∙ ap (λ (k : ℕ). take k c.expr.new.self.bound) c.len-around.ensures) refl refl
    (subst (λ (e : Definition). Hides c.truncate.new.self c.add.new.self (e.name.word ∷ [])) c.definition.view_is c.in_ok-add.ensures)) h)

pub returns : goal.returns
returns c = c.loop-i.invariant c.loop-i.self (definitions_done c.args.sight.now c.args.pool.now c.loop-i.self c.args.list.now c.loop-i.i c.loop-i-test.false)
