-- Proves that a statement with none in it is looked at.
use Rattle.std.proofs.Common.{ℕ, List, ◌++◌, refl, sym, subst}
use Rattle.std.proofs.lemmas.Result.{on_ok_weaker}
use Rattle.tla_tree.specs.Tree.{Word, Name, no_trees}
use Rattle.tla_tree.specs.Pool.{trees_at}
use Rattle.pcal_tree.specs.declared.algorithm.Assignment.{Assignment}
use Rattle.pcal_tree.specs.declared.algorithm.Simple.{Simple}
use Rattle.pcal_tree.specs.InMemory.{assignments_at, simple_at}
use Rattle.pcal_tree.specs.OffencesRebind.{any_name, Calls, jump_rebinds, call_rebinds, assignments_rebind, each_rebinds, one_rebinds}
use Rattle.declared_rules.specs.Telling.{Adds}
use Rattle.declared_rules.proofs.TellLaws.{adds_none, adds_then}
use Rattle.declared_rules.proofs.BindBodyLaws.{jump_adds}
use Rattle.declared_rules.proofs.bind_walk.Walk.simple.Goals as goal

pub returns-in-Assign : goal.returns-in-Assign
returns-in-Assign c =
    on_ok_weaker c.assignments.result
    (λ a C ps h.
    let g = c.args.sight.now in
    subst (λ (x : Simple). Adds g any_name c.args.self.now c.assignments.new.self (λ ms r. one_rebinds ms ps (C ms) (simple_at c.args.pool.now x) r)) (sym c.in-Assign.is)
    (subst (λ (es : List Assignment). Adds g any_name c.args.self.now c.assignments.new.self (λ ms r. assignments_rebind ms (assignments_at c.args.pool.now es) r)) c.deref.ensures.value a)) c.assignments.ensures

pub returns-in-Await : goal.returns-in-Await
returns-in-Await c =
    on_ok_weaker c.expr.result
    (λ a C ps h. subst (λ (x : Simple). Adds c.args.sight.now any_name c.args.self.now c.expr.new.self (λ ms r. one_rebinds ms ps (C ms) (simple_at c.args.pool.now x) r)) (sym c.in-Await.is) (a any_name)) c.expr.ensures

pub returns-in-Print : goal.returns-in-Print
returns-in-Print c =
    on_ok_weaker c.expr-in-Print.result
    (λ a C ps h. subst (λ (x : Simple). Adds c.args.sight.now any_name c.args.self.now c.expr-in-Print.new.self (λ ms r. one_rebinds ms ps (C ms) (simple_at c.args.pool.now x) r)) (sym c.in-Print.is) (a any_name)) c.expr-in-Print.ensures

pub returns-in-Assert : goal.returns-in-Assert
returns-in-Assert c =
    on_ok_weaker c.expr-in-Assert.result
    (λ a C ps h. subst (λ (x : Simple). Adds c.args.sight.now any_name c.args.self.now c.expr-in-Assert.new.self (λ ms r. one_rebinds ms ps (C ms) (simple_at c.args.pool.now x) r)) (sym c.in-Assert.is) (a any_name)) c.expr-in-Assert.ensures

pub returns-in-Skip : goal.returns-in-Skip
returns-in-Skip c = λ C ps h. subst (λ (x : Simple). Adds c.args.sight.now any_name c.args.self.now c.args.self.now (λ ms r. one_rebinds ms ps (C ms) (simple_at c.args.pool.now x) r)) (sym c.in-Skip.is) (adds_none c.args.sight.now any_name c.args.self.now)

pub returns-in-Goto : goal.returns-in-Goto
returns-in-Goto c =
    on_ok_weaker c.standing.result
    (λ a C ps h.
    subst (λ (x : Simple). Adds c.args.sight.now any_name c.args.self.now c.standing.new.self (λ ms r. one_rebinds ms ps (C ms) (simple_at c.args.pool.now x) r)) (sym c.in-Goto.is)
    (jump_adds c.args.sight.now c.args.self.now c.standing.new.self c.args.calls.now.process h.process (a any_name))) c.standing.ensures

pub returns-in-Macro : goal.returns-in-Macro
returns-in-Macro c =
    on_ok_weaker c.macro_call.result
    (λ a C ps h.
    let g = c.args.sight.now in
    subst (λ (x : Simple). Adds g any_name c.args.self.now c.macro_call.new.self (λ ms r. one_rebinds ms ps (C ms) (simple_at c.args.pool.now x) r)) (sym c.in-Macro.is)
    (subst (λ (es : List ℕ). Adds g any_name c.args.self.now c.macro_call.new.self (λ ms r. C ms r c.in-Macro.name (trees_at c.args.pool.now es) ++ each_rebinds ms (trees_at c.args.pool.now es) r)) c.deref-in-Macro.ensures.value (a C ps h)))
    c.macro_call.ensures

pub returns-in_ok-called-in-Call : goal.returns-in_ok-called-in-Call
returns-in_ok-called-in-Call c =
    on_ok_weaker c.exprs.result
    (λ a C ps h.
    let g = c.args.sight.now in
    let ts = trees_at c.args.pool.now c.in-Call.es.items in
    let P : List Word → Calls = λ ms s x ts. call_rebinds ms ps x s in
    subst (λ (x : Simple). Adds g any_name c.args.self.now c.exprs.new.self (λ ms r. one_rebinds ms ps (C ms) (simple_at c.args.pool.now x) r)) (sym c.in-Call.is)
    (adds_then g any_name c.args.self.now c.standing-in-Call.new.self c.exprs.new.self (λ ms r. jump_rebinds ms r) (λ ms r. call_rebinds ms ps c.in-Call.name.word r ++ each_rebinds ms ts r)
    (jump_adds g c.args.self.now c.standing-in-Call.new.self c.args.calls.now.process h.process (c.in_ok-standing-in-Call.ensures any_name))
    (adds_then g any_name c.standing-in-Call.new.self c.called.new.self c.exprs.new.self (λ ms r. call_rebinds ms ps c.in-Call.name.word r) (λ ms r. each_rebinds ms ts r)
    (subst (λ (n : Name). Adds g any_name c.standing-in-Call.new.self c.called.new.self (λ ms r. call_rebinds ms ps n.word r)) c.name.view_is (c.in_ok-called-in-Call.ensures P no_trees h.procedures refl))
    (subst (λ (es : List ℕ). Adds g any_name c.called.new.self c.exprs.new.self (λ ms r. each_rebinds ms (trees_at c.args.pool.now es) r)) c.deref-in-Call.ensures.value a)))) c.exprs.ensures

pub returns-in-Return : goal.returns-in-Return
returns-in-Return c = λ C ps h. subst (λ (x : Simple). Adds c.args.sight.now any_name c.args.self.now c.args.self.now (λ ms r. one_rebinds ms ps (C ms) (simple_at c.args.pool.now x) r)) (sym c.in-Return.is) (adds_none c.args.sight.now any_name c.args.self.now)
