-- Proves that calls and their arguments are looked at, and other statements with none in them.
use Rattle.std.proofs.Common.{ℕ, List, length, sym, ap, ◌∙◌, subst}
use Rattle.std.proofs.lemmas.Result.{on_ok_weaker}
use Rattle.tla_tree.specs.Pool.{trees_at}
use Rattle.pcal_tree.specs.declared.algorithm.Assignment.{Assignment}
use Rattle.pcal_tree.specs.declared.algorithm.Simple.{Simple}
use Rattle.pcal_tree.specs.InMemory.{assignments_at, simple_at}
use Rattle.pcal_tree.specs.OffencesNames.{call_offences, in_assignments, in_each, in_one}
use Rattle.name_rules.specs.Finding.{Tells}
use Rattle.name_rules.proofs.TellLaws.{tells_then}
use Rattle.name_rules.proofs.TreeLaws.{counted}
use Rattle.name_rules.proofs.found.Found.simple.Goals as goal

pub returns-in-Assign : goal.returns-in-Assign
returns-in-Assign c =
    on_ok_weaker c.assignments.result
    (λ a C ps m.
    let ts = c.args.pool.now in
    subst (λ (z : Simple). Tells c.args.self.now c.assignments.new.self (in_one C ps c.args.place (simple_at ts z))) (sym c.in-Assign.is)
    (subst (λ (es : List Assignment). Tells c.args.self.now c.assignments.new.self (in_assignments (assignments_at ts es))) c.deref.ensures.value a)) c.assignments.ensures

pub returns-in-Await : goal.returns-in-Await
returns-in-Await c =
    on_ok_weaker c.expr.result (λ a C ps m. subst (λ (z : Simple). Tells c.args.self.now c.expr.new.self (in_one C ps c.args.place (simple_at c.args.pool.now z))) (sym c.in-Await.is) a) c.expr.ensures

pub returns-in-Print : goal.returns-in-Print
returns-in-Print c =
    on_ok_weaker c.expr-in-Print.result (λ a C ps m. subst (λ (z : Simple). Tells c.args.self.now c.expr-in-Print.new.self (in_one C ps c.args.place (simple_at c.args.pool.now z))) (sym c.in-Print.is) a) c.expr-in-Print.ensures

pub returns-in-Assert : goal.returns-in-Assert
returns-in-Assert c =
    on_ok_weaker c.expr-in-Assert.result (λ a C ps m. subst (λ (z : Simple). Tells c.args.self.now c.expr-in-Assert.new.self (in_one C ps c.args.place (simple_at c.args.pool.now z))) (sym c.in-Assert.is) a) c.expr-in-Assert.ensures

pub returns-in_ok-call_macro-in-Macro : goal.returns-in_ok-call_macro-in-Macro
returns-in_ok-call_macro-in-Macro c =
    on_ok_weaker c.exprs.result
    (λ a C ps m.
    let ts = c.args.pool.now in
    subst (λ (z : Simple). Tells c.args.self.now c.exprs.new.self (in_one C ps c.args.place (simple_at ts z))) (sym c.in-Macro.is)
    (tells_then c.args.self.now c.call_macro.new.self c.exprs.new.self (λ r. C r c.args.place c.in-Macro.name (trees_at ts c.in-Macro.es.items)) (in_each (trees_at ts c.in-Macro.es.items))
    (subst (λ (es : List ℕ). Tells c.args.self.now c.call_macro.new.self (λ r. C r c.args.place c.in-Macro.name (trees_at ts es))) c.deref-in-Macro.ensures.value (c.in_ok-call_macro-in-Macro.ensures C ps m))
    (subst (λ (es : List ℕ). Tells c.call_macro.new.self c.exprs.new.self (in_each (trees_at ts es))) c.deref-in-Macro-2.ensures.value a))) c.exprs.ensures

pub returns-in-Call : goal.returns-in-Call
returns-in-Call c =
    on_ok_weaker c.exprs-in-Call.result
    (λ a C ps m.
    let ts = c.args.pool.now in
    let many = c.len.ensures ∙ sym c.deref-in-Call.ensures.len ∙ ap (λ (es : List ℕ). length es) c.deref-in-Call.ensures.value ∙ sym (counted ts c.in-Call.es.items) in
    subst (λ (z : Simple). Tells c.args.self.now c.exprs-in-Call.new.self (in_one C ps c.args.place (simple_at ts z))) (sym c.in-Call.is)
    (tells_then c.args.self.now c.call_procedure.new.self c.exprs-in-Call.new.self _ (in_each (trees_at ts c.in-Call.es.items))
    (subst (λ (n : ℕ). Tells c.args.self.now c.call_procedure.new.self (λ r. call_offences ps c.args.place c.in-Call.name n)) many (c.call_procedure.ensures C ps m))
    (subst (λ (es : List ℕ). Tells c.call_procedure.new.self c.exprs-in-Call.new.self (in_each (trees_at ts es))) c.deref-in-Call.ensures.value a))) c.exprs-in-Call.ensures
