-- Proves that a statement with none in it is looked at.
use Rattle.std.proofs.Common.{List, ℕ, sym, ap, ◌∙◌}
use Rattle.std.specs.List.{flat_map}
use Rattle.pcal_tree.specs.declared.algorithm.Assignment.{Assignment}
use Rattle.declared_rules.specs.Parts.{simple_parts, assignment_parts, expr_parts}
use Rattle.declared_rules.proofs.WalkLaws.{adds_none, adds_as, adds_then}
use Rattle.declared_rules.proofs.walk.Walked.simple.Goals as goal

pub returns-in-Assign : goal.returns-in-Assign
returns-in-Assign c = λ ts.
    adds_as ts c.args.self.now c.assignments.new.self _ _
    (ap (λ (ms : List Assignment). flat_map (assignment_parts ts) ms) c.deref.ensures.value ∙ ap (simple_parts ts c.args.place) (sym c.in-Assign.is)) (c.assignments.ensures ts)

pub returns-in-Await : goal.returns-in-Await
returns-in-Await c = λ ts. adds_as ts c.args.self.now c.expr.new.self _ _ (ap (simple_parts ts c.args.place) (sym c.in-Await.is)) (c.expr.ensures ts)

pub returns-in-Print : goal.returns-in-Print
returns-in-Print c = λ ts.
    adds_as ts c.args.self.now c.prints.new.self _ _ (ap (simple_parts ts c.args.place) (sym c.in-Print.is))
    (adds_then ts c.args.self.now c.expr-in-Print.new.self c.prints.new.self _ _ (c.expr-in-Print.ensures ts) (c.prints.ensures ts))

pub returns-in-Assert : goal.returns-in-Assert
returns-in-Assert c = λ ts.
    adds_as ts c.args.self.now c.prints-in-Assert.new.self _ _ (ap (simple_parts ts c.args.place) (sym c.in-Assert.is))
    (adds_then ts c.args.self.now c.expr-in-Assert.new.self c.prints-in-Assert.new.self _ _ (c.expr-in-Assert.ensures ts) (c.prints-in-Assert.ensures ts))

pub returns-in-Skip : goal.returns-in-Skip
returns-in-Skip c = λ ts. adds_as ts c.args.self.now c.args.self.now _ _ (ap (simple_parts ts c.args.place) (sym c.in-Skip.is)) (adds_none ts c.args.self.now)

pub returns-in-Goto : goal.returns-in-Goto
returns-in-Goto c = λ ts. adds_as ts c.args.self.now c.args.self.now _ _ (ap (simple_parts ts c.args.place) (sym c.in-Goto.is)) (adds_none ts c.args.self.now)

pub returns-in-Macro : goal.returns-in-Macro
returns-in-Macro c = λ ts.
    adds_as ts c.args.self.now c.exprs.new.self _ _
    (ap (λ (es : List ℕ). flat_map (expr_parts ts) es) c.deref-in-Macro.ensures.value ∙ ap (simple_parts ts c.args.place) (sym c.in-Macro.is)) (c.exprs.ensures ts)

pub returns-in-Call : goal.returns-in-Call
returns-in-Call c = λ ts.
    adds_as ts c.args.self.now c.exprs-in-Call.new.self _ _
    (ap (λ (es : List ℕ). flat_map (expr_parts ts) es) c.deref-in-Call.ensures.value ∙ ap (simple_parts ts c.args.place) (sym c.in-Call.is)) (c.exprs-in-Call.ensures ts)

pub returns-in-Return : goal.returns-in-Return
returns-in-Return c = λ ts. adds_as ts c.args.self.now c.args.self.now _ _ (ap (simple_parts ts c.args.place) (sym c.in-Return.is)) (adds_none ts c.args.self.now)
