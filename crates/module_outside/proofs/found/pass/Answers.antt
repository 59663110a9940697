-- A unit behind the translation is passed on, or it declares something.
use Rattle.std.proofs.Common.{sym, ◌∙◌}
use Rattle.expr_nodes.specs.Ahead.{ahead}
use Rattle.module_outside.proofs.FoundLaws.{passes_declared, passes_on}
use Rattle.module_outside.proofs.found.pass.Goals as goal

pub returns-in_ok-push : goal.returns-in_ok-push
returns-in_ok-push c v =
    passes_on c.args.opaque.now.items c.push.new.self.items v (ahead c.args.unit.now 0) c.in_ok-passed_on.field-0 (sym c.in_ok-is_declared.ensures ∙ c.if-not-branch.true) c.in_ok-passed_on.ensures c.in_ok-push.ensures.items

pub returns-else-not-branch : goal.returns-else-not-branch
returns-else-not-branch c v = passes_declared c.args.opaque.now.items v (ahead c.args.unit.now 0) (sym c.in_ok-is_declared.ensures ∙ c.if-not-branch.false)
