-- Proves that a part is looked at, also where all strings are directly right of `\in`.
use Rattle.std.proofs.Common.{◌&&◌, List, ℕ, sym, ap, ◌∙◌}
use Rattle.std.specs.List.{flat_map}
use Rattle.tla_tree.specs.Pool.{Entry}
use Rattle.declared_rules.specs.Parts.{expr_parts}
use Rattle.declared_rules.specs.Finding.{is_strings_of}
use Rattle.declared_rules.proofs.JoinLaws.{adds_as}
use Rattle.declared_rules.proofs.SweepLaws.{strings_joined, other_joined}
use Rattle.declared_rules.proofs.found.Found.part.Goals as goal
use Rattle.declared_rules.proofs.found.Found.part.Goals.{else-right-via-then-right+else-is_strings, else-right-via-else-right}

pub returns-then-is_strings : goal.returns-then-is_strings
returns-then-is_strings c =
    strings_joined c.args.pool.now c.args.self.now c.exprs.new.self c.args.right c.args.e c.in-Some.node.now.form c.in-Some.node.now.place c.in-Some.node.now.parts c.in-Some.ensures.some c.if-right.true
    (ap (λ (n : Entry). is_strings_of n.form) (sym c.node.view_is) ∙ sym c.is_strings.ensures ∙ c.if-is_strings.true)
    (adds_as c.args.pool.now c.args.self.now c.exprs.new.self _ _ (ap (λ (is : List ℕ). flat_map (expr_parts c.args.pool.now) is) (c.deref.ensures.value ∙ ap (λ (n : Entry). n.parts) c.node.view_is)) (c.exprs.ensures c.args.pool.now))

pub returns-else-right : goal.returns-else-right
returns-else-right c =
    let e = c.in-Some.node.now in
    other_joined c.args.pool.now c.args.self.now c.expr.new.self c.args.right c.args.e e.form e.place e.parts c.in-Some.ensures.some
    (elim c.else-right.branch [
      | else-right-via-then-right+else-is_strings w ↦
          (λ i. w.if-right.true i && is_strings_of e.form) ∙ ap (λ (n : Entry). is_strings_of n.form) (sym c.node.view_is) ∙ sym w.is_strings.ensures ∙ w.if-is_strings.false
      | else-right-via-else-right w ↦ λ i. w.if-right.false i && is_strings_of e.form
    ])
    (c.expr.ensures.adds c.requires c.args.pool.now)
