-- A unit is a word and names, or something else is behind them.
use Rattle.std.proofs.Common.{◌≤◌, ℕ, length, ap, sym, subst, ◌∙◌, arith, Option, Vec, Global, IfSome}
use Rattle.tla_tree.specs.Tree.{Name}
use Rattle.expr_nodes.specs.Ahead.{ahead}
use Rattle.module_outside.specs.Fronts.{names_and_rest}
use Rattle.module_outside.proofs.NameLaws.{not_named, named_none, named_all, named_more}
use Rattle.module_outside.proofs.names.named.Goals as goal

pub returns-else-end-len : goal.returns-else-end-len
returns-else-end-len c =
    let within = subst (λ (o : Option (Vec Name Global × ℕ)). IfSome o (λ x. x.1 ≤ length c.args.unit.now.items.items)) c.in-Some.is c.in_ok-names.ensures.within in
    let other = c.if-end-len.false in
    let len = c.len.ensures in
    named_more c.args.unit.now c.args.word.now (sym c.is_keyword_at.ensures ∙ c.if-not-is_keyword_at.false) c.in-Some.names.items c.in-Some.end
    (ap (names_and_rest c.args.unit.now) (sym c.in-Some.is) ∙ c.in_ok-names.ensures.value) (omega (arith, within, other, len))

pub returns-then-not-is_keyword_at : goal.returns-then-not-is_keyword_at
returns-then-not-is_keyword_at c = not_named c.args.word.now (ahead c.args.unit.now 0) (sym c.is_keyword_at.ensures ∙ c.if-not-is_keyword_at.true)

pub returns-then-end-len : goal.returns-then-end-len
returns-then-end-len c =
    named_all c.args.unit.now c.args.word.now (sym c.is_keyword_at.ensures ∙ c.if-not-is_keyword_at.false) c.in-Some.names.items c.in-Some.end
    (ap (names_and_rest c.args.unit.now) (sym c.in-Some.is) ∙ c.in_ok-names.ensures.value) (let h = c.if-end-len.true in let k = c.len.ensures in omega (arith, h, k))

pub returns-in-None : goal.returns-in-None
returns-in-None c =
    named_none c.args.unit.now c.args.word.now (sym c.is_keyword_at.ensures ∙ c.if-not-is_keyword_at.false) (ap (names_and_rest c.args.unit.now) (sym c.in-None.is) ∙ c.in_ok-names.ensures.value)
