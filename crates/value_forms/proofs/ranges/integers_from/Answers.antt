-- Proves what is asked of `integers_from`.
use Rattle.std.proofs.Common.{◌≡◌, ◌∙◌, ◌∷◌, ◌++◌, [], ◌+◌, sym, ap, subst, arith}
use Rattle.std.proofs.lemmas.Int.{ints, to_z-of_z}
use Rattle.tla_value.specs.Value.{Values, values_in}
use Rattle.tla_value.specs.Sets.{integers}
use Rattle.tla_value.specs.Order.{IsAscending}
use Rattle.value_forms.specs.Parts.{AreParts}
use Rattle.value_forms.proofs.RangeLaws.{integers_push, integer_parts, integers_ascend}
use Rattle.value_forms.proofs.ranges.integers_from.Goals as goal

pub loop-i-preserved : goal.loop-i-preserved
loop-i-preserved c =
    let e = to_z-of_z _ c.args.m c.ranges.m in
    let items = c.in_ok-push.ensures.items ∙ ap (λ v. c.loop-i.all.items ++ v ∷ []) c.int.ensures in
    subst (λ q. values_in c.push.new.self.items ≡ integers (c.loop-i.i + 1) q) (sym e)
    (◌∙◌ {A = Values} (ap values_in items) (integers_push c.loop-i.all.items c.loop-i.i c.args.m _ (omega (arith, ints)) (c.loop-i.invariant ∙ ap (integers c.loop-i.i) e)))

pub returns-clause-integers : goal.returns-clause-integers
returns-clause-integers c =
    let n : c.loop-i.i ≡ c.args.many = omega arith in
    c.loop-i.invariant ∙ (λ k. integers (n k) (to_z-of_z _ c.args.m c.ranges.m k))

pub returns-clause-ascending : goal.returns-clause-ascending
returns-clause-ascending c = subst IsAscending (sym c.loop-i.invariant) (integers_ascend c.loop-i.i _)

pub returns-clause-parts : goal.returns-clause-parts
returns-clause-parts c =
    let n : c.loop-i.i ≡ c.args.many = omega arith in
    subst AreParts (sym (c.loop-i.invariant ∙ (λ k. integers (n k) (to_z-of_z _ c.args.m c.ranges.m k))))
    (integer_parts c.args.many c.args.m (omega (arith, ints, c.ranges.m.sfits)) c.requires)
