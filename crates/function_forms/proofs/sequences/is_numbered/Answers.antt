-- Proves what is asked of `is_numbered`.
use Rattle.std.proofs.Common.{◌∙◌, sym, arith, length, ◌-◌}
use Rattle.tla_value.proofs.ValueLists.{count-values_in}
use Rattle.function_forms.proofs.NumberedLaws.{known_by_last, begins_otherwise}
use Rattle.function_forms.proofs.sequences.is_numbered.Goals as goal

pub bounds-domain-0 : goal.bounds-domain-0
bounds-domain-0 c =
    omega (arith, count-values_in c.args.domain.now, count-values_in c.args.values.now, c.requires.each, c.if-many-eq0.false)

pub bounds-domain-many : goal.bounds-domain-many
bounds-domain-many c =
    omega (arith, count-values_in c.args.domain.now, count-values_in c.args.values.now, c.requires.each, c.if-many-eq0.false)

pub returns-then-is_number : goal.returns-then-is_number
returns-then-is_number c =
    let ds = c.args.domain.now in
    let vs = c.args.values.now in
    c.is_number-then-is_number.ensures ∙
    known_by_last ds vs (length vs - 1) (length vs) c.index-domain-0.result c.index-domain-many.result (omega (arith, c.if-many-eq0.false)) (omega (arith, count-values_in ds, count-values_in vs, c.requires.each)) (omega arith)
    c.requires.ascending c.index-domain-0.is c.index-domain-many.is (sym c.is_number.ensures ∙ c.if-is_number.true)

pub returns-else-is_number : goal.returns-else-is_number
returns-else-is_number c =
    let ds = c.args.domain.now in
    let vs = c.args.values.now in
    c.if-is_number.false ∙
    sym (begins_otherwise ds vs c.index-domain-0.result (omega (arith, count-values_in ds, count-values_in vs, c.requires.each, c.if-many-eq0.false)) (omega (arith, count-values_in ds, count-values_in vs, c.requires.each))
    c.index-domain-0.is (sym c.is_number.ensures ∙ c.if-is_number.false))
