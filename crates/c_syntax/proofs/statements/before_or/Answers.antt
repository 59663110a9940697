-- Proves what is asked of `before_or`.
use Rattle.std.proofs.Common.{refl, sym, ◌∙◌}
use Rattle.c_syntax.proofs.OrAfter.{none_from, none_in, or_is, or_left, or_at_bottom}
use Rattle.c_syntax.proofs.statements.before_or.Goals as goal

pub loop-open-init : goal.loop-open-init
loop-open-init c ts st h = record { under = st; stands = h; same = refl }

pub loop-open-preserved : goal.loop-open-preserved
loop-open-preserved c ts st h =
    or_left ts c.loop-open.rest.now c.in-Some.under.now c.in-Some.open.now st c.in-Some.ensures.cases.0 (c.loop-open.invariant ts st h)
    (sym c.or_after.ensures ∙ none_from c.or_after.result c.in_default-or_after.not-Some)

pub returns-in-Some-or_after : goal.returns-in-Some-or_after
returns-in-Some-or_after c ts st h =
    or_is ts c.loop-open.rest.now c.in-Some.under.now c.in-Some.open.now st c.in-Some-or_after.told c.in-Some.ensures.cases.0 (c.loop-open.invariant ts st h) (sym c.in-Some-or_after.ensures)

pub returns : goal.returns
returns c ts st h = or_at_bottom ts c.loop-open.rest.now st (none_in c.loop-open.rest.now c.in_default.ensures.cases) (c.loop-open.invariant ts st h)
